-- The meaning of a file: its Preconnection, or the first refusal (a local format, in TOML).
use Rattle.std.specs.Prelude.{ℕ, List, [], ◌∷◌, Option, Result, Ok, Err, codes, unwrap_or}
use Rattle.toml.specs.Data.{Members}
use Rattle.taps_base.specs.Lists.{filled}
use Rattle.taps_endpoint.specs.declared.remote.Remote.{Remote}
use Rattle.taps_property.specs.Connections.{default_connection}
use Rattle.taps_property.specs.declared.profile.Profile.{Profile}
use Rattle.taps_table.specs.Documents.{document}
use Rattle.taps_preconnection.specs.Endpoints.{local_at, remote_at, hosts_at}
use Rattle.taps_preconnection.specs.Exchanges.{exchange_at, default_exchange}
use Rattle.taps_table.specs.Keys.{known, key, ◌&◌, keys_of}
use Rattle.taps_preconnection.specs.Messages.{message_at, messages_fit}
use Rattle.taps_preconnection.specs.Paths.{path_at, some_path}
use Rattle.taps_preconnection.specs.PropertySets.{connection_at, selections_at, unselected, is_replayable}
use Rattle.taps_preconnection.specs.Race.{race_at, default_race}
use Rattle.taps_base.specs.Results.{◌>>=◌}
use Rattle.taps_table.specs.Values.{number_of, name_of, array_of, each, table_of}
use Rattle.taps_table.specs.Words.{word_of}
use Rattle.taps_preconnection.specs.Words.{profile_words}
use Rattle.taps_preconnection.specs.declared.exchange.RunRole.{RunRole}
use Rattle.taps_preconnection.specs.declared.exchange.RunRole.TheVariants.{Initiate, Listen, Loop}
use Rattle.taps_preconnection.specs.declared.file.Contents.{Contents}
use Rattle.taps_table.specs.declared.pre_error.PreError.{PreError}
use Rattle.taps_table.specs.declared.pre_error.PreError.TheVariants.{NoRemote}
use Rattle.taps_preconnection.specs.declared.preconnection.Preconnection.{Preconnection}

-- the keys of the top table
abbrev pub top_names : List (List ℕ)
top_names =
    codes "format" ∷ codes "profile" ∷ codes "framers" ∷ codes "selection" ∷ codes "connection" ∷ codes "path"
    ∷ codes "local" ∷ codes "remote" ∷ codes "hosts" ∷ codes "race" ∷ codes "message" ∷ codes "exchange" ∷ []

-- the top table has no other key
unfoldable pub no_other_key : Members → Result (Unit {0}) PreError
no_other_key ms = keys_of (known top_names) [] ms

-- the first two: the format, which there is one of, and the profile
unfoldable pub profile_at : Members → Result (Option Profile) PreError
profile_at ms = do
  (format, profile) ← (
      key (codes "format") (number_of 1 1)
      & key (codes "profile") (word_of profile_words)
      ).reads [] ms
  Ok profile

-- the others, of which the selection stands on the profile
unfoldable pub tables_at : Option Profile → Members → Result Contents PreError
tables_at profile ms = do
  (((((((((framers, selections), connection), paths), locals), remotes), hosts), race), messages), exchange) ← (
      key (codes "framers") (array_of 8 (each name_of))
      & key (codes "selection") (table_of (selections_at profile))
      & key (codes "connection") (table_of connection_at)
      & key (codes "path") (array_of 8 (each (table_of path_at)))
      & key (codes "local") (array_of 8 (each (table_of local_at)))
      & key (codes "remote") (array_of 16 (each (table_of remote_at)))
      & key (codes "hosts") (table_of hosts_at)
      & key (codes "race") (table_of race_at)
      & key (codes "message") (array_of 256 (each (table_of message_at)))
      & key (codes "exchange") (table_of exchange_at)
      ).reads [] ms
  Ok (record {
    profile = profile;
    framers = framers;
    selections = selections;
    connection = connection;
    paths = paths;
    locals = locals;
    remotes = remotes;
    hosts = hosts;
    race = race;
    messages = messages;
    exchange = exchange;
  })

-- what stands at the keys of the top table, in their order
unfoldable pub contents_at : Members → Result Contents PreError
contents_at ms = do
  _ ← no_other_key ms
  profile ← profile_at ms
  tables_at profile ms

-- an end that reaches out has a remote
unfoldable pub needs_remote : RunRole → List Remote → Result (Unit {0}) PreError
needs_remote Initiate [] = Err NoRemote
needs_remote Loop [] = Err NoRemote
needs_remote Listen [] = Ok tt
needs_remote role (remote ∷ more) = Ok tt

-- the contents, and a default for each key that is missing
abbrev pub with_defaults : Contents → Preconnection
with_defaults contents = record {
  initiating = (unwrap_or contents.selections (unselected contents.profile)).initiating;
  listening = (unwrap_or contents.selections (unselected contents.profile)).listening;
  meeting = (unwrap_or contents.selections (unselected contents.profile)).meeting;
  replayable = is_replayable contents.profile;
  connection = unwrap_or contents.connection default_connection;
  paths = some_path contents.paths;
  locals = unwrap_or contents.locals (filled []);
  remotes = unwrap_or contents.remotes (filled []);
  hosts = unwrap_or contents.hosts [];
  race = unwrap_or contents.race default_race;
  framers = unwrap_or contents.framers (filled []);
  messages = unwrap_or contents.messages (filled []);
  exchange = unwrap_or contents.exchange default_exchange;
}

-- the rules that the tables keep together
unfoldable pub consistent : Preconnection → Result Preconnection PreError
consistent pre = do
  _ ← needs_remote pre.exchange.role pre.remotes.items
  _ ← messages_fit pre.exchange.clones [] pre.messages.items
  Ok pre

-- the Preconnection that the bytes give, or the first refusal
unfoldable pub preconnection_of : List ℕ → Result Preconnection PreError
preconnection_of bytes = document bytes >>= λ ms. contents_at ms >>= λ contents. consistent (with_defaults contents)
