-- A file's counts and numbers keep their limits.
use Rattle.std.proofs.Common.{◌≡◌, ℕ, ◌≤◌, List, [], ◌∷◌, Option, Some, None, Ok, refl, subst, length, arith, codes}
use Rattle.std.specs.Prelude.{unwrap_or}
use Rattle.toml.specs.Data.{Members}
use Rattle.taps_base.specs.Lists.{ListState}
use Rattle.taps_endpoint.specs.declared.address.Ip.{Ip}
use Rattle.taps_endpoint.specs.declared.local.Local.{Local}
use Rattle.taps_endpoint.specs.declared.remote.Remote.{Remote}
use Rattle.taps_property.specs.declared.connection_props.ConnectionProps.{ConnectionProps}
use Rattle.taps_property.specs.declared.profile.Profile.{Profile}
use Rattle.taps_table.specs.Documents.{document}
use Rattle.taps_preconnection.specs.Endpoints.{local_at, remote_at, hosts_at}
use Rattle.taps_preconnection.specs.Exchanges.{default_exchange, exchange_at}
use Rattle.taps_preconnection.specs.File.{no_other_key, profile_at, tables_at, contents_at, needs_remote, with_defaults, consistent, preconnection_of}
use Rattle.taps_table.specs.Keys.{Keys, key, ◌&◌}
use Rattle.taps_preconnection.specs.Limits.{IsWithin}
use Rattle.taps_preconnection.specs.Messages.{message_at, messages_fit}
use Rattle.taps_preconnection.specs.Paths.{path_at, or_any, some_path}
use Rattle.taps_preconnection.specs.PropertySets.{connection_at, selections_at}
use Rattle.taps_preconnection.specs.Race.{default_race, race_at}
use Rattle.taps_base.specs.Results.{◌>>=◌}
use Rattle.taps_table.specs.Values.{name_of, array_of, each, table_of}
use Rattle.taps_preconnection.specs.declared.exchange.Exchange.{Exchange}
use Rattle.taps_preconnection.specs.declared.file.Contents.{Contents}
use Rattle.taps_preconnection.specs.declared.message.MessageSpec.{MessageSpec}
use Rattle.taps_preconnection.specs.declared.race.RacePlan.{RacePlan}
use Rattle.taps_preconnection.specs.declared.selections.Selections.{Selections}
use Rattle.taps_preconnection.specs.declared.path.Path.{Path}
use Rattle.taps_preconnection.specs.declared.preconnection.Preconnection.{Preconnection}
use Rattle.taps_base.proofs.Results.{both_ok, ok_same}
use Rattle.taps_table.proofs.Readings.{first_read, second_read, in_table, value_read, some_few, few_items}
use Rattle.taps_preconnection.proofs.TableLimits.{IsRaceWithin, default_within, race_within, IsExchangeWithin, default_exchange_within, exchange_within}

abbrev framers_key : Keys (Option (ListState (List ℕ)))
framers_key = key (codes "framers") (array_of 8 (each name_of))

abbrev selection_key : Option Profile → Keys (Option Selections)
selection_key profile = key (codes "selection") (table_of (selections_at profile))

abbrev connection_key : Keys (Option ConnectionProps)
connection_key = key (codes "connection") (table_of connection_at)

abbrev path_key : Keys (Option (ListState Path))
path_key = key (codes "path") (array_of 8 (each (table_of path_at)))

abbrev local_key : Keys (Option (ListState Local))
local_key = key (codes "local") (array_of 8 (each (table_of local_at)))

abbrev remote_key : Keys (Option (ListState Remote))
remote_key = key (codes "remote") (array_of 16 (each (table_of remote_at)))

abbrev hosts_key : Keys (Option (List (List ℕ × List Ip)))
hosts_key = key (codes "hosts") (table_of hosts_at)

abbrev race_key : Keys (Option RacePlan)
race_key = key (codes "race") (table_of race_at)

abbrev message_key : Keys (Option (ListState MessageSpec))
message_key = key (codes "message") (array_of 256 (each (table_of message_at)))

abbrev exchange_key : Keys (Option Exchange)
exchange_key = key (codes "exchange") (table_of exchange_at)

-- what was read at some keys of the top table
record AreRead (ms : Members) (contents : Contents) : Type 0 where
  framers : framers_key.reads [] ms ≡ Ok contents.framers
  paths : path_key.reads [] ms ≡ Ok contents.paths
  locals : local_key.reads [] ms ≡ Ok contents.locals
  remotes : remote_key.reads [] ms ≡ Ok contents.remotes
  race : race_key.reads [] ms ≡ Ok contents.race
  messages : message_key.reads [] ms ≡ Ok contents.messages
  exchange : exchange_key.reads [] ms ≡ Ok contents.exchange

all_read : (profile : Option Profile) (ms : Members) (contents : Contents) → tables_at profile ms ≡ Ok contents → AreRead ms contents
unfolding tables_at
all_read profile ms contents h =
    let two = framers_key & selection_key profile in
    let three = two & connection_key in
    let four = three & path_key in
    let five = four & local_key in
    let six = five & remote_key in
    let seven = six & hosts_key in
    let eight = seven & race_key in
    let nine = eight & message_key in
    let (t, read, made) = both_ok ((nine & exchange_key).reads [] ms) (λ t. Ok (record {
      profile = profile;
      framers = t.0.0.0.0.0.0.0.0.0;
      selections = t.0.0.0.0.0.0.0.0.1;
      connection = t.0.0.0.0.0.0.0.1;
      paths = t.0.0.0.0.0.0.1;
      locals = t.0.0.0.0.0.1;
      remotes = t.0.0.0.0.1;
      hosts = t.0.0.0.1;
      race = t.0.0.1;
      messages = t.0.1;
      exchange = t.1;
    })) contents h in
    let e9 = first_read nine exchange_key [] ms t read in
    let e8 = first_read eight message_key [] ms t.0 e9 in
    let e7 = first_read seven race_key [] ms t.0.0 e8 in
    let e6 = first_read six hosts_key [] ms t.0.0.0 e7 in
    let e5 = first_read five remote_key [] ms t.0.0.0.0 e6 in
    let e4 = first_read four local_key [] ms t.0.0.0.0.0 e5 in
    let e3 = first_read three path_key [] ms t.0.0.0.0.0.0 e4 in
    let e2 = first_read two connection_key [] ms t.0.0.0.0.0.0.0 e3 in
    subst (AreRead ms) (ok_same _ contents made) (record {
      framers = first_read framers_key (selection_key profile) [] ms t.0.0.0.0.0.0.0.0 e2;
      paths = second_read three path_key [] ms t.0.0.0.0.0.0 e4;
      locals = second_read four local_key [] ms t.0.0.0.0.0 e5;
      remotes = second_read five remote_key [] ms t.0.0.0.0 e6;
      race = second_read seven race_key [] ms t.0.0 e8;
      messages = second_read eight message_key [] ms t.0 e9;
      exchange = second_read nine exchange_key [] ms t read;
    })

few_paths_there : (found : Option (ListState Path)) (ms : Members) → path_key.reads [] ms ≡ Ok found → length (some_path found).items ≤ 8
few_paths_there None ms h = omega arith
few_paths_there (Some paths) ms h = few_or_any paths.items paths refl (some_few (codes "path") 8 (each (table_of path_at)) [] ms paths h)
  where
    few_or_any : (items : List Path) (paths : ListState Path) → items ≡ paths.items → length paths.items ≤ 8 → length (or_any items paths).items ≤ 8
    few_or_any [] paths e few = omega arith
    few_or_any (path ∷ more) paths e few = few

one_path_there : (found : Option (ListState Path)) → 1 ≤ length (some_path found).items
one_path_there None = omega arith
one_path_there (Some paths) = one_or_any paths.items paths refl
  where
    one_or_any : (items : List Path) (paths : ListState Path) → items ≡ paths.items → 1 ≤ length (or_any items paths).items
    one_or_any [] paths e = omega arith
    one_or_any (path ∷ more) paths e = rw (← e) (omega arith)

race_there : (found : Option RacePlan) (ms : Members) → race_key.reads [] ms ≡ Ok found → IsRaceWithin (unwrap_or found default_race)
race_there None ms h = default_within
race_there (Some race) ms h =
    let (d, read) = value_read (codes "race") (table_of race_at) [] ms race h in
    let (table, also) = in_table race_at (codes "race") d race read in
    race_within (codes "race") table race also

exchange_there : (found : Option Exchange) (ms : Members) → exchange_key.reads [] ms ≡ Ok found → IsExchangeWithin (unwrap_or found default_exchange)
exchange_there None ms h = default_exchange_within
exchange_there (Some exchange) ms h =
    let (d, read) = value_read (codes "exchange") (table_of exchange_at) [] ms exchange h in
    let (table, also) = in_table exchange_at (codes "exchange") d exchange read in
    exchange_within (codes "exchange") table exchange also

defaults_within : (ms : Members) (contents : Contents) → AreRead ms contents → IsWithin (with_defaults contents)
defaults_within ms contents read =
    let race = race_there contents.race ms read.race in
    let exchange = exchange_there contents.exchange ms read.exchange in
    record {
      some_path = one_path_there contents.paths;
      paths = few_paths_there contents.paths ms read.paths;
      locals = few_items (codes "local") 8 (each (table_of local_at)) [] ms contents.locals read.locals;
      remotes = few_items (codes "remote") 16 (each (table_of remote_at)) [] ms contents.remotes read.remotes;
      framers = few_items (codes "framers") 8 (each name_of) [] ms contents.framers read.framers;
      messages = few_items (codes "message") 256 (each (table_of message_at)) [] ms contents.messages read.messages;
      least_delay = race.delay.0;
      delay = race.delay.1;
      least_timeout = race.timeout.0;
      timeout = race.timeout.1;
      cancel = race.cancel;
      expect = exchange.expect.1;
      least_deadline = exchange.deadline.0;
      deadline = exchange.deadline.1;
      least_piece = exchange.piece.0;
      piece = exchange.piece.1;
      least_part = λ p e. (exchange.part p e).0;
      part = λ p e. (exchange.part p e).1;
      clones = exchange.clones.1;
      least_connections = exchange.connections.0;
      connections = exchange.connections.1;
    }

pub within : (bytes : List ℕ) (pre : Preconnection) → preconnection_of bytes ≡ Ok pre → IsWithin pre
unfolding preconnection_of contents_at consistent
within bytes pre h =
    let (ms, parsed, more) = both_ok (document bytes) (λ ms. contents_at ms >>= λ contents. consistent (with_defaults contents)) pre h in
    let (contents, read, checked) = both_ok (contents_at ms) (λ contents. consistent (with_defaults contents)) pre more in
    let (one, known, rest) = both_ok (no_other_key ms) (λ _. profile_at ms >>= λ profile. tables_at profile ms) contents read in
    let (profile, said, tables) = both_ok (profile_at ms) (λ profile. tables_at profile ms) contents rest in
    let whole = with_defaults contents in
    let (two, remotes, fits) = both_ok (needs_remote whole.exchange.role whole.remotes.items) (λ _. messages_fit whole.exchange.clones [] whole.messages.items >>= λ _. Ok whole) pre checked in
    let (three, fit, made) = both_ok (messages_fit whole.exchange.clones [] whole.messages.items) (λ _. Ok whole) pre fits in
    subst IsWithin (ok_same whole pre made) (defaults_within ms contents (all_read profile ms contents tables))
