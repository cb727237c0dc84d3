-- Each message and each priority of a file is of a member that there is.
use Rattle.std.proofs.Common.{◌≡◌, ◌≤◌, ◌+◌, ◌++◌, ◌||◌, ℕ, pos, negsuc, Bool, true, false, List, [], ◌∷◌, Option, Some, None, Result, Ok, length, codes, not, refl, subst, inl, inr, leb, arith}
use Rattle.std.specs.Prelude.{◌==◌, unwrap_or}
use Rattle.std.specs.List.{All}
use Rattle.std.proofs.lemmas.Bool.{cases_Bool, leb-true}
use Rattle.std.proofs.lemmas.List.Elements.{All-append, All-cons, All-nil}
use Rattle.toml.specs.Data.{Data, Items, Members, as_array, integer, item, no_items}
use Rattle.taps_base.proofs.Results.{both_ok, ok_same}
use Rattle.taps_base.specs.Lists.{ListState, filled}
use Rattle.taps_base.specs.Results.{◌>>=◌}
use Rattle.taps_table.proofs.Readings.{first_read, in_table, keys_read, second_read, value_read}
use Rattle.taps_table.specs.Documents.{count_items, document}
use Rattle.taps_table.specs.Keys.{Keys, key, keys_of, rule, ◌&◌}
use Rattle.taps_table.specs.Places.{item_text, key_text}
use Rattle.taps_table.specs.Values.{Reader, array_in, array_of, each, items_after, name_of, number_of, table_of}
use Rattle.taps_table.specs.Words.{word_of}
use Rattle.taps_preconnection.specs.Endpoints.{hosts_at, local_at, remote_at}
use Rattle.taps_preconnection.specs.Exchanges.{default_exchange, exchange_at, exchange_rules, is_initiate}
use Rattle.taps_preconnection.specs.File.{consistent, contents_at, needs_remote, no_other_key, preconnection_of, profile_at, tables_at, with_defaults}
use Rattle.taps_preconnection.specs.Messages.{has_ended, message_at, message_fits, message_text, messages_fit}
use Rattle.taps_preconnection.specs.Paths.{path_at}
use Rattle.taps_preconnection.specs.PropertySets.{connection_at, selections_at}
use Rattle.taps_preconnection.specs.Race.{race_at}
use Rattle.taps_preconnection.specs.Words.{role_words}
use Rattle.taps_preconnection.specs.declared.exchange.Exchange.{Exchange}
use Rattle.taps_preconnection.specs.declared.exchange.RunRole.{RunRole}
use Rattle.taps_preconnection.specs.declared.message.MessageSpec.{MessageSpec}
use Rattle.taps_preconnection.specs.declared.preconnection.Preconnection.{Preconnection}
use Rattle.taps_command.specs.Ready.{HasMembers}

-- a rule that was kept
kept_by : (path : List ℕ) (q : Bool) → rule path q ≡ Ok tt → q ≡ true
unfolding rule
kept_by path true h = refl
kept_by path false h = cc

one_fits : (clones : ℕ) (before : List MessageSpec) (m : MessageSpec) → message_fits clones before m ≡ Ok tt → m.member ≤ clones
unfolding message_fits
one_fits clones before m h =
    let (one, kept, rest) = both_ok (rule (key_text (message_text (length before)) (codes "member")) (leb m.member clones)) (λ _. rule (message_text (length before)) (not (has_ended before m.member))) tt h in
    leb-true m.member clones (kept_by (key_text (message_text (length before)) (codes "member")) (leb m.member clones) kept)

all_fit : (clones : ℕ) (before messages : List MessageSpec) → messages_fit clones before messages ≡ Ok tt → All (λ (m : MessageSpec). m.member ≤ clones) messages
unfolding messages_fit
all_fit clones before [] h = All-nil (λ (m : MessageSpec). m.member ≤ clones)
all_fit clones before (m ∷ messages) h =
    let (one, first, rest) = both_ok (message_fits clones before m) (λ _. messages_fit clones (before ++ m ∷ []) messages) tt h in
    All-cons (λ (m : MessageSpec). m.member ≤ clones) m messages (one_fits clones before m first) (all_fit clones (before ++ m ∷ []) messages rest)

abbrev number_key : List ℕ → ℕ → ℕ → Keys (Option ℕ)
number_key name low high = key name (number_of low high)

abbrev ExchangeKeys : Type 0
ExchangeKeys = ((((((Option RunRole × Option ℕ) × Option ℕ) × Option ℕ) × Option ℕ) × Option ℕ) × Option (ListState ℕ)) × Option ℕ

-- the exchange that its keys give
abbrev exchange_from : ExchangeKeys → Exchange
exchange_from t = record {
  role = unwrap_or t.0.0.0.0.0.0.0 default_exchange.role;
  expect = unwrap_or t.0.0.0.0.0.0.1 default_exchange.expect;
  deadline_ms = unwrap_or t.0.0.0.0.0.1 default_exchange.deadline_ms;
  piece = unwrap_or t.0.0.0.0.1 default_exchange.piece;
  part = t.0.0.0.1;
  clones = unwrap_or t.0.0.1 default_exchange.clones;
  priorities = unwrap_or t.0.1 default_exchange.priorities;
  connections = unwrap_or t.1 default_exchange.connections;
}

-- the numbers of an array keep their range
abbrev IsSmall : ℕ → Type 0
IsSmall p = p ≤ 4294967295

abbrev priority_of : Reader ℕ
priority_of = number_of 0 4294967295

number_under : (low high : ℕ) (path : List ℕ) (d : Data) (n : ℕ) → number_of low high path d ≡ Ok n → n ≤ high
number_under low high path (integer (pos m)) n h = elim (cases_Bool (leb low m)) [
  | inl least ↦ elim (cases_Bool (leb m high)) [
    | inl most ↦
        let given = rw (least, most) at h in
        let same : m ≡ n = cc in
        subst (λ v. v ≤ high) same (leb-true m high most)
    | inr more ↦ let wrong = rw (least, more) at h in cc
  ]
  | inr less ↦ let wrong = rw less at h in cc
]
number_under low high path (integer (negsuc m)) n h = cc
number_under low high path d n h = cc

small : (path : List ℕ) (d : Data) (n : ℕ) → priority_of path d ≡ Ok n → IsSmall n
small path d n h = number_under 0 4294967295 path d n h

all_small : (path : List ℕ) (before xs : List ℕ) (ds : Items) → items_after (each priority_of) path before ds ≡ Ok xs → All IsSmall before → All IsSmall xs
unfolding items_after
all_small path before xs no_items h all = subst (λ (v : List ℕ). All IsSmall v) (ok_same before xs h) all
all_small path before xs (item d ds) h all =
    let (x, read, more) = both_ok (priority_of (item_text path (length before)) d) (λ x. items_after (each priority_of) path (before ++ x ∷ []) ds) xs h in
    all_small path (before ++ x ∷ []) xs ds more (All-append IsSmall before (x ∷ []) all (All-cons IsSmall x [] (small (item_text path (length before)) d x read) (All-nil IsSmall)))

array_small : (path : List ℕ) (ds : Option Items) (list : ListState ℕ) → array_in 16 (each priority_of) path ds ≡ Ok list → All IsSmall list.items
array_small path None list h = cc
array_small path (Some ds) list h = elim (cases_Bool (leb (count_items ds) 16)) [
  | inl fits ↦
      let (xs, read, made) = both_ok (items_after (each priority_of) path [] ds) (λ items. Ok (filled items)) list (rw fits at h) in
      subst (λ (v : ListState ℕ). All IsSmall v.items) (ok_same (filled xs) list made) (all_small path [] xs ds read (All-nil IsSmall))
  | inr many ↦ let wrong = rw many at h in cc
]

priorities_small : (path : List ℕ) (ms : Members) (found : Option (ListState ℕ)) → (key (codes "priorities") (array_of 16 (each priority_of))).reads path ms ≡ Ok found → All IsSmall (unwrap_or found default_exchange.priorities).items
unfolding array_of
priorities_small path ms None h = All-nil IsSmall
priorities_small path ms (Some list) h =
    let (d, read) = value_read (codes "priorities") (array_of 16 (each priority_of)) path ms list h in
    array_small (key_text path (codes "priorities")) (as_array d) list read

abbrev HasFew : Exchange → Type 0
HasFew exchange = (length exchange.priorities.items ≤ exchange.clones + 1) × All IsSmall exchange.priorities.items

few_by : (path : List ℕ) (exchange kept : Exchange) → exchange_rules path exchange ≡ Ok kept → All IsSmall exchange.priorities.items → HasFew kept
unfolding exchange_rules
few_by path exchange kept h bounded =
    let few : Bool = leb (length exchange.priorities.items) (exchange.clones + 1) in
    let (one, clones, more) = both_ok (rule (key_text path (codes "clones")) (is_initiate exchange.role || (exchange.clones == 0))) (λ _. rule (key_text path (codes "priorities")) few >>= λ _. Ok exchange) kept h in
    let (two, priorities, made) = both_ok (rule (key_text path (codes "priorities")) few) (λ _. Ok exchange) kept more in
    subst HasFew (ok_same exchange kept made) (leb-true (length exchange.priorities.items) (exchange.clones + 1) (kept_by (key_text path (codes "priorities")) few priorities), bounded)

few_in : (path : List ℕ) (ms : Members) (exchange : Exchange) → exchange_at path ms ≡ Ok exchange → HasFew exchange
unfolding exchange_at
few_in path ms exchange h =
    let six = key (codes "role") (word_of role_words) & number_key (codes "expect") 0 256 & number_key (codes "deadline_ms") 1 3600000 & number_key (codes "piece") 1 65536
    & number_key (codes "part") 1 1048576 & number_key (codes "clones") 0 15 in
    let priorities_key = key (codes "priorities") (array_of 16 (each priority_of)) in
    let seven = six & priorities_key in
    let last = number_key (codes "connections") 1 16 in
    let (t, given, made) = both_ok (keys_of (seven & last) path ms) (λ t. exchange_rules path (exchange_from t)) exchange h in
    let read = second_read six priorities_key path ms t.0 (first_read seven last path ms t (keys_read (seven & last) path ms t given)) in
    few_by path (exchange_from t) exchange made (priorities_small path ms t.0.1 read)

-- the exchange of a file, or none
few_there : (found : Option Exchange) (ms : Members) → (key (codes "exchange") (table_of exchange_at)).reads [] ms ≡ Ok found → HasFew (unwrap_or found default_exchange)
few_there None ms h = (omega arith, All-nil IsSmall)
few_there (Some exchange) ms h =
    let (d, read) = value_read (codes "exchange") (table_of exchange_at) [] ms exchange h in
    let (table, also) = in_table exchange_at (codes "exchange") d exchange read in
    few_in (codes "exchange") table exchange also

pub has_members : (bytes : List ℕ) (pre : Preconnection) → preconnection_of bytes ≡ Ok pre → HasMembers pre
unfolding preconnection_of contents_at tables_at consistent
has_members bytes pre h =
    let (ms, parsed, more) = both_ok (document bytes) (λ ms. contents_at ms >>= λ contents. consistent (with_defaults contents)) pre h in
    let (contents, read, checked) = both_ok (contents_at ms) (λ contents. consistent (with_defaults contents)) pre more in
    let (one, known, rest) = both_ok (no_other_key ms) (λ _. profile_at ms >>= λ profile. tables_at profile ms) contents read in
    let (profile, said, tables) = both_ok (profile_at ms) (λ profile. tables_at profile ms) contents rest in
    let whole : Preconnection = with_defaults contents in
    let (two, remotes, fits) = both_ok (needs_remote whole.exchange.role whole.remotes.items) (λ _. messages_fit whole.exchange.clones [] whole.messages.items >>= λ _. Ok whole) pre checked in
    let (three, fit, made) = both_ok (messages_fit whole.exchange.clones [] whole.messages.items) (λ _. Ok whole) pre fits in
    let nine = key (codes "framers") (array_of 8 (each name_of)) & key (codes "selection") (table_of (selections_at profile)) & key (codes "connection") (table_of connection_at)
    & key (codes "path") (array_of 8 (each (table_of path_at))) & key (codes "local") (array_of 8 (each (table_of local_at))) & key (codes "remote") (array_of 16 (each (table_of remote_at)))
    & key (codes "hosts") (table_of hosts_at) & key (codes "race") (table_of race_at) & key (codes "message") (array_of 256 (each (table_of message_at))) in
    let last = key (codes "exchange") (table_of exchange_at) in
    let (t, found, filled_in) = both_ok ((nine & last).reads [] ms) (λ t. Ok (record {
      profile = profile;
      framers = t.0.0.0.0.0.0.0.0.0;
      selections = t.0.0.0.0.0.0.0.0.1;
      connection = t.0.0.0.0.0.0.0.1;
      paths = t.0.0.0.0.0.0.1;
      locals = t.0.0.0.0.0.1;
      remotes = t.0.0.0.0.1;
      hosts = t.0.0.0.1;
      race = t.0.0.1;
      messages = t.0.1;
      exchange = t.1;
    })) contents tables in
    let there : last.reads [] ms ≡ Ok contents.exchange = subst (λ c. last.reads [] ms ≡ Ok c.exchange) (ok_same _ contents filled_in) (second_read nine last [] ms t found) in
    let few = few_there contents.exchange ms there in
    subst HasMembers (ok_same whole pre made) (record {
      messages = all_fit whole.exchange.clones [] whole.messages.items fit;
      priorities = few.0;
      bounded = few.1;
    })
