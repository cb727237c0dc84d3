-- The numbers of the tables `race` and `exchange` keep their ranges.
use Rattle.std.proofs.Common.{◌≡◌, ℕ, ◌≤◌, List, Option, Some, Ok, subst, arith, codes}
use Rattle.std.specs.Prelude.{unwrap_or, nat_le, ◌||◌, ◌==◌, ◌+◌, length}
use Rattle.toml.specs.Data.{Members}
use Rattle.taps_base.specs.Lists.{ListState}
use Rattle.taps_preconnection.specs.Exchanges.{is_initiate, default_exchange, exchange_rules, exchange_at}
use Rattle.taps_table.specs.Keys.{Keys, key, ◌&◌, keys_of, rule}
use Rattle.taps_table.specs.Places.{key_text}
use Rattle.taps_preconnection.specs.Race.{default_race, race_at}
use Rattle.taps_base.specs.Results.{◌>>=◌}
use Rattle.taps_table.specs.Values.{number_of, array_of, each}
use Rattle.taps_table.specs.Words.{word_of}
use Rattle.taps_preconnection.specs.Words.{mode_words, role_words}
use Rattle.taps_preconnection.specs.declared.exchange.Exchange.{Exchange}
use Rattle.taps_preconnection.specs.declared.exchange.RunRole.{RunRole}
use Rattle.taps_preconnection.specs.declared.race.Mode.{Mode}
use Rattle.taps_preconnection.specs.declared.race.RacePlan.{RacePlan}
use Rattle.taps_base.proofs.Results.{both_ok, ok_same}
use Rattle.taps_table.proofs.Readings.{IsFrom, first_read, second_read, keys_read, some_from, from_default}

-- the limits of a race
pub record IsRaceWithin (race : RacePlan) : Type 0 where
  pub delay : IsFrom 10 2000 race.delay_ms
  pub timeout : IsFrom 1 3600000 race.timeout_ms
  pub cancel : (c : ℕ) → race.cancel_ms ≡ Some c → c ≤ 3600000

pub default_within : IsRaceWithin default_race
default_within = record { delay = (omega arith, omega arith); timeout = (omega arith, omega arith); cancel = λ c e. cc }

abbrev mode_key : Keys (Option Mode)
mode_key = key (codes "mode") (word_of mode_words)

abbrev number_key : List ℕ → ℕ → ℕ → Keys (Option ℕ)
number_key name low high = key name (number_of low high)

pub race_within : (path : List ℕ) (ms : Members) (race : RacePlan) → race_at path ms ≡ Ok race → IsRaceWithin race
unfolding race_at
race_within path ms race h =
    let delay_key = number_key (codes "delay_ms") 10 2000 in
    let timeout_key = number_key (codes "timeout_ms") 1 3600000 in
    let cancel_key = number_key (codes "cancel_ms") 0 3600000 in
    let two = mode_key & delay_key in
    let three = two & timeout_key in
    let (t, given, made) = both_ok (keys_of (three & cancel_key) path ms) (λ t. Ok (record {
      mode = unwrap_or t.0.0.0 default_race.mode;
      delay_ms = unwrap_or t.0.0.1 default_race.delay_ms;
      timeout_ms = unwrap_or t.0.1 default_race.timeout_ms;
      cancel_ms = t.1;
    })) race h in
    let four_read = keys_read (three & cancel_key) path ms t given in
    let three_read = first_read three cancel_key path ms t four_read in
    let two_read = first_read two timeout_key path ms t.0 three_read in
    let cancel_read = second_read three cancel_key path ms t four_read in
    subst IsRaceWithin (ok_same _ race made) (record {
      delay = from_default (codes "delay_ms") 10 2000 default_race.delay_ms path ms t.0.0.1 default_within.delay (second_read mode_key delay_key path ms t.0.0 two_read);
      timeout = from_default (codes "timeout_ms") 1 3600000 default_race.timeout_ms path ms t.0.1 default_within.timeout (second_read two timeout_key path ms t.0 three_read);
      cancel = λ c e. (some_from (codes "cancel_ms") 0 3600000 path ms c (rw e at cancel_read)).1;
    })

rules_keep : (path : List ℕ) (exchange kept : Exchange) → exchange_rules path exchange ≡ Ok kept → exchange ≡ kept
unfolding exchange_rules
rules_keep path exchange kept h =
    let (one, clones, more) = both_ok (rule (key_text path (codes "clones")) (is_initiate exchange.role || (exchange.clones == 0)))
    (λ _. rule (key_text path (codes "priorities")) (nat_le (length exchange.priorities.items) (exchange.clones + 1)) >>= λ _. Ok exchange) kept h in
    let (two, priorities, made) = both_ok (rule (key_text path (codes "priorities")) (nat_le (length exchange.priorities.items) (exchange.clones + 1))) (λ _. Ok exchange) kept more in
    ok_same exchange kept made

abbrev role_key : Keys (Option RunRole)
role_key = key (codes "role") (word_of role_words)

abbrev priorities_key : Keys (Option (ListState ℕ))
priorities_key = key (codes "priorities") (array_of 16 (each (number_of 0 4294967295)))

-- what is read at the keys of a table `exchange`
abbrev ExchangeKeys : Type 0
ExchangeKeys = ((((((Option RunRole × Option ℕ) × Option ℕ) × Option ℕ) × Option ℕ) × Option ℕ) × Option (ListState ℕ)) × Option ℕ

-- the exchange that they give
abbrev exchange_from : ExchangeKeys → Exchange
exchange_from t = record {
  role = unwrap_or t.0.0.0.0.0.0.0 default_exchange.role;
  expect = unwrap_or t.0.0.0.0.0.0.1 default_exchange.expect;
  deadline_ms = unwrap_or t.0.0.0.0.0.1 default_exchange.deadline_ms;
  piece = unwrap_or t.0.0.0.0.1 default_exchange.piece;
  part = t.0.0.0.1;
  clones = unwrap_or t.0.0.1 default_exchange.clones;
  priorities = unwrap_or t.0.1 default_exchange.priorities;
  connections = unwrap_or t.1 default_exchange.connections;
}

-- the limits of an exchange
pub record IsExchangeWithin (exchange : Exchange) : Type 0 where
  pub expect : IsFrom 0 256 exchange.expect
  pub deadline : IsFrom 1 3600000 exchange.deadline_ms
  pub piece : IsFrom 1 65536 exchange.piece
  pub part : (p : ℕ) → exchange.part ≡ Some p → IsFrom 1 1048576 p
  pub clones : IsFrom 0 15 exchange.clones
  pub connections : IsFrom 1 16 exchange.connections

pub default_exchange_within : IsExchangeWithin default_exchange
default_exchange_within = record {
  expect = (omega arith, omega arith);
  deadline = (omega arith, omega arith);
  piece = (omega arith, omega arith);
  part = λ p e. cc;
  clones = (omega arith, omega arith);
  connections = (omega arith, omega arith);
}

pub exchange_within : (path : List ℕ) (ms : Members) (exchange : Exchange) → exchange_at path ms ≡ Ok exchange → IsExchangeWithin exchange
unfolding exchange_at
exchange_within path ms exchange h =
    let expect_key = number_key (codes "expect") 0 256 in
    let deadline_key = number_key (codes "deadline_ms") 1 3600000 in
    let piece_key = number_key (codes "piece") 1 65536 in
    let part_key = number_key (codes "part") 1 1048576 in
    let clones_key = number_key (codes "clones") 0 15 in
    let connections_key = number_key (codes "connections") 1 16 in
    let two = role_key & expect_key in
    let three = two & deadline_key in
    let four = three & piece_key in
    let five = four & part_key in
    let six = five & clones_key in
    let seven = six & priorities_key in
    let (t, given, made) = both_ok (keys_of (seven & connections_key) path ms) (λ t. exchange_rules path (exchange_from t)) exchange h in
    let e8 = keys_read (seven & connections_key) path ms t given in
    let e7 = first_read seven connections_key path ms t e8 in
    let e6 = first_read six priorities_key path ms t.0 e7 in
    let e5 = first_read five clones_key path ms t.0.0 e6 in
    let e4 = first_read four part_key path ms t.0.0.0 e5 in
    let e3 = first_read three piece_key path ms t.0.0.0.0 e4 in
    let e2 = first_read two deadline_key path ms t.0.0.0.0.0 e3 in
    let part_read = second_read four part_key path ms t.0.0.0 e5 in
    subst IsExchangeWithin (rules_keep path (exchange_from t) exchange made) (record {
      expect = from_default (codes "expect") 0 256 default_exchange.expect path ms t.0.0.0.0.0.0.1 default_exchange_within.expect (second_read role_key expect_key path ms t.0.0.0.0.0.0 e2);
      deadline = from_default (codes "deadline_ms") 1 3600000 default_exchange.deadline_ms path ms t.0.0.0.0.0.1 default_exchange_within.deadline (second_read two deadline_key path ms t.0.0.0.0.0 e3);
      piece = from_default (codes "piece") 1 65536 default_exchange.piece path ms t.0.0.0.0.1 default_exchange_within.piece (second_read three piece_key path ms t.0.0.0.0 e4);
      part = λ p e. some_from (codes "part") 1 1048576 path ms p (rw e at part_read);
      clones = from_default (codes "clones") 0 15 default_exchange.clones path ms t.0.0.1 default_exchange_within.clones (second_read five clones_key path ms t.0.0 e6);
      connections = from_default (codes "connections") 1 16 default_exchange.connections path ms t.1 default_exchange_within.connections (second_read seven connections_key path ms t e8);
    })
