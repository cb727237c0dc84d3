-- What a racer keeps of its race.
use Rattle.std.specs.Prelude.{◌≡◌, ◌<◌, ◌≤◌, ◌^◌, ℕ, Bool, false, List, [], length, Option, None}
use Rattle.std.specs.List.{filter_map, All}
use Rattle.std.specs.Option.{option_map_or}
use Rattle.taps_base.specs.declared.gap.Gap.{Gap}
use Rattle.taps_base.specs.declared.gap.Gap.TheVariants.{After, Never}
use Rattle.taps_socket.specs.declared.race_answer.RaceAnswer.{RaceAnswer}
use Rattle.taps_socket.specs.Standing.{Standing}
use Rattle.taps_socket.specs.Rules.{Rules}
use Rattle.taps_racer.specs.declared.attempt.Attempt.{Attempt}
use Rattle.taps_racer.specs.Attempts.{socket_of, open_socket, pending_socket, broken_socket}

-- its rules, the moments of its beginning, of its newest event and of its newest attempt, whether a wait was faulted,
-- the answer of the first completion, and its attempts, the first of them first
pub record Kept : Type 0 where
  pub rules : Rules
  pub begun : ℕ
  pub last : ℕ
  pub last_attempt : ℕ
  pub faulted : Bool
  pub ready : Option RaceAnswer
  pub attempts : List Attempt

-- how the race stands by it
abbrev pub standing_of : Kept → Standing
standing_of kept =
    record {
      begun = kept.begun;
      last = kept.last;
      last_attempt = kept.last_attempt;
      attempts = length kept.attempts;
      faulted = kept.faulted;
      ready = kept.ready;
      started = filter_map socket_of kept.attempts;
      still_open = filter_map open_socket kept.attempts;
      pending = filter_map pending_socket kept.attempts;
      broken = filter_map broken_socket kept.attempts;
    }

-- before its race nothing is attempted
abbrev pub fresh : Rules → Kept
fresh rules =
    record { rules = rules; begun = 0; last = 0; last_attempt = 0; faulted = false; ready = None; attempts = [] }

-- it is such a one
abbrev pub IsFresh : Kept → Type 0
IsFresh kept = kept ≡ fresh kept.rules

-- a gap of at most two seconds (RFC 8305 section 8), or none that ends
abbrev pub IsShort : Gap → Type 0
IsShort (After gap) = gap ≤ 2000
IsShort Never = Unit {0}

-- the bounds by which its sums of moments fit
pub record IsBounded (kept : Kept) : Type 0 where
  pub few : length kept.rules.gaps ≤ 1024
  pub short : All IsShort kept.rules.gaps
  pub timeout : kept.rules.timeout ≤ 3600000
  pub cancel : option_map_or (λ c. c) kept.rules.cancel 0 ≤ 3600000
  pub begun : kept.begun < 2 ^ 63
  pub last : kept.last < 2 ^ 63
  pub last_attempt : kept.last_attempt < 2 ^ 63
  pub attempts : length kept.attempts ≤ length kept.rules.gaps
