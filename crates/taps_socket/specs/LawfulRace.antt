-- Which traces are those of a lawful race (RFC 9623 sections 4.3 and 4.4; the turn rules are this project's own).
use Rattle.std.specs.Prelude.{◌≡◌, ℕ, ◌+◌, true, false, min, List, [], ◌∷◌, slice_get, Option, None, Some}
use Rattle.std.specs.List.{reduce}
use Rattle.taps_stack.specs.declared.target.Target.{Target}
use Rattle.taps_socket.specs.declared.item.Item.{Item}
use Rattle.taps_socket.specs.declared.item.Item.TheVariants.{Started, Refused, Waited, Closed}
use Rattle.taps_socket.specs.declared.race_answer.RaceAnswer.{RaceAnswer}
use Rattle.taps_socket.specs.declared.race_answer.RaceAnswer.TheVariants.{Ready}
use Rattle.taps_socket.specs.RaceTrace.{IsRaceTrace}
use Rattle.taps_socket.specs.RaceSockets.{has}
use Rattle.taps_socket.specs.Standing.{Standing, standing, losers}
use Rattle.taps_socket.specs.Rules.{Rules}
use Rattle.taps_socket.specs.Over as ends
use Rattle.taps_socket.specs.Turn.{is_due, wait_end}

-- each item keeps a rule, judged by how the race stood before it
abbrev pub Each : (Item → Standing → Type 0) → List Item → Type 0
Each Rule [] = Unit {0}
Each Rule (item ∷ earlier) = Rule item (standing earlier) × Each Rule earlier

-- attempt number k, counted from 0, carries the leaf number first + k
abbrev pub HasLeaf : ℕ → Item → Standing → Type 0
HasLeaf first (Started leaf target socket at) race = leaf ≡ first + race.attempts
HasLeaf first (Refused leaf target cause at) race = leaf ≡ first + race.attempts
HasLeaf first _ race = Unit {0}

-- and the target of leaf k
abbrev pub HasTarget : List Target → Item → Standing → Type 0
HasTarget targets (Started leaf target socket at) race = slice_get targets race.attempts ≡ Some target
HasTarget targets (Refused leaf target cause at) race = slice_get targets race.attempts ≡ Some target
HasTarget targets _ race = Unit {0}

-- an attempt may come: the race is not over, its leaf is due and no broken socket is open
pub record MayAttempt (rules : Rules) (race : Standing) : Type 0 where
  pub not_over : ends.over rules race ≡ None
  pub due : is_due rules race ≡ true
  pub none_broken : race.broken ≡ []

-- a wait up to this moment may come: the race is not over, no leaf is due and no broken socket is open
pub record MayWait (rules : Rules) (race : Standing) (until : ℕ) : Type 0 where
  pub not_over : ends.over rules race ≡ None
  pub not_due : is_due rules race ≡ false
  pub none_broken : race.broken ≡ []
  pub end : until ≡ wait_end rules race

-- a close of this socket may come: while the race is not over it is open and broke, and then it is the smallest open
-- one but the winner's
abbrev pub MayClose : Option RaceAnswer → Standing → ℕ → Type 0
MayClose None race socket = has race.broken socket ≡ true
MayClose (Some answer) race socket = reduce min (losers race) ≡ Some socket

-- an attempt comes where it may
abbrev pub AttemptsWhenDue : Rules → Item → Standing → Type 0
AttemptsWhenDue rules (Started leaf target socket at) race = MayAttempt rules race
AttemptsWhenDue rules (Refused leaf target cause at) race = MayAttempt rules race
AttemptsWhenDue rules _ race = Unit {0}

-- a wait comes where it may
abbrev pub WaitsWhenNothingDue : Rules → Item → Standing → Type 0
WaitsWhenNothingDue rules (Waited until at how) race = MayWait rules race until
WaitsWhenNothingDue rules _ race = Unit {0}

-- a close comes where it may
abbrev pub ClosesInOrder : Rules → Item → Standing → Type 0
ClosesInOrder rules (Closed socket) race = MayClose (ends.over rules race) race socket
ClosesInOrder rules _ race = Unit {0}

-- a race that is lawful so far, whatever its attempts' targets
pub record IsUnfinishedRace (rules : Rules) (first : ℕ) (trace : List Item) : Type 0 where
  pub race_trace : IsRaceTrace trace
  pub attempts_in_order : Each (HasLeaf first) trace
  pub attempts_when_due : Each (AttemptsWhenDue rules) trace
  pub waits_when_nothing_due : Each (WaitsWhenNothingDue rules) trace
  pub closes_in_order : Each (ClosesInOrder rules) trace

-- these open sockets are the winner's alone for Ready, and none otherwise
abbrev pub WinnerAlone : RaceAnswer → List ℕ → Type 0
WinnerAlone (Ready leaf socket at) still_open = still_open ≡ socket ∷ []
WinnerAlone _ still_open = still_open ≡ []

-- the race is over with this answer, and what is to be closed is closed
pub record IsOver (rules : Rules) (race : Standing) (answer : RaceAnswer) : Type 0 where
  pub over : ends.over rules race ≡ Some answer
  pub winner_alone : WinnerAlone answer race.still_open

-- a race that is lawful with its answer
pub record IsLawfulRace (rules : Rules) (first : ℕ) (targets : List Target)
    (trace : List Item) (answer : RaceAnswer) : Type 0 where
  pub race : IsUnfinishedRace rules first trace
  pub targets_in_order : Each (HasTarget targets) trace
  pub over : IsOver rules (standing trace) answer
