-- What a race leaves to a session of both ends, whose listener was there before it.
use Rattle.std.specs.Prelude.{◌≡◌, ◌≢◌, ◌≤◌, ℕ, true, List, [], ◌∷◌, ◌++◌, Some}
use Rattle.taps_base.specs.Counts.{Rose}
use Rattle.taps_stack.specs.declared.target.Target.{Target}
use Rattle.taps_socket.specs.declared.item.Item.{Item}
use Rattle.taps_socket.specs.declared.item.Item.TheVariants as item
use Rattle.taps_socket.specs.declared.race_answer.RaceAnswer.{RaceAnswer}
use Rattle.taps_socket.specs.declared.race_answer.RaceAnswer.TheVariants as answers
use Rattle.taps_socket.specs.RaceTrace.{last_moment}
use Rattle.taps_socket.specs.Rules.{Rules}
use Rattle.taps_socket.specs.LawfulRace.{IsLawfulRace}
use Rattle.taps_socket.specs.Net.{Net, PreservesTraffic}
use Rattle.taps_socket.specs.Sides.{may_accept, target_of}
use Rattle.taps_command.specs.Nets.{IsClosedOnce}
use Rattle.taps_session.specs.Raced.{closes_of, HasWinner, HasUnusedWinner}

-- the winner's socket is another one than the listener's
abbrev pub IsOther : ℕ → RaceAnswer → Type 0
IsOther listener (answers.Ready leaf socket at) = socket ≢ listener
IsOther listener _ = Unit {0}

-- These items of a lawful race with this answer came to a trace of which the listener was all: it may still accept, and
-- with its close and that of the winner every socket is closed once.
pub record IsRacedBehind (rules : Rules) (targets : List Target) (listener : ℕ) (target : Target) (before after : Net)
    (race : List Item) (answer : RaceAnswer) : Type 0 where
  pub items : after.trace ≡ race ++ before.trace
  pub lawful : IsLawfulRace rules 0 targets race answer
  pub winner : HasWinner targets after.trace answer
  pub other : IsOther listener answer
  pub unused : HasUnusedWinner after answer
  pub told_last : after.told ≡ last_moment race
  pub accepts : may_accept after.trace listener ≡ true
  pub leads : target_of after.trace listener ≡ Some target
  pub closed_once : IsClosedOnce (item.Closed listener ∷ (closes_of answer ++ after.trace))
  pub room : 8 ≤ after.spare
  pub preserved : PreservesTraffic before after
  pub fault : answer ≡ answers.SocketFault → Rose before.faults after.faults

-- a race with this answer was carried out; so it is for each listener that was all of the trace before
pub record HasRacedBehind (rules : Rules) (targets : List Target) (before after : Net) (answer : RaceAnswer) :
    Type 0 where
  pub race : List Item
  pub behind : (listener at : ℕ) (target : Target) → before.trace ≡ item.Listening target listener at ∷ [] →
      IsRacedBehind rules targets listener target before after race answer
