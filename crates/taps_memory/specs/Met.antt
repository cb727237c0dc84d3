-- Which sockets meet in memory: the winner of a race, and the one that is accepted behind it (local). A list of calls
-- stands with its newest one first.
use Rattle.std.specs.Prelude.{◌≡◌, ℕ, true, List, [], ◌∷◌, ◌++◌, slice_get, Some}
use Rattle.taps_stack.specs.declared.target.Target.{Target}
use Rattle.taps_stack.specs.StackTable.{is_stream}
use Rattle.taps_socket.specs.declared.answers.ListenAnswer.TheVariants as listen
use Rattle.taps_socket.specs.declared.answers.AcceptAnswer.TheVariants as accept
use Rattle.taps_socket.specs.declared.item.Item.{Item}
use Rattle.taps_socket.specs.declared.race_answer.RaceAnswer.TheVariants.{Ready}
use Rattle.taps_socket.specs.Calls.{Call, listens, accepts, items_of, AddEach}
use Rattle.taps_socket.specs.LawfulRace.{IsLawfulRace}
use Rattle.taps_socket.specs.Rules.{Rules}
use Rattle.taps_memory.specs.Joined.{are_ends, AreJoinedEnds}
use Rattle.taps_memory.specs.Memory.{Memory, Represents, net_of}
use Rattle.taps_memory.specs.MemoryAnswers.{Setting}
use Rattle.taps_memory.specs.MemorySteps.{Follows}

-- the first call of all was a listen; a lawful race went over the sockets behind it, which the one socket won; and the
-- first connection that the listener gave then was the other
pub record IsAcceptedBehindRace (calls : List Call) (from to : ℕ) : Type 0 where
  pub target : Target
  pub listener : ℕ
  pub since : ℕ
  pub rules : Rules
  pub first : ℕ
  pub targets : List Target
  pub raced : List Call
  pub race : List Item
  pub leaf : ℕ
  pub at : ℕ
  pub until : ℕ
  pub accepted : ℕ
  pub later : List Call
  pub all : calls ≡ later ++ accepts listener until (accept.Accepted to accepted)
      ∷ (raced ++ listens target (listen.Listening listener since) ∷ [])
  pub each : AddEach raced race
  pub lawful : IsLawfulRace rules first targets race (Ready leaf from at)

-- both are then the two ends of one connection
abbrev pub MeetInMemory : Type 0
MeetInMemory = (set : Setting) (calls : List Call) (from to : ℕ) → Follows set calls →
    IsAcceptedBehindRace calls from to → are_ends (items_of calls) from to ≡ true

-- and the target of the leaf that won is a stream's
abbrev pub WinsOverStream : Type 0
WinsOverStream = (set : Setting) (calls : List Call) (from to : ℕ) → Follows set calls →
    (h : IsAcceptedBehindRace calls from to) → (target : Target) → slice_get h.targets h.leaf ≡ Some target →
    is_stream target.stack ≡ true

-- so each of them reads what was written at the other
abbrev pub JoinsWinner : Memory → Type 0
JoinsWinner m = (calls : List Call) (from to : ℕ) → Represents m calls → IsAcceptedBehindRace calls from to →
    AreJoinedEnds (net_of m).traffic from to
