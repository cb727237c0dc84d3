-- What a race leaves that was carried out over sockets.
use Rattle.std.specs.Prelude.{◌≡◌, ◌<◌, ◌≤◌, ℕ, ◌+◌, ◌*◌, true, false, List, [], ◌++◌, length, slice_get, Some}
use Rattle.taps_base.specs.Counts.{Rose}
use Rattle.taps_stack.specs.declared.target.Target.{Target}
use Rattle.taps_socket.specs.declared.item.Item.{Item}
use Rattle.taps_socket.specs.declared.race_answer.RaceAnswer.{RaceAnswer}
use Rattle.taps_socket.specs.declared.race_answer.RaceAnswer.TheVariants.{Ready, SocketFault}
use Rattle.taps_socket.specs.RaceTrace.{tries, last_moment}
use Rattle.taps_socket.specs.RaceSockets.{has, started, completed, closed, open_sockets, pending_sockets}
use Rattle.taps_socket.specs.LiveSockets.{live_sockets, named}
use Rattle.taps_socket.specs.Sides.{target_of, may_send, may_receive}
use Rattle.taps_socket.specs.Once.{IsOnce}
use Rattle.taps_socket.specs.Rules.{Rules}
use Rattle.taps_socket.specs.Over.{over}
use Rattle.taps_socket.specs.LawfulRace.{IsLawfulRace}
use Rattle.taps_socket.specs.Net.{Net, IsUnused, PreservesTraffic}
use Rattle.taps_racer.specs.Kept.{Kept, standing_of}

-- this is the answer of an ended racer
abbrev pub HasAnswer : Kept → RaceAnswer → Type 0
HasAnswer kept answer = over kept.rules (standing_of kept) ≡ Some answer

-- a leaf of the list won: its attempt gave the socket, which is live and completed, leads to the leaf's target, and may
-- send and receive
pub record IsWinner (targets : List Target) (race trace : List Item) (leaf socket : ℕ) : Type 0 where
  pub listed : leaf < length targets
  pub attempt : slice_get (tries race) leaf ≡ Some (Some socket)
  pub live : has (live_sockets trace) socket ≡ true
  pub done : has (completed trace) socket ≡ true
  pub target : target_of trace socket ≡ slice_get targets leaf
  pub sends : may_send trace socket ≡ true
  pub receives : may_receive trace socket ≡ true

-- the answer names such a one, if it names one
abbrev pub NamesWinner : List Target → List Item → List Item → RaceAnswer → Type 0
NamesWinner targets race trace (Ready leaf socket at) = IsWinner targets race trace leaf socket
NamesWinner targets race trace _ = Unit {0}

-- the items that came to the sockets' trace are a lawful race with this answer; it names no socket of the trace before;
-- its own sockets are live where they are open in it, and have no traffic; none is pending, and none was closed twice;
-- no traffic of any socket changed, and no timed call was made; and the count of faults did not fall, and rose for a
-- fault
pub record IsCarriedOut (rules : Rules) (first : ℕ) (targets : List Target)
    (before after : Net) (race : List Item) (answer : RaceAnswer) : Type 0 where
  pub items : after.trace ≡ race ++ before.trace
  pub lawful : IsLawfulRace rules first targets race answer
  pub few : length race ≤ 4 * length targets + 1
  pub room : before.spare ≤ after.spare + length race
  pub told_last : after.told ≡ last_moment race
  pub winner : NamesWinner targets race after.trace answer
  pub own : (s : ℕ) → has (started race) s ≡ true → has (live_sockets after.trace) s ≡ has (open_sockets race) s
  pub new_sockets : (s : ℕ) → has (named race) s ≡ true → has (named before.trace) s ≡ false
  pub unused : (s : ℕ) → has (started race) s ≡ true → IsUnused (after.traffic s)
  pub preserved : PreservesTraffic before after
  pub idle : pending_sockets after.trace ≡ []
  pub closed_once : IsOnce (closed before.trace) → IsOnce (closed after.trace)
  pub counted : before.faults ≤ after.faults
  pub fault : answer ≡ SocketFault → Rose before.faults after.faults

-- the racer has the answer of a race that was carried out
abbrev pub HasCarriedOut : Rules → ℕ → List Target → Net → Net → Kept → Type 0
HasCarriedOut rules first targets before after kept =
    (race : List Item) × (answer : RaceAnswer) × HasAnswer kept answer
    × IsCarriedOut rules first targets before after race answer
