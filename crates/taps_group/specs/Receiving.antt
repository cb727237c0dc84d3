-- What one member of a group does to receive: the call of its connection, with that call's clauses.
use Rattle.std.specs.Prelude.{◌≡◌, ◌≤◌, ◌<◌, ◌-◌, ◌^◌, ◌++◌, ℕ, List, Option, Result, false, IsOk, OnOk, OnErr}
use Rattle.taps_base.specs.declared.no_memory.NoMemory.{NoMemory}
use Rattle.taps_framer.specs.declared.framer.Framer as framer
use Rattle.taps_chain.specs.Layers.{layers_of}
use Rattle.taps_chain.specs.declared.heard.Heard.{Heard}
use Rattle.taps_chain.specs.declared.heard.Heard.TheVariants as heard
use Rattle.taps_stack.specs.StackTable.{is_stream}
use Rattle.taps_socket.specs.Calls.{Call}
use Rattle.taps_socket.specs.Net.{Net}
use Rattle.taps_connection.specs.declared.pulled.Pulled.{Pulled}
use Rattle.taps_connection.specs.Adds.{Adds}
use Rattle.taps_connection.specs.Conditions.{IsHeld}
use Rattle.taps_connection.specs.Histories.{Given, Represents, RepresentsRead, Decodes, given_by}
use Rattle.taps_connection.specs.Inboxes.{inbox_of, IsPulled, UnlessFailed, pulled_items, pulled_call}
use Rattle.taps_connection.specs.Receives.{IsGivenOut}
use Rattle.taps_connection.specs.Rooms.{room_of}
use Rattle.taps_connection.specs.Sources.{unread_of}
use Rattle.taps_connection.specs.Unread.{count_given, IsWanting}
use Rattle.taps_group.specs.declared.member.Member.{Member}

-- A member made room for so many bytes that are to come (local): nothing but its room changed, which did not shrink.
-- Memory ran out only where there was less room, and then it stayed.
pub record MakesRoom {X : Type 0} {F : X → Type 0} (bytes : ℕ) (result : Result (Unit {0}) NoMemory)
    (m n : Member X F) : Type 0 where
  pub ok : OnOk result (bytes ≤ room_of n.connection.receiver.source)
  pub grows : room_of m.connection.receiver.source ≤ room_of n.connection.receiver.source
  pub had : bytes ≤ room_of m.connection.receiver.source → IsOk result
  pub err : OnErr result (room_of n.connection.receiver.source ≡ room_of m.connection.receiver.source)
  pub unread : unread_of n.connection.receiver.source ≡ unread_of m.connection.receiver.source
  pub ended : n.connection.receiver.ended ≡ m.connection.receiver.ended
  pub kept : n ≡ record m { connection = record m.connection { receiver = n.connection.receiver } }

-- a member may ask its socket for bytes
pub record MayDriveIn {X : Type 0} {F : X → Type 0} (net : Net) (until : ℕ) (m : Member X F) : Type 0 where
  pub wanting : IsWanting (unread_of m.connection.receiver.source)
  pub goes_on : m.connection.receiver.ended ≡ false
  pub held : IsHeld net.trace m.connection.socket (is_stream m.connection.stack) m.connection.sender.shut
      m.connection.receiver.ended
  pub spare : 1 ≤ net.spare
  pub bounded : until < 2 ^ 63

-- it asked once
pub record DrivesIn {X : Type 0} {F : X → Type 0} {N : Type 0} (boxed : (x : X) → framer.Ghosts (F x))
    (Becomes : N → List Call → N → Type 0) (before after : N) (net net' : Net)
    (until : ℕ) (answer : Pulled) (m n : Member X F) : Type 0 where
  pub pulled : IsPulled Becomes before after net net' m.connection.socket until
      (inbox_of m.connection.receiver m.connection.sender.moment) answer
      (inbox_of n.connection.receiver n.connection.sender.moment)
  pub held : UnlessFailed answer (IsHeld net'.trace m.connection.socket (is_stream m.connection.stack)
      m.connection.sender.shut n.connection.receiver.ended)
  pub adds : Adds m.connection.socket (pulled_items m.connection.socket answer)
      (pulled_call m.connection.socket until answer) net net'
  pub traffic : net'.traffic m.connection.socket ≡
      record (net.traffic m.connection.socket) { read = (net'.traffic m.connection.socket).read }
  pub represents : (given : List Given) →
      RepresentsRead (layers_of boxed m.connection.chain) m.connection.receiver.ended
      (unread_of m.connection.receiver.source) (net.traffic m.connection.socket).read given →
      RepresentsRead (layers_of boxed m.connection.chain) n.connection.receiver.ended
      (unread_of n.connection.receiver.source) (net'.traffic m.connection.socket).read given
  pub kept : n ≡ record m {
    connection = record m.connection { receiver = n.connection.receiver; sender = n.connection.sender };
  }
  pub sender : n.connection.sender ≡ record m.connection.sender { moment = n.connection.sender.moment }

-- it may give out what it read
pub record MayReceive {X : Type 0} {F : X → Type 0} (m : Member X F) : Type 0 where
  pub given : count_given (unread_of m.connection.receiver.source) < 2 ^ 64 - 1

-- it gave out what comes next, with no call on its socket
pub record GivesOut {X : Type 0} {F : X → Type 0} (boxed : (x : X) → framer.Ghosts (F x)) (answer : Heard)
    (m n : Member X F) : Type 0 where
  pub given_out : IsGivenOut (layers_of boxed m.connection.chain) m.connection.receiver.ended
      (unread_of m.connection.receiver.source) answer (unread_of n.connection.receiver.source)
  pub represents : (read : Option (List (List ℕ))) (given : List Given) →
      RepresentsRead (layers_of boxed m.connection.chain) m.connection.receiver.ended
      (unread_of m.connection.receiver.source) read given →
      RepresentsRead (layers_of boxed m.connection.chain) m.connection.receiver.ended
      (unread_of n.connection.receiver.source) read (given ++ given_by (unread_of m.connection.receiver.source) answer)
  pub decodes : (read : List (List ℕ)) (given : List Given) →
      Represents (layers_of boxed m.connection.chain) m.connection.receiver.ended
      (unread_of m.connection.receiver.source) read given →
      Decodes (layers_of boxed m.connection.chain) (unread_of n.connection.receiver.source) read
      (given ++ given_by (unread_of m.connection.receiver.source) answer) answer
  pub wanting : answer ≡ heard.Need → IsWanting (unread_of n.connection.receiver.source)
  pub ended : n.connection.receiver.ended ≡ m.connection.receiver.ended
  pub kept : n ≡ record m { connection = record m.connection { receiver = n.connection.receiver } }
