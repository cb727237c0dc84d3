-- What one member of a group does to send: the call of its connection, with that call's clauses.
use Rattle.std.specs.Prelude.{◌≡◌, ◌≤◌, ◌<◌, ◌^◌, ℕ, List}
use Rattle.taps_framer.specs.declared.framer.Framer as framer
use Rattle.taps_chain.specs.Layers.{layers_of}
use Rattle.taps_stack.specs.StackTable.{is_stream}
use Rattle.taps_socket.specs.Calls.{Call}
use Rattle.taps_socket.specs.Net.{Net}
use Rattle.taps_connection.specs.declared.sender.Pushed.{Pushed}
use Rattle.taps_connection.specs.Adds.{Adds}
use Rattle.taps_connection.specs.Conditions.{IsHeld}
use Rattle.taps_connection.specs.Encodings.{encoding_of}
use Rattle.taps_connection.specs.Senders.{IsDriven, UnlessFailed, pushed_items, pushed_call, rest_of}
use Rattle.taps_connection.specs.Written.{KeepsWritten}
use Rattle.taps_group.specs.declared.member.Member.{Member}

-- a member may send
pub record MayDriveOut {X : Type 0} {F : X → Type 0} (net : Net) (until : ℕ) (m : Member X F) : Type 0 where
  pub held : IsHeld net.trace m.connection.socket (is_stream m.connection.stack) m.connection.sender.shut
      m.connection.receiver.ended
  pub room : rest_of m.connection.sender ≤ (net.traffic m.connection.socket).room
  pub spare : 1 ≤ net.spare
  pub bounded : until < 2 ^ 63

-- it brought its begun message, or the next of its queue, out
pub record DrivesOut {X : Type 0} {F : X → Type 0} {N : Type 0} (boxed : (x : X) → framer.Ghosts (F x))
    (Becomes : N → List Call → N → Type 0) (before after : N) (net net' : Net)
    (until : ℕ) (answer : Pushed) (m n : Member X F) : Type 0 where
  pub driven : IsDriven Becomes (encoding_of (is_stream m.connection.stack) (layers_of boxed m.connection.chain))
      before after m.connection.socket until m.connection.sender answer n.connection.sender
  pub adds : Adds m.connection.socket (pushed_items m.connection.socket n.connection.sender.shut answer)
      (pushed_call m.connection.socket until answer) net net'
  pub written : KeepsWritten
      (encoding_of (is_stream m.connection.stack) (layers_of boxed m.connection.chain))
      (is_stream m.connection.stack) (net.traffic m.connection.socket).written
      (net'.traffic m.connection.socket).written m.connection.sender answer n.connection.sender
  pub read : (net'.traffic m.connection.socket).read ≡ (net.traffic m.connection.socket).read
  pub room : rest_of n.connection.sender ≤ (net'.traffic m.connection.socket).room
  pub held : UnlessFailed answer (IsHeld net'.trace m.connection.socket (is_stream m.connection.stack)
      n.connection.sender.shut m.connection.receiver.ended)
  pub kept : n ≡ record m { connection = record m.connection { sender = n.connection.sender } }
