-- What the tests keep of the two ends of a connection between their calls.
use Rattle.std.specs.Prelude.{◌≡◌, ◌≢◌, ◌≤◌, ℕ, Bool, true, false}
use Rattle.taps_framer.specs.declared.framer.Framer as framer
use Rattle.taps_chain.specs.Layers.{layers_of}
use Rattle.taps_stack.specs.StackTable.{is_stream}
use Rattle.taps_socket.specs.LiveSockets.{live_sockets}
use Rattle.taps_socket.specs.RaceSockets.{has}
use Rattle.taps_socket.specs.Net.{Net}
use Rattle.taps_connection.specs.declared.connection.Connection.{Connection}
use Rattle.taps_connection.specs.Conditions.{IsHeld}
use Rattle.taps_connection.specs.Inboxes.{IsSoundReceiver}
use Rattle.taps_connection.specs.Senders.{rest_of}
use Rattle.taps_connection.specs.Sound.{IsSound}

-- all calls may be made on an end
pub record IsUsable {X : Type 0} {F : X → Type 0} {S : Type 0} (boxed : (x : X) → framer.Ghosts (F x))
    (c : Connection S X F) (net : Net) : Type 0 where
  pub sending : IsSound (is_stream c.stack) (layers_of boxed c.chain) c.sender
  pub receiving : IsSoundReceiver boxed c.stack (layers_of boxed c.chain) c.receiver
  pub held : IsHeld net.trace c.socket (is_stream c.stack) c.sender.shut c.receiver.ended
  pub room : rest_of c.sender ≤ (net.traffic c.socket).room

-- all calls may be made on each of two ends
pub record AreUsable {X : Type 0} {F : X → Type 0} {S : Type 0} (boxed : (x : X) → framer.Ghosts (F x))
    (c d : Connection S X F) (net : Net) : Type 0 where
  pub apart : d.socket ≢ c.socket
  pub one : IsUsable boxed c net
  pub other : IsUsable boxed d net

-- what calls on a socket leave of each other one
pub record LeavesOthers (socket : ℕ) (before after : Net) : Type 0 where
  pub held : (s : ℕ) (stream is_shut has_ended : Bool) → s ≢ socket →
      IsHeld before.trace s stream is_shut has_ended → IsHeld after.trace s stream is_shut has_ended
  pub traffic : (s : ℕ) → s ≢ socket → after.traffic s ≡ before.traffic s

-- the socket can be closed
abbrev pub IsLive : ℕ → Net → Type 0
IsLive socket net = has (live_sockets net.trace) socket ≡ true

-- connections may be made over the two ends of one, whose sockets have these numbers
pub record AreMet (net : Net) : Type 0 where
  pub starter : IsHeld net.trace 1 true false false
  pub acceptor : IsHeld net.trace 2 true false false
