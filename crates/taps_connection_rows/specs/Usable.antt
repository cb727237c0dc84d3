-- What the tests keep of a connection between their calls.
use Rattle.std.specs.Prelude.{◌≡◌, ◌≤◌, Bool, true}
use Rattle.taps_framer.specs.declared.framer.Framer as framer
use Rattle.taps_chain.specs.Layers.{layers_of}
use Rattle.taps_stack.specs.StackTable.{is_stream}
use Rattle.taps_socket.specs.RaceSockets.{has}
use Rattle.taps_socket.specs.LiveSockets.{live_sockets}
use Rattle.taps_socket.specs.Net.{Net}
use Rattle.taps_connection.specs.declared.connection.Connection.{Connection}
use Rattle.taps_connection.specs.Conditions.{IsHeld}
use Rattle.taps_connection.specs.Inboxes.{IsSoundReceiver}
use Rattle.taps_connection.specs.Senders.{rest_of}
use Rattle.taps_connection.specs.Sound.{IsSound}

-- its socket is open, and there is room for an item: it may be aborted
pub record IsOpen {X : Type 0} {F : X → Type 0} {S : Type 0} (c : Connection S X F) (net : Net) :
    Type 0 where
  pub live : has (live_sockets net.trace) c.socket ≡ true
  pub spare : 1 ≤ net.spare

-- all calls may be made, and the other end ended its sending side or did not
pub record IsUsable {X : Type 0} {F : X → Type 0} {S : Type 0}
    (boxed : (x : X) → framer.Ghosts (F x)) (c : Connection S X F) (net : Net) (ended : Bool) :
    Type 0 where
  pub sending : IsSound (is_stream c.stack) (layers_of boxed c.chain) c.sender
  pub receiving : IsSoundReceiver boxed c.stack (layers_of boxed c.chain) c.receiver
  pub held : IsHeld net.trace c.socket (is_stream c.stack) c.sender.shut c.receiver.ended
  pub room : rest_of c.sender ≤ (net.traffic c.socket).room
  pub spare : 1 ≤ net.spare
  pub over : c.receiver.ended ≡ ended
