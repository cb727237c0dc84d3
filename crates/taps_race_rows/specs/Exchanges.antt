-- What the test of an exchange without memory knows of the socket that won.
use Rattle.std.specs.Prelude.{◌≡◌, ◌≤◌, ℕ, true}
use Rattle.taps_socket.specs.RaceSockets.{has}
use Rattle.taps_socket.specs.LiveSockets.{live_sockets}
use Rattle.taps_socket.specs.Sides.{may_send, may_receive}
use Rattle.taps_socket.specs.Net.{Net}

-- it can be closed, and there is room for so many items
pub record MayClose (socket items : ℕ) (net : Net) : Type 0 where
  pub live : has (live_sockets net.trace) socket ≡ true
  pub room : items ≤ net.spare

-- and it may receive
pub record MayReceive (socket items : ℕ) (net : Net) : Type 0 where
  pub may_close : MayClose socket items net
  pub receives : may_receive net.trace socket ≡ true

-- and it may send
pub record MayExchange (socket items : ℕ) (net : Net) : Type 0 where
  pub may_close : MayClose socket items net
  pub receives : may_receive net.trace socket ≡ true
  pub sends : may_send net.trace socket ≡ true
