-- When a connection may make calls on its socket.
use Rattle.std.specs.Prelude.{◌≡◌, ℕ, Bool, true, List}
use Rattle.taps_socket.specs.declared.item.Item.{Item}
use Rattle.taps_socket.specs.RaceSockets.{has}
use Rattle.taps_socket.specs.Sides.{carries_stream, is_connected, shut, ended}

-- a socket is connected, no call on it failed, and it carries a stream or not; and whether its sending side was
-- ended, and whether the other end ended its own
pub record IsHeld (trace : List Item) (socket : ℕ) (stream is_shut has_ended : Bool) : Type 0 where
  pub connected : is_connected trace socket ≡ true
  pub carries : carries_stream trace socket ≡ stream
  pub shut_by : has (shut trace) socket ≡ is_shut
  pub ended_by : has (ended trace) socket ≡ has_ended
