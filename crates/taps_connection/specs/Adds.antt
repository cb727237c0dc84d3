-- What one call of a connection changes of what contracts see of the sockets.
use Rattle.std.specs.Prelude.{◌≡◌, ◌≢◌, ◌≤◌, ℕ, ◌+◌, List, [], ◌++◌, length, Option, None}
use Rattle.taps_socket.specs.declared.item.Item.{Item}
use Rattle.taps_socket.specs.declared.timed_call.TimedCall.{TimedCall}
use Rattle.taps_socket.specs.Net.{Net}
use Rattle.taps_socket.specs.Shows.{count_with, last_with}

-- these items were added, for which spare was used up; this timed call was made, if one was; no call was
-- faulted; and the traffic of all other sockets stayed
pub record Adds (socket : ℕ) (items : List Item) (call : Option TimedCall) (before after : Net) : Type 0 where
  pub trace : after.trace ≡ items ++ before.trace
  pub spare : after.spare + length items ≡ before.spare
  pub timed : after.timed ≡ count_with call before.timed
  pub last_timed : after.last_timed ≡ last_with call before.last_timed
  pub faults : after.faults ≡ before.faults
  pub others : (s : ℕ) → s ≢ socket → after.traffic s ≡ before.traffic s

-- nothing changed but the room for bytes to be sent on one socket, which did not shrink
pub record IsRoomier (socket : ℕ) (before after : Net) : Type 0 where
  pub adds : Adds socket [] None before after
  pub told : after.told ≡ before.told
  pub room : (before.traffic socket).room ≤ (after.traffic socket).room
  pub same : after.traffic socket ≡ record (before.traffic socket) { room = (after.traffic socket).room }
