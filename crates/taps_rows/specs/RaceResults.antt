-- What a caller learns of a race over sockets of which it knows the trait alone.
use Rattle.std.specs.Prelude.{◌≡◌, ℕ, true, false, List, ◌++◌, Some, slice_get}
use Rattle.taps_stack.specs.declared.target.Target.{Target}
use Rattle.taps_socket.specs.declared.item.Item.{Item}
use Rattle.taps_socket.specs.RaceTrace.{tries}
use Rattle.taps_socket.specs.RaceSockets.{has, started, completed}
use Rattle.taps_socket.specs.LiveSockets.{live_sockets}
use Rattle.taps_socket.specs.Net.{Net}

-- in the race between the two a target of the list won, on the socket of its own attempt, which is live and completed
pub record HasWon (targets : List Target) (before after : Net) (target : Target) (socket : ℕ) : Type 0 where
  pub race : List Item
  pub leaf : ℕ
  pub trace : after.trace ≡ race ++ before.trace
  pub listed : slice_get targets leaf ≡ Some target
  pub attempt : slice_get (tries race) leaf ≡ Some (Some socket)
  pub live : has (live_sockets after.trace) socket ≡ true
  pub done : has (completed after.trace) socket ≡ true

-- of the sockets that were started between the two none is live
pub record LeavesNone (before after : Net) (items : List Item) : Type 0 where
  pub trace : after.trace ≡ items ++ before.trace
  pub closed : (s : ℕ) → has (started items) s ≡ true → has (live_sockets after.trace) s ≡ false
