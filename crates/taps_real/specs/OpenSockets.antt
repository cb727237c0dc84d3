-- Which sockets of the system are open.
use Rattle.std.specs.Prelude.{◌≡◌, ℕ, Bool, true, false, not, List, length, slice_get, Some}
use Rattle.taps_socket.specs.declared.item.Item.{Item}
use Rattle.taps_socket.specs.RaceSockets.{has, closed}
use Rattle.taps_real.specs.declared.held.Held.{Held}
use Rattle.taps_real.specs.declared.held.Held.TheVariants.{Closed}

-- there is a socket of the system: one that is let go of is closed
abbrev pub is_open : Held → Bool
is_open Closed = false
is_open _ = true

-- there is one for each of so many numbers, and it is open as long as its number was not closed, and no longer
pub record AreOpen (trace : List Item) (count : ℕ) (entries : List Held) : Type 0 where
  pub count_is : count ≡ length entries
  pub each : (s : ℕ) (h : Held) → slice_get entries s ≡ Some h → is_open h ≡ not (has (closed trace) s)
