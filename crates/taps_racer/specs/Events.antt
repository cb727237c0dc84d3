-- Which events answer a command, and which items they bring.
use Rattle.std.specs.Prelude.{◌≡◌, ℕ, [], ◌+◌, ◌^◌, Bool, true, false, not, ◌&&◌, ◌==◌, nat_le, nat_lt}
use Rattle.taps_stack.specs.declared.target.Target.{Target}
use Rattle.taps_socket.specs.declared.item.How.{How}
use Rattle.taps_socket.specs.declared.item.How.TheVariants.{Reached, Completed, Broke, Faulted}
use Rattle.taps_socket.specs.declared.item.Item.{Item}
use Rattle.taps_socket.specs.declared.item.Item.TheVariants as item
use Rattle.taps_socket.specs.RaceSockets.{has}
use Rattle.taps_socket.specs.Standing.{Standing}
use Rattle.taps_racer.specs.declared.command.Command.{Command}
use Rattle.taps_racer.specs.declared.command.Command.TheVariants.{Start, Wait, Close}
use Rattle.taps_racer.specs.declared.event.Told.{Told}
use Rattle.taps_racer.specs.declared.event.Told.TheVariants.{Started, Refused, Waited, Closed}

-- a moment that may be told: not before the last one, and below 2^63
abbrev pub is_moment : Standing → ℕ → Bool
is_moment race at = nat_le race.last at && nat_lt at (2 ^ 63)

-- a wait up to a moment may end so: not before it, or by a pending socket, or by a fault
abbrev pub is_end : Standing → ℕ → ℕ → How → Bool
is_end race until at Reached = nat_le until at
is_end race until at (Completed socket) = has race.pending socket
is_end race until at (Broke socket cause) = has race.pending socket
is_end race until at Faulted = true

-- a wait may end so: by a pending socket, and by one that breaks only where no other did
abbrev pub MayEnd : Standing → How → Type 0
MayEnd race Reached = Unit {0}
MayEnd race (Completed socket) = has race.pending socket ≡ true
MayEnd race (Broke socket cause) = (has race.pending socket ≡ true) × (race.broken ≡ [])
MayEnd race Faulted = Unit {0}

-- the event answers the command: its leaf, with a socket number that the race has not had; its wait; its close
abbrev pub answers : Standing → Command → Told → Bool
answers race (Start n) (Started leaf socket at) = (leaf == n) && not (has race.started socket) && is_moment race at
answers race (Start n) (Refused leaf cause at) = (leaf == n) && is_moment race at
answers race (Wait end) (Waited until at how) = (until == end) && is_moment race at && is_end race until at how
answers race (Close s) (Closed socket) = socket == s
answers race _ _ = false

-- the item of an event, where the leaves' numbers begin with first
abbrev pub item_of : ℕ → (ℕ → Target) → Told → Item
item_of first target (Started leaf socket at) = item.Started (first + leaf) (target leaf) socket at
item_of first target (Refused leaf cause at) = item.Refused (first + leaf) (target leaf) cause at
item_of first target (Waited until at how) = item.Waited until at how
item_of first target (Closed socket) = item.Closed socket
