-- What calls on one socket change of what contracts see of all sockets.
use Rattle.std.specs.Prelude.{◌≡◌, ◌≢◌, ◌≤◌, ℕ, ◌+◌, List, ◌++◌, length}
use Rattle.taps_socket.specs.declared.item.Item.{Item}
use Rattle.taps_socket.specs.Net.{Net}
use Rattle.taps_exchange.specs.Outcomes.{AreExchangeItems}

-- items of the socket's data were added, at most so many, for which spare was used up; no call was faulted; and the
-- traffic of all other sockets stayed
pub record Changes (socket most : ℕ) (before after : Net) : Type 0 where
  pub items : List Item
  pub trace : after.trace ≡ items ++ before.trace
  pub few : length items ≤ most
  pub own : AreExchangeItems socket items
  pub spare : after.spare + length items ≡ before.spare
  pub faults : after.faults ≡ before.faults
  pub others : (s : ℕ) → s ≢ socket → after.traffic s ≡ before.traffic s
