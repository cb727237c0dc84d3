-- That two traces tell the same of each socket, but that in one of them a send or a receive more may have failed
-- (local). A trace stands with its newest item first.
use Rattle.std.specs.Prelude.{◌≡◌, ℕ, true, List}
use Rattle.taps_socket.specs.declared.item.How.TheVariants as how
use Rattle.taps_socket.specs.declared.item.Item.{Item}
use Rattle.taps_socket.specs.declared.item.Item.TheVariants as item
use Rattle.taps_socket.specs.RaceSockets as race
use Rattle.taps_socket.specs.RaceSockets.{has}
use Rattle.taps_socket.specs.LiveSockets as live
use Rattle.taps_socket.specs.LiveSockets.{live_sockets}
use Rattle.taps_socket.specs.Sides as sides

-- the first trace gives, closes, completes and ends the sockets of the second one, and leads each to its target; it
-- has each failure of the second one, and names no other socket
pub record TellsSameSockets (own others : List Item) : Type 0 where
  pub given : live.given own ≡ live.given others
  pub started : race.started own ≡ race.started others
  pub completed : race.completed own ≡ race.completed others
  pub broke : race.broke own ≡ race.broke others
  pub closed : race.closed own ≡ race.closed others
  pub listeners : sides.listeners own ≡ sides.listeners others
  pub accepted : sides.accepted own ≡ sides.accepted others
  pub shut : sides.shut own ≡ sides.shut others
  pub ended : sides.ended own ≡ sides.ended others
  pub target : (s : ℕ) → sides.target_of own s ≡ sides.target_of others s
  pub failed : (s : ℕ) → has (sides.failed others) s ≡ true → has (sides.failed own) s ≡ true
  pub named : (s : ℕ) → has (live.named own) s ≡ true → has (live.named others) s ≡ true

-- an item by which a call failed: it gives no socket, and a socket on which a send or a receive failed is live
abbrev pub IsFailure : Item → List Item → Type 0
IsFailure (item.Refused leaf target cause at) earlier = Unit {0}
IsFailure (item.Waited until at how.Faulted) earlier = Unit {0}
IsFailure (item.NotListening target cause at) earlier = Unit {0}
IsFailure (item.Faulted at) earlier = Unit {0}
IsFailure (item.DataFailed socket sending cause) earlier = has (live_sockets earlier) socket ≡ true
IsFailure _ earlier = ⊥
