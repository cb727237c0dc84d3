-- That the members of a group have sockets of their own.
use Rattle.std.specs.Prelude.{◌≡◌, ◌++◌, ℕ, true, List}
use Rattle.std.specs.List.{All}
use Rattle.taps_socket.specs.declared.item.Item.{Item}
use Rattle.taps_socket.specs.Calls.{Call, items_of}
use Rattle.taps_socket.specs.LiveSockets.{live_sockets}
use Rattle.taps_socket.specs.Once.{IsOnce}
use Rattle.taps_socket.specs.RaceSockets.{has}
use Rattle.taps_socket.specs.Shows.{AreLawful}
use Rattle.taps_group.specs.Closes.{close_calls}
use Rattle.taps_group_exchange.specs.Cloning.{CloneRace}
use Rattle.taps_group_exchange.specs.GroupSessions.{sockets_by}

-- no two of these sockets are the same, and each is live behind a trace
pub record AreApart (sockets : List ℕ) (trace : List Item) : Type 0 where
  pub once : IsOnce sockets
  pub live : All (λ s. has (live_sockets trace) s ≡ true) sockets

-- Lawful calls end with the closes of a group's members, as all calls of its session do, and the first ones too where
-- memory ran out: then no two members have the same socket, and each is live until it is closed, once.
abbrev pub HaveOwnSockets : Type 0
HaveOwnSockets = (first told : ℕ) (trace : List Item) (clones : List CloneRace) (earlier : List Call) →
    AreLawful trace told (close_calls (sockets_by first clones) ++ earlier) →
    AreApart (sockets_by first clones) (items_of earlier ++ trace)
