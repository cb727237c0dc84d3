-- All members of a group are closed, by place.
use Rattle.std.specs.Prelude.{◌≡◌, ◌-◌, ℕ, true, List, [], ◌∷◌, ◌++◌, length, map}
use Rattle.std.specs.List.{All}
use Rattle.taps_socket.specs.declared.item.Item.{Item}
use Rattle.taps_socket.specs.declared.item.Item.TheVariants as item
use Rattle.taps_socket.specs.RaceSockets.{has, pending_sockets}
use Rattle.taps_socket.specs.LiveSockets.{live_sockets}
use Rattle.taps_socket.specs.Calls.{Call, closes}
use Rattle.taps_socket.specs.Net.{Net}
use Rattle.taps_socket.specs.Once.{IsOnce}
use Rattle.taps_group.specs.declared.member.Member.{Member}

-- the members' sockets, by place
abbrev pub sockets_of : {X : Type 0} {F : X → Type 0} → List (Member X F) → List ℕ
sockets_of members = map (λ m. m.connection.socket) members

-- all of them can be closed: each is live, and no two are the same
pub record MayClose (trace : List Item) (sockets : List ℕ) : Type 0 where
  pub live : All (λ s. has (live_sockets trace) s ≡ true) sockets
  pub once : IsOnce sockets

-- the items and the calls of closing them in this order, the newest first
abbrev pub close_items : List ℕ → List Item
close_items [] = []
close_items (s ∷ sockets) = close_items sockets ++ item.Closed s ∷ []

abbrev pub close_calls : List ℕ → List Call
close_calls [] = []
close_calls (s ∷ sockets) = close_calls sockets ++ closes s ∷ []

-- the sockets once these are closed: each has one item more, and nothing else changed
abbrev pub with_closes : List ℕ → Net → Net
with_closes sockets net = record net {
  trace = close_items sockets ++ net.trace;
  spare = net.spare - length sockets;
}

-- every member can be closed, and no socket is pending
pub record IsOpen {X : Type 0} {F : X → Type 0} (net : Net) (members : List (Member X F)) : Type 0 where
  pub may_close : MayClose net.trace (sockets_of members)
  pub idle : pending_sockets net.trace ≡ []
