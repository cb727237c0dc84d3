-- Which sockets are the two ends of one connection, as the items tell, and that both are joined reliably. A trace stands
-- with its newest item first.
use Rattle.std.specs.Prelude.{◌≡◌, ◌≢◌, ℕ, ◌==◌, Bool, true, ◌&&◌, if◌then◌else◌, false, List, [], ◌∷◌, ◌++◌, Option, None, Some}
use Rattle.std.specs.List.{list_any, concat}
use Rattle.std.specs.Option.{option_map_or}
use Rattle.taps_socket.specs.declared.item.Item.{Item}
use Rattle.taps_socket.specs.declared.item.Item.TheVariants as item
use Rattle.taps_socket.specs.Net.{Net, Traffic}
use Rattle.taps_memory.specs.Pairs.{change_first, Pair}
use Rattle.taps_memory.specs.MemorySteps.{listener_for}

-- the sockets of a connection: that which listened, that which was started, and that which was accepted, if one was
pub record Ends : Type 0 where
  pub listener : ℕ
  pub starter : Option ℕ
  pub acceptor : Option ℕ

-- the sockets of what is kept of a connection
abbrev pub ends_of : Pair → Ends
ends_of p = record { listener = p.listener; starter = p.starter.socket; acceptor = p.acceptor.socket }

-- no end was accepted from this socket yet
abbrev pub awaits : Ends → ℕ → Bool
awaits e listener = if e.listener == listener then option_map_or (λ socket. false) e.acceptor true else false

-- with the end that was accepted
abbrev pub met_by : ℕ → Ends → Ends
met_by socket e = record e { acceptor = Some socket }

-- the connections so far, the earliest started first: an accept gives the earliest one that waits for it
abbrev pub connections : List Item → List Ends
connections [] = []
connections (item.Started leaf target socket at ∷ earlier) =
    connections earlier
    ++ record { listener = listener_for earlier target; starter = Some socket; acceptor = None } ∷ []
connections (item.Accepted listener socket at ∷ earlier) =
    change_first (λ e. awaits e listener) (met_by socket) (connections earlier)
connections (_ ∷ earlier) = connections earlier

-- the socket is this one
abbrev pub is_socket : Option ℕ → ℕ → Bool
is_socket socket s = option_map_or (λ x. x == s) socket false

-- the one started a connection, and the other was accepted for it
abbrev pub are_ends : List Item → ℕ → ℕ → Bool
are_ends trace s t = list_any (λ e. is_socket e.starter s && is_socket e.acceptor t) (connections trace)

-- both are observable, and the bytes read at the one are a prefix of those written at the other
abbrev pub IsReadFrom : Option (List (List ℕ)) → Option (List (List ℕ)) → Type 0
IsReadFrom None read = ⊥
IsReadFrom (Some written) None = ⊥
IsReadFrom (Some written) (Some read) = (rest : List ℕ) × (concat written ≡ concat read ++ rest)

-- each of two ends, which are two sockets, reads what was written at the other
pub record AreJoinedEnds (traffic : ℕ → Traffic) (s t : ℕ) : Type 0 where
  pub apart : s ≢ t
  pub there : IsReadFrom (traffic s).written (traffic t).read
  pub back : IsReadFrom (traffic t).written (traffic s).read

-- the two ends of each connection are joined reliably
abbrev pub AreJoinedReliably : Net → Type 0
AreJoinedReliably net = (s t : ℕ) → are_ends net.trace s t ≡ true → AreJoinedEnds net.traffic s t
