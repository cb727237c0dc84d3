-- What is kept of connections in memory.
use Rattle.std.specs.Prelude.{◌≡◌, ℕ, Bool, if◌then◌else◌, List, [], ◌∷◌, slice_get, slice_set, None, Some}
use Rattle.std.specs.List.{list_any}
use Rattle.taps_socket.specs.Net.{Traffic}
use Rattle.taps_memory.specs.declared.link.Link.{Link}
use Rattle.taps_memory.specs.Pairs.{Pair, is_at, has_end, waits_for, given_end, shut_end, closed_end, taken_end}
use Rattle.taps_memory.specs.Sides.{Side, new_side, with_end, roomy_side, sent_side, traffic_of, no_traffic}

-- the connection, without its rooms
abbrev pub pair_of : Link → Pair
pair_of l = record { listener = l.listener; starter = l.starter.end; acceptor = l.acceptor.end }

-- the socket is that of one of its ends; it waits to be accepted from a listening socket
abbrev pub link_has : ℕ → Link → Bool
link_has s l = has_end (pair_of l) s

abbrev pub link_waits : ℕ → Link → Bool
link_waits listener l = waits_for (pair_of l) listener

-- one that was not started
abbrev pub unused_link : ℕ → Link
unused_link capacity =
    record { listener = 0; starter = new_side capacity None; acceptor = new_side capacity None }

-- one that was just started
abbrev pub started_link : ℕ → ℕ → ℕ → Link
started_link capacity listener socket =
    record { listener = listener; starter = new_side capacity (Some socket); acceptor = new_side capacity None }

-- with another side of a socket, and with another one that faces it
abbrev pub link_with_own : (Side → Side) → ℕ → Link → Link
link_with_own change s l = if is_at l.starter.end s then record l { starter = change l.starter }
    else record l { acceptor = change l.acceptor }

abbrev pub link_with_other : (Side → Side) → ℕ → Link → Link
link_with_other change s l = if is_at l.starter.end s then record l { acceptor = change l.acceptor }
    else record l { starter = change l.starter }

-- after each kind of change
abbrev pub accepted_link : ℕ → Link → Link
accepted_link socket l = record l { acceptor = with_end (given_end socket) l.acceptor }

abbrev pub closed_link : ℕ → Link → Link
closed_link s l = link_with_own (with_end closed_end) s l

abbrev pub shut_link : ℕ → Link → Link
shut_link s l = link_with_own (with_end shut_end) s l

abbrev pub roomy_link : ℕ → ℕ → Link → Link
roomy_link s bytes l = link_with_own (roomy_side bytes) s l

abbrev pub sent_link : ℕ → List ℕ → ℕ → Link → Link
sent_link s bytes at l = link_with_own (sent_side bytes at) s l

abbrev pub read_link : ℕ → ℕ → Link → Link
read_link s count l = link_with_other (with_end (taken_end count)) s l

-- the side of a socket, and the one that faces it
abbrev pub own_side : Link → ℕ → Side
own_side l s = if is_at l.starter.end s then l.starter else l.acceptor

abbrev pub other_side : Link → ℕ → Side
other_side l s = if is_at l.starter.end s then l.acceptor else l.starter

-- the traffic of a socket
abbrev pub traffic_in : Link → ℕ → Traffic
traffic_in l s = if is_at l.starter.end s then traffic_of l.starter l.acceptor else traffic_of l.acceptor l.starter

abbrev pub traffic_at : List Link → ℕ → Traffic
traffic_at [] s = no_traffic
traffic_at (l ∷ links) s = if has_end (pair_of l) s then traffic_in l s else traffic_at links s

-- as many stand there, and there is room for as many
pub record IsAsRoomy (len capacity len' capacity' : ℕ) : Type 0 where
  pub same_len : len' ≡ len
  pub same_capacity : capacity' ≡ capacity

-- the connection at a place was changed so, and no other
abbrev pub IsChanged : (Link → Link) → ℕ → List Link → List Link → Type 0
IsChanged change place before after =
    (l : Link) → slice_get before place ≡ Some l → after ≡ slice_set before place (change l)

-- a socket is that of an end of one of these connections
abbrev pub has_link : List Link → ℕ → Bool
has_link links s = list_any (link_has s) links
