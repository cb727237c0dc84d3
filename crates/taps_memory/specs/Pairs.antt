-- Connections in memory (local): the two ends of each, and the bytes that are under way from each to the other.
use Rattle.std.specs.Prelude.{ℕ, ◌+◌, ◌-◌, ◌==◌, Bool, true, false, ◌||◌, if◌then◌else◌, List, [], ◌∷◌, ◌++◌, length, drop, Option, None, Some, option_map}
use Rattle.std.specs.Option.{option_map_or}

-- one end: its socket, once it was given; whether its sending side was ended, and whether it was closed; how many bytes
-- may be under way from it; the bytes that were written there; and how many of these were read at the other end
pub record End : Type 0 where
  pub socket : Option ℕ
  pub shut : Bool
  pub closed : Bool
  pub capacity : ℕ
  pub written : List ℕ
  pub taken : ℕ

-- a connection: the socket that listened for it, the end that was started, and the end that is accepted
pub record Pair : Type 0 where
  pub listener : ℕ
  pub starter : End
  pub acceptor : End

-- an end on which nothing was done yet
abbrev pub new_end : ℕ → Option ℕ → End
new_end capacity socket =
    record { socket = socket; shut = false; closed = false; capacity = capacity; written = []; taken = 0 }

-- a connection that was just started
abbrev pub new_pair : ℕ → ℕ → ℕ → Pair
new_pair capacity listener socket =
    record { listener = listener; starter = new_end capacity (Some socket); acceptor = new_end capacity None }

-- the bytes that were written at an end and not read at the other
abbrev pub under_way : End → List ℕ
under_way end = drop end.taken end.written

-- how many more bytes may be under way
abbrev pub free_at : End → ℕ
free_at end = end.capacity - length (under_way end)

-- the socket is that of the end
abbrev pub is_at : End → ℕ → Bool
is_at end s = option_map_or (λ socket. socket == s) end.socket false

-- the socket is that of one of the ends
abbrev pub has_end : Pair → ℕ → Bool
has_end p s = is_at p.starter s || is_at p.acceptor s

-- the end of a socket, and the end that faces it
abbrev pub own_end : Pair → ℕ → End
own_end p s = if is_at p.starter s then p.starter else p.acceptor

abbrev pub other_end : Pair → ℕ → End
other_end p s = if is_at p.starter s then p.acceptor else p.starter

-- the connection waits to be accepted from a listening socket
abbrev pub has_no_socket : End → Bool
has_no_socket end = option_map_or (λ socket. false) end.socket true

abbrev pub waits_for : Pair → ℕ → Bool
waits_for p listener = (if p.listener == listener then has_no_socket p.acceptor else false)

-- an end after its socket was given, after its sending side was ended, after it was closed, after bytes were written
-- there, and after so many were read at the other end
abbrev pub given_end : ℕ → End → End
given_end socket end = record end { socket = Some socket }

abbrev pub shut_end : End → End
shut_end end = record end { shut = true }

abbrev pub closed_end : End → End
closed_end end = record end { closed = true }

abbrev pub written_end : List ℕ → End → End
written_end bytes end = record end { written = end.written ++ bytes }

abbrev pub taken_end : ℕ → End → End
taken_end count end = record end { taken = end.taken + count }

-- the connection with another end of a socket, and with another end that faces it
abbrev pub with_own : (End → End) → ℕ → Pair → Pair
with_own change s p =
    if is_at p.starter s then record p { starter = change p.starter } else record p { acceptor = change p.acceptor }

abbrev pub with_other : (End → End) → ℕ → Pair → Pair
with_other change s p =
    if is_at p.starter s then record p { acceptor = change p.acceptor } else record p { starter = change p.starter }

-- the connection once it is accepted under this socket
abbrev pub accepted_pair : ℕ → Pair → Pair
accepted_pair socket p = record p { acceptor = given_end socket p.acceptor }

module _ {A : Type 0} where
  -- the first one of which a test holds, if there is one
  abbrev pub first_of : (A → Bool) → List A → Option A
  first_of test [] = None
  first_of test (x ∷ xs) = if test x then Some x else first_of test xs

  -- and with another in place of it
  abbrev pub change_first : (A → Bool) → (A → A) → List A → List A
  change_first test change [] = []
  change_first test change (x ∷ xs) = if test x then change x ∷ xs else x ∷ change_first test change xs

  -- the place of the first one, counted from 0
  abbrev pub place_first : (A → Bool) → List A → Option ℕ
  place_first test [] = None
  place_first test (x ∷ xs) = if test x then Some 0 else option_map (λ k. k + 1) (place_first test xs)
