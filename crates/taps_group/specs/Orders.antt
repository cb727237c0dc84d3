-- Which member of a group sends next (RFC 9622 section 8.1.2; that a tie goes by order is local).
use Rattle.std.specs.Prelude.{◌≡◌, ℕ, ◌+◌, Bool, false, ◌||◌, ◌&&◌, ◌==◌, nat_lt, if◌then◌else◌, List, [], ◌∷◌, slice_get, slice_index_or, Option, Some, None}
use Rattle.taps_group.specs.declared.member.Waiting.{Waiting}

-- For each message that a group accepted, in this order, the list has the place of the member that accepted it. These
-- are the places in that list of one member's messages, oldest first.
abbrev pub orders_from : ℕ → ℕ → List ℕ → List ℕ
orders_from member k [] = []
orders_from member k (p ∷ ps) =
    if p == member then k ∷ orders_from member (k + 1) ps else orders_from member (k + 1) ps

abbrev pub orders_of : ℕ → List ℕ → List ℕ
orders_of member order = orders_from member 0 order

-- what decides of a member whether it sends next: its priority, of which the least is the most urgent, and the number
-- of its first message that is still to be sent, if it has one
pub record Standing : Type 0 where
  pub priority : ℕ
  pub waiting : Option ℕ

-- where a member has something to send: its place, its priority, and the place of that message among all that the group
-- accepted, by the places of its messages there
abbrev pub waiting_in : List ℕ → ℕ → ℕ → Option ℕ → Option Waiting
waiting_in orders place priority None = None
waiting_in orders place priority (Some number) =
    Some (record { place = place; priority = priority; order = slice_index_or orders number 0 })

abbrev pub waiting_of : List ℕ → ℕ → Standing → Option Waiting
waiting_of order place s = waiting_in (orders_of place order) place s.priority s.waiting

-- the one has its turn before the other: it is more urgent, or as urgent and its message was accepted earlier
abbrev pub is_before : Waiting → Waiting → Bool
is_before a b = nat_lt a.priority b.priority || ((a.priority == b.priority) && nat_lt a.order b.order)

-- a member has something to send, and no other has its turn before it
pub record ComesFirst (order : List ℕ) (members : List Standing) (place : ℕ) : Type 0 where
  pub standing : Standing
  pub waiting : Waiting
  pub at : slice_get members place ≡ Some standing
  pub waits : waiting_of order place standing ≡ Some waiting
  pub first : (other : ℕ) (s : Standing) (w : Waiting) → slice_get members other ≡ Some s →
      waiting_of order other s ≡ Some w → is_before w waiting ≡ false

-- no member has something to send
abbrev pub NoneWaits : List Standing → Type 0
NoneWaits members = (place : ℕ) (s : Standing) → slice_get members place ≡ Some s → s.waiting ≡ None

-- who sends next: the one that comes first, and none exactly when none has something to send
abbrev pub IsNextSender : List ℕ → List Standing → Option ℕ → Type 0
IsNextSender order members (Some place) = ComesFirst order members place
IsNextSender order members None = NoneWaits members
