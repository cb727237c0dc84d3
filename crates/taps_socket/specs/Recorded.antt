-- What contracts see of a recorder.
use Rattle.std.specs.Prelude.{◌≡◌, ◌≤◌, ℕ, ◌+◌, List, [], ◌∷◌, length}
use Rattle.taps_socket.specs.declared.item.Item.{Item}
use Rattle.taps_socket.specs.Calls.{Call, items_of}

-- the sockets to which it passes each call on, and how many items can be added without memory
pub record Recorded (N : Type 0) : Type 0 where
  pub net : N
  pub spare : ℕ

-- a time is the last reported one, if any item was added
abbrev pub IsLastReported : List Item → ℕ → ℕ → Type 0
IsLastReported [] at told = Unit {0}
IsLastReported (item ∷ earlier) at told = at ≡ told

-- the calls led from the sockets to the later ones, and each lowered spare by one for its item at most
pub record Records {N : Type 0} (Becomes : N → List Call → N → Type 0)
    (before : Recorded N) (calls : List Call) (after : Recorded N) : Type 0 where
  pub becomes : Becomes before.net calls after.net
  pub spare : before.spare ≤ after.spare + length (items_of calls)
