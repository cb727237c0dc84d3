-- The one of a list at a place, counted from 0.
use Rattle.std.specs.Prelude.{◌≡◌, ℕ, List, slice_get, slice_set, Some, IfSome}

-- what holds of the one at a place
abbrev pub IsAt : {A : Type 0} → List A → ℕ → (A → Type 0) → Type 0
IsAt members place P = IfSome (slice_get members place) P

-- the one at a place becomes another so, and all others stay
pub record Changes {A : Type 0} (How : A → A → Type 0) (place : ℕ) (before after : List A) : Type 0 where
  pub was : A
  pub becomes : A
  pub at : slice_get before place ≡ Some was
  pub changed : after ≡ slice_set before place becomes
  pub by : How was becomes
