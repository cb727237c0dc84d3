-- What a sink of messages has taken.
use Rattle.std.specs.Prelude.{ℕ, List}

-- a sink has taken messages of which this holds (local)
pub record HasKept (Keeps Holds : List (List ℕ) → Type 0) : Type 0 where
  pub messages : List (List ℕ)
  pub kept : Keeps messages
  pub holds : Holds messages
