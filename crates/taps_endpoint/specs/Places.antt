-- Where a text stops being one of a grammar. A grammar is a relation between values and whole texts.
use Rattle.std.specs.Prelude.{ℕ, ◌≤◌, List, ◌++◌, length, take}

-- some text of the grammar begins with these bytes
abbrev pub Begins : {A : Type 0} → (A → List ℕ → Type 0) → List ℕ → Type 0
Begins {A} IsText front = (value : A) × (rest : List ℕ) × IsText value (front ++ rest)

-- the longest front of the text with which a text of the grammar begins has this length
pub record IsPlace {A : Type 0} (IsText : A → List ℕ → Type 0) (text : List ℕ) (place : ℕ) : Type 0 where
  pub within : place ≤ length text
  pub begins : Begins IsText (take place text)
  pub longest : (n : ℕ) → n ≤ length text → Begins IsText (take n text) → n ≤ place
