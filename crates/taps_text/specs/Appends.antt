-- What a call leaves of the text to which it appends.
use Rattle.std.specs.Prelude.{◌≡◌, ℕ, List, ◌++◌, Result, Ok, Err}

-- the text begins with what stood there before
pub record Continues (before after : List ℕ) : Type 0 where
  pub more : List ℕ
  pub is : after ≡ before ++ more

-- the line was appended; after an error the text begins with what stood there before
abbrev pub Appends : {A E : Type 0} → Result A E → List ℕ → List ℕ → List ℕ → Type 0
Appends (Ok _) before after line = after ≡ before ++ line
Appends (Err _) before after line = Continues before after
