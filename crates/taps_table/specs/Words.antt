-- Values that words stand for.
use Rattle.std.specs.Prelude.{ℕ, List, [], ◌∷◌, Option, Some, None, Result, Ok, Err, map, bytes_eq, if◌then◌else◌}
use Rattle.std.specs.Borrow.{Bor}
use Rattle.toml.specs.Data.{string}
use Rattle.taps_table.specs.Values.{Reader}
use Rattle.taps_table.specs.declared.pre_error.PreError.{PreError}
use Rattle.taps_table.specs.declared.pre_error.PreError.TheVariants.{WrongKind, OutOfRange}

-- the words of a table, each with the value that it stands for
abbrev pub listed_words : {A : Type 0} → List (Bor (List ℕ) × A) → List (List ℕ × A)
listed_words {A} words = map {B = List ℕ × A} (λ w. (w.0.now, w.1)) words

-- the value that a word stands for, if it is listed
abbrev pub word_in : {A : Type 0} → List (List ℕ × A) → List ℕ → Option A
word_in [] word = None
word_in (w ∷ ws) word = if bytes_eq w.0 word then Some w.1 else word_in ws word

-- a word that is not listed is out of range
abbrev pub word_at : {A : Type 0} → List ℕ → Option A → Result A PreError
word_at path (Some x) = Ok x
word_at path None = Err (OutOfRange path)

-- a word that is listed
abbrev pub word_of : {A : Type 0} → List (List ℕ × A) → Reader A
word_of words path (string text) = word_at path (word_in words text)
word_of words path d = Err (WrongKind path)
