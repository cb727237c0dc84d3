-- A machine over the bytes of a text: its steps, and the value where a text may end.
use Rattle.std.specs.Prelude.{◌≡◌, Bool, true, false, ℕ, ◌+◌, ◌<◌, List, [], ◌∷◌, ◌++◌, ◌⊎◌, length, take, slice_index, Option, Some, None, ok_or, option_and_then, Result, Err}

-- the state behind these bytes
abbrev pub run : {S : Type 0} → (S → ℕ → Option S) → S → List ℕ → Option S
run step s [] = Some s
run step s (b ∷ rest) = option_and_then (λ t. run step t rest) (step s b)

-- the machine has moved to the state behind one more byte, or there is none
abbrev pub Advances : {S : Type 0} → Option S → Bool → S → Type 0
Advances behind true new = behind ≡ Some new
Advances behind false new = behind ≡ None

-- the machine reads the whole text and gives this value
abbrev pub Accepts : {S A : Type 0} → (S → ℕ → Option S) → (S → Option A) → S → List ℕ → A → Type 0
Accepts {S} step at_end start text value = (s : S) × (run step start text ≡ Some s) × (at_end s ≡ Some value)

-- the machine comes to this place and no further, or to an end that is none of a text
pub record Refuses {S A : Type 0} (step : S → ℕ → Option S)
    (at_end : S → Option A) (start : S) (text : List ℕ) (place : ℕ) : Type 0 where
  pub state : S
  pub so_far : run step start (take place text) ≡ Some state
  pub no_more : ((place < length text) × (step state (slice_index text place) ≡ None))
      ⊎ ((place ≡ length text) × (at_end state ≡ None))

-- the machine reads the grammar: each text of it runs to its value, what runs to a value is a text of it, and each
-- state that is reached can be completed
pub record Reads {S A : Type 0} (IsText : A → List ℕ → Type 0)
    (step : S → ℕ → Option S) (at_end : S → Option A) (start : S) : Type 0 where
  pub accepts : (a : A) (x : List ℕ) → IsText a x → Accepts step at_end start x a
  pub sound : (a : A) (x : List ℕ) → Accepts step at_end start x a → IsText a x
  pub completes : (x : List ℕ) (s : S) → run step start x ≡ Some s
      → (a : A) × (rest : List ℕ) × Accepts step at_end start (x ++ rest) a

-- the answer behind a step, or the place where there is none
abbrev pub answer_on : {S A : Type 0} → (S → Result A ℕ) → ℕ → Option S → Result A ℕ
answer_on go place (Some s) = go s
answer_on go place None = Err place

-- the value of the rest of a text, or the place where the machine stops; so many bytes were read
unfoldable pub answer_from : {S A : Type 0} → (S → ℕ → Option S) → (S → Option A) → ℕ → S → List ℕ → Result A ℕ
answer_from step at_end place s [] = ok_or (at_end s) place
answer_from step at_end place s (b ∷ rest) =
    answer_on (λ t. answer_from step at_end (place + 1) t rest) place (step s b)

-- the value of a text, or the place where the machine stops
abbrev pub answer_of : {S A : Type 0} → (S → ℕ → Option S) → (S → Option A) → S → List ℕ → Result A ℕ
answer_of step at_end start text = answer_from step at_end 0 start text
