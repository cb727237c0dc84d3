-- What a framer's answer to a buffer says.
use Rattle.std.specs.Prelude.{◌≡◌, ℕ, ◌+◌, ◌<◌, true, false, List, length, take}
use Rattle.taps_framer.specs.declared.sight.Sight.{Sight}
use Rattle.taps_framer.specs.declared.sight.Sight.TheVariants.{Need, Whole, Bad}
use Rattle.taps_framer.specs.Layers.{Layer, holds_whole_frame, is_viable, lives, first_frame}

-- the least place with whose byte the bytes neither begin with a frame nor begin one
pub record IsBadPlace (f : Layer) (i : ℕ) (x : List ℕ) (p : ℕ) : Type 0 where
  pub inside : p < length x
  pub dies : lives f i (take (p + 1) x) ≡ false
  pub before : (q : ℕ) → q < p → lives f i (take (q + 1) x) ≡ true

-- what is answered of the bytes is so
abbrev pub IsSight : Layer → ℕ → List ℕ → Sight → Type 0
IsSight f i x (Whole used) = (holds_whole_frame f i x ≡ true) × (used ≡ length (first_frame f i x))
IsSight f i x Need = (holds_whole_frame f i x ≡ false) × (is_viable f i x ≡ true)
IsSight f i x (Bad place) = (lives f i x ≡ false) × IsBadPlace f i x place
