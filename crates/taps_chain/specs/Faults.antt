-- Bytes that should be one chained message: the layer at fault, and the place there (this project's own).
use Rattle.std.proofs.Common.{zero, suc}
use Rattle.std.specs.Prelude.{◌≡◌, ℕ, ◌<◌, true, false, List, [], ◌∷◌, length}
use Rattle.taps_framer.specs.Layers.{Layer, IsWholeFrame, holds_whole_frame, is_viable, lives, first_frame}
use Rattle.taps_framer.specs.Sights.{IsBadPlace}

-- the bytes are not exactly one frame, and this is the place that shows it: the bad place, the number
-- of the bytes where they begin a frame, or the length of the frame where bytes are left over
pub data IsInexact (f : Layer) (k : ℕ) (x : List ℕ) : ℕ → Type 0 where
  broken : (p : ℕ) → lives f k x ≡ false → IsBadPlace f k x p → IsInexact f k x p
  unfinished : holds_whole_frame f k x ≡ false → is_viable f k x ≡ true → IsInexact f k x (length x)
  left_over : holds_whole_frame f k x ≡ true → length (first_frame f k x) < length x →
      IsInexact f k x (length (first_frame f k x))

-- the first layer, counted from 0, whose bytes are not exactly one frame, and the place there
abbrev pub IsBadIn : List Layer → ℕ → List ℕ → ℕ → ℕ → Type 0
IsBadIn [] k x l p = ⊥
IsBadIn (f ∷ fs) k x zero p = IsInexact f k x p
IsBadIn (f ∷ fs) k x (suc l) p = IsWholeFrame f k x × IsBadIn fs k (f.front k x) l p
