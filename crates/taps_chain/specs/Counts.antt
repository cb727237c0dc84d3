-- How many bytes a counted call looks at (local).
use Rattle.std.proofs.Common.{zero, suc}
use Rattle.std.specs.Prelude.{◌≡◌, ℕ, ◌+◌, ◌-◌, ◌≤◌, List, [], ◌∷◌, length, take}
use Rattle.taps_framer.specs.Layers.{Layer, IsWholeFrame}
use Rattle.taps_chain.specs.Streams.{StreamState}

-- The bytes `y` are handed to a layer, where `x` are handed to the first: those below it have one whole frame each.
abbrev pub IsHanded : List Layer → ℕ → List ℕ → ℕ → List ℕ → Type 0
IsHanded fs k x zero y = y ≡ x
IsHanded [] k x (suc n) y = y ≡ []
IsHanded (f ∷ fs) k x (suc n) y = IsWholeFrame f k x × IsHanded fs k (f.front k x) n y

-- No byte counts, or no more than are handed to the layer.
pub data CountsHanded (fs : List Layer) (k : ℕ) (x : List ℕ) (layer before after : ℕ) : Type 0 where
  none : after ≡ before → CountsHanded fs k x layer before after
  some : (y : List ℕ) → IsHanded fs k x layer y → after ≤ before + length y → CountsHanded fs k x layer before after

-- Where the layer is the first, each byte that it scans counts once. Else none counts, or no more than are handed to
-- the layer, where some first bytes are handed to the first one.
abbrev pub CountsIn : List Layer → ℕ → List ℕ → ℕ → ℕ → ℕ → ℕ → ℕ → Type 0
CountsIn fs k x zero from to before after = after + from ≡ before + to
CountsIn fs k x (suc n) from to before after = (m : ℕ) × CountsHanded fs k (take m x) (suc n) before after

-- What a counted call of ears counts: the bytes that are scanned more, with those of a message that is given out.
abbrev pub Counts : List Layer → StreamState → StreamState → ℕ → ℕ → ℕ → Type 0
Counts fs s t layer before after =
    CountsIn fs s.index s.unread layer s.scanned (t.scanned + (length s.unread - length t.unread)) before after
