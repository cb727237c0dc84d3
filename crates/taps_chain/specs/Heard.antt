-- What a chain hears in bytes: messages, and how the bytes end (this project's own).
use Rattle.std.proofs.Common.{zero, suc}
use Rattle.std.specs.Prelude.{◌≡◌, ℕ, ◌+◌, true, false, List, [], ◌∷◌, ◌++◌, length}
use Rattle.taps_framer.specs.Layers.{Layer, holds_whole_frame, is_viable, lives}
use Rattle.taps_framer.specs.Sights.{IsBadPlace}
use Rattle.taps_chain.specs.Chained.{spelling, AreSpoken}
use Rattle.taps_chain.specs.Faults.{IsBadIn}

-- the hearing needs more bytes, or it fails at a layer and a place there
pub data Ending : Type 0 where
  needs : Ending
  fails : ℕ → ℕ → Ending

-- the bytes begin with no message, and end the hearing so: they begin a frame of layer 0, or they begin
-- none, or they begin with a frame of layer 0 whose body is bad at a layer above
abbrev pub IsEnding : List Layer → ℕ → List ℕ → Ending → Type 0
IsEnding [] k x e = ⊥
IsEnding (f ∷ fs) k x needs = (holds_whole_frame f k x ≡ false) × (is_viable f k x ≡ true)
IsEnding (f ∷ fs) k x (fails zero p) = (lives f k x ≡ false) × IsBadPlace f k x p
IsEnding (f ∷ fs) k x (fails (suc l) p) = (holds_whole_frame f k x ≡ true) × IsBadIn fs k (f.front k x) l p

-- the bytes begin with these messages, numbered from an index on, and then come bytes
pub record IsBegun (fs : List Layer) (k : ℕ) (x : List ℕ) (ms : List (List ℕ)) (rest : List ℕ) : Type 0 where
  pub split : x ≡ spelling fs k ms ++ rest
  pub spoken : AreSpoken fs k ms

-- heard: the bytes are these messages, numbered from an index on, and a rest that ends the hearing
pub record IsHeard (fs : List Layer) (k : ℕ) (x : List ℕ)
    (ms : List (List ℕ)) (e : Ending) (rest : List ℕ) : Type 0 where
  pub split : x ≡ spelling fs k ms ++ rest
  pub spoken : AreSpoken fs k ms
  pub ends : IsEnding fs (k + length ms) rest e
