-- A body that the layers from a depth on have framed.
use Rattle.std.proofs.Common.{◌≡◌, ℕ, suc, true, List, Some, refl, ap, sym, subst, ◌∙◌, drop, slice_get}
use Rattle.taps_framer.specs.Layers.{Layer}
use Rattle.taps_chain.specs.Chained.{chained, IsSpoken}
use Rattle.taps_chain.proofs.Depths.{drop-layer}

pub record Wrapped (fs : List Layer) (k : ℕ) (m : List ℕ) (d : ℕ) (current : List ℕ) : Type 0 where
  pub framed : current ≡ chained (drop d fs) k m
  pub spoken : IsSpoken (drop d fs) k m

module _ (fs : List Layer) (k : ℕ) (m : List ℕ) (d n : ℕ) (current : List ℕ) (f : Layer) (e : n ≡ suc d) (h : slice_get fs d ≡ Some f) (w : Wrapped fs k m n current) where
  below : Wrapped fs k m (suc d) current
  below = subst (λ (v : ℕ). Wrapped fs k m v current) e w

  -- one layer more has
  pub wrapped_by_more : (seen spoken next : List ℕ) → seen ≡ current → spoken ≡ current → f.speaks spoken ≡ true → next ≡ f.frame k seen → Wrapped fs k m d next
  wrapped_by_more seen spoken next v u s t =
      let s' : f.speaks (chained (drop (suc d) fs) k m) ≡ true = subst (λ (v : List ℕ). f.speaks v ≡ true) (u ∙ below.framed) s in
      let o : IsSpoken (drop (suc d) fs) k m = below.spoken in
      record {
        framed = subst (λ (v : List Layer). next ≡ chained v k m) (sym (drop-layer fs d f h)) (t ∙ ap (λ (v : List ℕ). f.frame k v) (v ∙ below.framed));
        spoken = subst (λ (v : List Layer). IsSpoken v k m) (sym (drop-layer fs d f h)) (rw (s', o) refl);
      }
