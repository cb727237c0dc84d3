-- Layers that are taken off, one after the other.
use Rattle.std.proofs.Common.{◌≡◌, ℕ, suc, ◌+◌, ◌<◌, ◌≤◌, true, false, List, [], ◌∷◌, length, take, drop, Some, slice_get, refl, ap, sym, subst, ◌∙◌, arith}
use Rattle.std.proofs.Math.Seq.{take-length}
use Rattle.taps_framer.specs.Layers.{Layer, IsLawful, IsWholeFrame, is_viable, lives, first_frame}
use Rattle.taps_framer.proofs.Scans.{run_whole, run_whole_length}
use Rattle.taps_framer.proofs.Sights.{bad_here}
use Rattle.taps_chain.specs.Chained.{chained, IsSpoken}
use Rattle.taps_chain.specs.Faults.{IsInexact, broken, left_over, IsBadIn}
use Rattle.taps_chain.proofs.Depths.{drop-layer}

-- what a layer's look at all of the bytes says
module _ (f : Layer) (k : ℕ) (x : List ℕ) where
  -- a frame that uses all bytes is the one frame that they are
  pub whole_used : (used : ℕ) → used ≤ length x → IsWholeFrame f k (take used x) → length x ≤ used → IsWholeFrame f k x
  whole_used used n w h =
      let P : List ℕ → Type 0 = λ v. IsWholeFrame f k v in
      let e : used ≡ length x = omega arith in
      subst P (ap (λ (v : ℕ). take v x) e ∙ take-length x) w

  -- one that does not is none
  pub over_used : IsLawful f k → (used : ℕ) → used ≤ length x → IsWholeFrame f k (take used x) → used < length x → IsInexact f k x used
  over_used l used n w h =
      let r = run_whole f k l [] x used w in
      let q = run_whole_length f k l [] x used n w in
      let e : used ≡ length (first_frame f k x) = omega (arith, q) in
      subst (λ (v : ℕ). IsInexact f k x v) (sym e) (left_over r.0 (omega (arith, e)))

  pub bad_in : IsLawful f k → (p : ℕ) → p < length x → is_viable f k (take p x) ≡ true → lives f k (take (p + 1) x) ≡ false → IsInexact f k x p
  bad_in l p n v d = let r = bad_here f k l x p n v d in broken p r.0 r.1

-- the layers from depth a on and below depth d are off, and these bytes are left
pub record Reached (fs : List Layer) (k : ℕ) (x : List ℕ) (a d : ℕ) (current : List ℕ) : Type 0 where
  pub bad : (i p : ℕ) → IsBadIn (drop d fs) k current i p → (j : ℕ) × ((i + d ≡ j + a) × IsBadIn (drop a fs) k x j p)
  pub good : (m : List ℕ) → IsSpoken (drop d fs) k m → current ≡ chained (drop d fs) k m → IsSpoken (drop a fs) k m × (x ≡ chained (drop a fs) k m)

pub reached_none : (fs : List Layer) (k : ℕ) (x : List ℕ) (a : ℕ) → Reached fs k x a a x
reached_none fs k x a = record {
  bad = λ i p h. (i, (refl, h));
  good = λ m u c. (u, c);
}

module _ (fs : List Layer) (k : ℕ) (x : List ℕ) (a d : ℕ) (current seen : List ℕ) (f : Layer) (h : slice_get fs d ≡ Some f) (r : Reached fs k x a d current) (same : seen ≡ current) where
  split : drop d fs ≡ f ∷ drop (suc d) fs
  split = drop-layer fs d f h

  pub reached_fault : (p : ℕ) → IsInexact f k seen p → (j : ℕ) × ((d ≡ j + a) × IsBadIn (drop a fs) k x j p)
  reached_fault p i =
      let i' : IsInexact f k current p = subst (λ (v : List ℕ). IsInexact f k v p) same i in
      let w = r.bad 0 p (subst (λ (v : List Layer). IsBadIn v k current 0 p) (sym split) i') in
      let e : 0 + d ≡ w.0 + a = w.1.0 in
      (w.0, (omega arith, w.1.1))

  pub reached_more : (n : ℕ) (next : List ℕ) → n ≡ suc d → IsWholeFrame f k seen → next ≡ f.front k seen → Reached fs k x a n next
  reached_more n next m i' e' =
      let i : IsWholeFrame f k current = subst (λ (v : List ℕ). IsWholeFrame f k v) same i' in
      let e : next ≡ f.front k current = e' ∙ ap (λ (v : List ℕ). f.front k v) same in
      subst (λ (v : ℕ). Reached fs k x a v next) (sym m) (record {
        bad = λ l p j.
            let w = r.bad (suc l) p (subst (λ (v : List Layer). IsBadIn v k current (suc l) p) (sym split) (i, subst (λ (v : List ℕ). IsBadIn (drop (suc d) fs) k v l p) e j)) in
            let o : suc l + d ≡ w.0 + a = w.1.0 in
            (w.0, (omega arith, w.1.1));
        good = λ m u c.
            let b : f.front k current ≡ chained (drop (suc d) fs) k m = sym e ∙ c in
            let s' : f.speaks (chained (drop (suc d) fs) k m) ≡ true = subst (λ (v : List ℕ). f.speaks v ≡ true) b i.spoken in
            r.good m
            (subst (λ (v : List Layer). IsSpoken v k m) (sym split) (rw (s', u) refl))
            (subst (λ (v : List Layer). current ≡ chained v k m) (sym split) (sym i.exact ∙ ap (λ (v : List ℕ). f.frame k v) b));
      })

-- the layer nearest to the transport is off, and what the layers above find in its body is found in the bytes
module _ (fs : List Layer) (k : ℕ) (x b : List ℕ) (f : Layer) (h : slice_get fs 0 ≡ Some f) (i : IsWholeFrame f k x) (e : b ≡ f.front k x) where
  one_off : Reached fs k x 0 1 b
  one_off = reached_more fs k x 0 0 x x f h (reached_none fs k x 0) refl 1 b refl i e

  pub whole_below : (m : List ℕ) → IsSpoken (drop 1 fs) k m → b ≡ chained (drop 1 fs) k m → IsSpoken fs k m × (x ≡ chained fs k m)
  whole_below m s c = one_off.good m s c

-- the layer nearest to the transport is at fault
pub fault_first : (fs : List Layer) (k : ℕ) (x : List ℕ) (f : Layer) → slice_get fs 0 ≡ Some f → (p : ℕ) → IsInexact f k x p → IsBadIn fs k x 0 p
fault_first fs k x f h p i =
    let r = reached_fault fs k x 0 0 x x f h (reached_none fs k x 0) refl p i in
    let n : 0 ≡ r.0 + 0 = r.1.0 in
    let o : r.0 ≡ 0 = omega arith in
    subst (λ (v : ℕ). IsBadIn fs k x v p) o r.1.1
