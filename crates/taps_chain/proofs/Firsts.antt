-- The message in the frame of layer 0 that bytes begin with.
use Rattle.std.proofs.Common.{◌≡◌, ℕ, suc, ◌+◌, ◌-◌, ◌<◌, ◌≤◌, ◌^◌, true, false, List, [], ◌∷◌, ◌++◌, length, take, drop, Some, slice_get, ap, sym, subst, ◌∙◌, arith}
use Rattle.std.proofs.lemmas.Grind.{common_steps}
use Rattle.std.proofs.lemmas.List.{length-take-le}
use Rattle.taps_framer.specs.Layers.{Layer, IsWholeFrame, holds_whole_frame, is_viable, lives}
use Rattle.taps_framer.proofs.Prefixes.{take_drop}
use Rattle.taps_framer.proofs.Scans.{run_whole}
use Rattle.taps_framer.proofs.Sights.{bad_here}
use Rattle.taps_framer.specs.declared.scan.Scan.{Scan}
use Rattle.taps_framer.specs.declared.scan.Seen.{Seen}
use Rattle.taps_framer.specs.declared.scan.Seen.TheVariants as seen
use Rattle.taps_chain.specs.declared.look.Look.{Look}
use Rattle.taps_chain.specs.Looks.{IsSettled, HasLooked}
use Rattle.taps_chain.specs.Chained.{chained, IsSpoken}
use Rattle.taps_chain.specs.Faults.{IsBadIn}
use Rattle.taps_chain.specs.Heard.{IsEnding, fails}
use Rattle.taps_chain.specs.ChainLaws.{AreFramers}
use Rattle.taps_chain.proofs.Depths.{framer_at}
use Rattle.taps_chain.proofs.Opening.{whole_below}

fails_above : (fs : List Layer) (k : ℕ) (x body : List ℕ) (f : Layer) → slice_get fs 0 ≡ Some f → holds_whole_frame f k x ≡ true → body ≡ f.front k x → (l p : ℕ) → IsBadIn (drop 1 fs) k body l p → IsEnding fs k x (fails (suc l) p)
fails_above [] k x body f i h e l p d = absurd (cc i)
fails_above (g ∷ fs) k x body f i h e l p d =
    let o : f ≡ g = cc in
    let e' : body ≡ g.front k x = e ∙ ap (λ (v : Layer). v.front k x) o in
    (subst (λ (v : Layer). holds_whole_frame v k x ≡ true) o h, subst (λ (v : List ℕ). IsBadIn fs k v l p) e' d)

-- a body that the first frame holds, and what the layers above find in it
module _ (fs : List Layer) (k : ℕ) (x : List ℕ) (f : Layer) (used : ℕ) (i : slice_get fs 0 ≡ Some f) (n : used ≤ length x) (h : IsWholeFrame f k (take used x)) where
  pub first_message : (body m : List ℕ) → body ≡ f.front k (take used x) → IsSpoken (drop 1 fs) k m → body ≡ chained (drop 1 fs) k m →
      (used ≤ length x) × IsSpoken fs k m × (x ≡ chained fs k m ++ drop used x)
  first_message body m e s c =
      let o = whole_below fs k (take used x) body f i h e m s c in
      (n, o.0, sym (take_drop used x) ∙ ap (λ (v : List ℕ). v ++ drop used x) o.1)

  module _ (w : AreFramers fs) (b : k < 2 ^ 64) where
    holds : holds_whole_frame f k x ≡ true
    holds =
        let r = run_whole f k ((framer_at fs 0 f i w).at k b) [] x used h in r.0

    same_front : f.front k (take used x) ≡ f.front k x
    same_front =
        let l = (framer_at fs 0 f i w).at k b in
        sym (ap (λ (v : List ℕ). f.front k v) (sym (take_drop used x) ∙ ap (λ (v : List ℕ). v ++ drop used x) (sym h.exact)) ∙ l.fronts (f.front k (take used x)) (drop used x) h.spoken)

    pub first_fails : (body : List ℕ) → body ≡ f.front k (take used x) → (l p : ℕ) → (j : ℕ) × ((l ≡ j + 1) × IsBadIn (drop 1 fs) k body j p) → IsEnding fs k x (fails l p)
    first_fails body e l p d =
        let o : suc d.0 ≡ l = omega (arith, d.1.0) in
        subst (λ (v : ℕ). IsEnding fs k x (fails v p)) o (fails_above fs k x body f i holds (e ∙ same_front) d.0 p d.1.1)

-- where layer 0 has looked, the bytes are bad at the last of those
pub first_bad : (fs : List Layer) (k : ℕ) (x : List ℕ) (f : Layer) (scans : ℕ → Scan → List ℕ → Type 0) (look : Look) → slice_get fs 0 ≡ Some f → AreFramers fs → k < 2 ^ 64 →
    HasLooked f scans k x look → look.seen ≡ seen.Bad → IsEnding fs k x (fails 0 (look.scanned - 1))
first_bad [] k x f scans look i w b h e = absurd (cc i)
first_bad (g ∷ fs) k x f scans look i w b h e =
    let s = subst (λ (v : Seen). IsSettled f scans k (take look.scanned x) v) e h.settled in
    let o : f ≡ g = cc in
    let m : length (take look.scanned x) ≡ look.scanned = length-take-le look.scanned x h.within in
    let lt : 0 < look.scanned = omega (arith, s.0, m) in
    let a : take (length (take look.scanned x) - 1) (take look.scanned x) ≡ take (look.scanned - 1) x = rw m (grind (arith, common_steps)) in
    let c : take look.scanned x ≡ take (look.scanned - 1 + 1) x = ap (λ (u : ℕ). take u x) (omega arith) in
    bad_here g k (w.0.at k b) x (look.scanned - 1) (omega (arith, h.within))
    (subst (λ (u : Layer). is_viable u k (take (look.scanned - 1) x) ≡ true) o (subst (λ (u : List ℕ). is_viable f k u ≡ true) a s.1))
    (subst (λ (u : Layer). lives u k (take (look.scanned - 1 + 1) x) ≡ false) o (subst (λ (u : List ℕ). lives f k u ≡ false) c s.2))
