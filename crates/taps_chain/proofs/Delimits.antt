-- A chain's bytes tell where they end, by induction on its layers.
use Rattle.std.proofs.Common.{◌≡◌, ℕ, ◌+◌, ◌<◌, ◌≤◌, ◌^◌, Bool, true, false, Option, Some, None, List, [], ◌∷◌, ◌++◌, length, refl, ap, sym, ◌∙◌, arith, append_assoc, length-append}
use Rattle.taps_framer.specs.Layers.{Layer}
use Rattle.taps_framer.proofs.Laws.{same_body, same_rest}
use Rattle.taps_chain.specs.Chained.{chained, chain_refusal, refusal_below, IsSpoken, spelling, AreSpoken}
use Rattle.taps_chain.specs.ChainLaws.{AreFramers, IsSelfDelimiting}

none_below : (b : Bool) (o : Option ℕ) → refusal_below b o ≡ None → (b ≡ true) × (o ≡ None)
none_below true None h = (refl, refl)
none_below false None h = absurd (cc h)
none_below b (Some j) h = absurd (cc h)

-- the first layer speaks, and so do those above it
pub spoken_apart : (f : Layer) (fs : List Layer) (k : ℕ) (m : List ℕ) → IsSpoken (f ∷ fs) k m → (f.speaks (chained fs k m) ≡ true) × IsSpoken fs k m
spoken_apart f fs k m s = none_below (f.speaks (chained fs k m)) (chain_refusal fs k m) s

pub spoken_together : (f : Layer) (fs : List Layer) (k : ℕ) (m : List ℕ) → f.speaks (chained fs k m) ≡ true → IsSpoken fs k m → IsSpoken (f ∷ fs) k m
spoken_together f fs k m s u = rw (s, u) refl

-- one body has these bytes
pub chained_once : (fs : List Layer) (k : ℕ) → AreFramers fs → k < 2 ^ 64 → (a b : List ℕ) → IsSpoken fs k a → IsSpoken fs k b → chained fs k a ≡ chained fs k b → a ≡ b
chained_once [] k w h a b s t e = e
chained_once (f ∷ fs) k w h a b s t e =
    let s' = spoken_apart f fs k a s in
    let t' = spoken_apart f fs k b t in
    chained_once fs k w.1 h a b s'.1 t'.1
    (same_body f k (w.0.at k h) (chained fs k a) (chained fs k b) [] [] s'.0 t'.0 (ap (λ (v : List ℕ). v ++ []) e))

-- bytes begin with one message, where the chain has a layer
pub chained_apart : (fs : List Layer) → 0 < length fs → AreFramers fs → (k : ℕ) → k < 2 ^ 64 → (a b x y : List ℕ) → IsSpoken fs k a → IsSpoken fs k b →
    chained fs k a ++ x ≡ chained fs k b ++ y → (a ≡ b) × (x ≡ y)
chained_apart [] n w k h a b x y s t e = absurd (omega arith)
chained_apart (f ∷ fs) n w k h a b x y s t e =
    let s' = spoken_apart f fs k a s in
    let t' = spoken_apart f fs k b t in (
      chained_once fs k w.1 h a b s'.1 t'.1 (same_body f k (w.0.at k h) (chained fs k a) (chained fs k b) x y s'.0 t'.0 e),
      same_rest f k (w.0.at k h) (chained fs k a) (chained fs k b) x y s'.0 t'.0 e,
    )

pub spelling_apart : (fs : List Layer) → 0 < length fs → AreFramers fs → IsSelfDelimiting fs
spelling_apart fs n w k [] [] x y b l s t e = (refl, e)
spelling_apart fs n w k [] (c ∷ ns) x y b l s t e = absurd (omega arith)
spelling_apart fs n w k (a ∷ ms) [] x y b l s t e = absurd (omega arith)
spelling_apart fs n w k (a ∷ ms) (c ∷ ns) x y b l s t e =
    let e' : chained fs k a ++ (spelling fs (k + 1) ms ++ x) ≡ chained fs k c ++ (spelling fs (k + 1) ns ++ y) =
    sym (append_assoc (chained fs k a) (spelling fs (k + 1) ms) x) ∙ e ∙ append_assoc (chained fs k c) (spelling fs (k + 1) ns) y in
    let o = chained_apart fs n w k (omega arith) a c (spelling fs (k + 1) ms ++ x) (spelling fs (k + 1) ns ++ y) s.0 t.0 e' in
    let i = spelling_apart fs n w (k + 1) ms ns x y (omega arith) (omega arith) s.1 t.1 o.1 in
    (ap (λ (v : List ℕ). v ∷ ms) o.0 ∙ ap (λ (v : List (List ℕ)). c ∷ v) i.0, i.1)

-- a message has at least one byte
pub takes_some : (fs : List Layer) → 0 < length fs → AreFramers fs → (k : ℕ) (x m y : List ℕ) → k < 2 ^ 64 → IsSpoken fs k m → x ≡ chained fs k m ++ y → length y < length x
takes_some [] n w k x m y b u e = absurd (omega arith)
takes_some (f ∷ fs) n w k x m y b u e =
    let o : 1 ≤ length (f.frame k (chained fs k m)) = (w.0.at k b).some (chained fs k m) (spoken_apart f fs k m u).0 in
    let c : length x ≡ length (f.frame k (chained fs k m)) + length y = ap length e ∙ length-append (f.frame k (chained fs k m)) y in
    omega arith

-- there are at most as many messages as bytes
pub spelling_long : (fs : List Layer) → 0 < length fs → AreFramers fs → (k : ℕ) (ms : List (List ℕ)) (y : List ℕ) → k + length (spelling fs k ms ++ y) < 2 ^ 64 → AreSpoken fs k ms → length ms + length y ≤ length (spelling fs k ms ++ y)
spelling_long fs n w k [] y b s = omega arith
spelling_long fs n w k (m ∷ ms) y b s =
    let e : (chained fs k m ++ spelling fs (k + 1) ms) ++ y ≡ chained fs k m ++ (spelling fs (k + 1) ms ++ y) = append_assoc (chained fs k m) (spelling fs (k + 1) ms) y in
    let o : length (spelling fs (k + 1) ms ++ y) < length ((chained fs k m ++ spelling fs (k + 1) ms) ++ y) = takes_some fs n w k ((chained fs k m ++ spelling fs (k + 1) ms) ++ y) m (spelling fs (k + 1) ms ++ y) (omega arith) s.0 e in
    let i : length ms + length y ≤ length (spelling fs (k + 1) ms ++ y) = spelling_long fs n w (k + 1) ms y (omega arith) s.1 in
    omega arith
