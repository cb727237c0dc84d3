-- The first message as a function is the one that a chain's relations give.
use Rattle.std.proofs.Common.{◌≡◌, ℕ, zero, suc, ◌+◌, ◌<◌, ◌≤◌, ◌^◌, Bool, true, false, cond, List, [], ◌∷◌, ◌++◌, length, take, refl, ap, sym, subst, ◌∙◌, arith}
use Rattle.std.proofs.lemmas.Bool.{lt-leb, le-leb}
use Rattle.taps_framer.specs.Layers.{Layer, IsLawful, IsWholeFrame, holds_whole_frame, is_viable, lives, first_frame}
use Rattle.taps_framer.specs.Sights.{IsBadPlace}
use Rattle.taps_framer.proofs.Laws.{holds_this}
use Rattle.taps_framer.proofs.Prefixes.{append-nil}
use Rattle.taps_framer.proofs.Sights.{lives_viable, lives_holds}
use Rattle.taps_chain.specs.Chained.{chained, IsSpoken}
use Rattle.taps_chain.specs.Faults.{IsInexact, broken, unfinished, left_over, IsBadIn}
use Rattle.taps_chain.specs.Heard.{needs, fails, IsEnding}
use Rattle.taps_chain.specs.ChainLaws.{AreFramers}
use Rattle.taps_chain.proofs.Delimits.{spoken_apart}
use Rattle.taps_exchange.specs.Decodings.{message, need, bad, place_from, deeper, whole_in, used_with, first_in}
use Rattle.taps_exchange.specs.Firsts.{FindsFirst, FindsWhole}

not_true : (b : Bool) → (b ≡ true → ⊥) → b ≡ false
not_true true h = absurd (h refl)
not_true false h = refl

dead_holds : (f : Layer) (k : ℕ) (x : List ℕ) → lives f k x ≡ false → holds_whole_frame f k x ≡ false
dead_holds f k x h = not_true _ (λ e. (let a = lives_holds f k x e in cc (a, h)))

dead_viable : (f : Layer) (k : ℕ) (x : List ℕ) → lives f k x ≡ false → is_viable f k x ≡ false
dead_viable f k x h = not_true _ (λ e. (let a = lives_viable f k x e in cc (a, h)))

-- the search finds the bad place
by_life : (b : Bool) (p q r : ℕ) → (b ≡ true → r ≡ q) → (b ≡ false → p ≡ q) → cond b r p ≡ q
by_life true p q r h g = h refl
by_life false p q r h g = g refl

place_found : (f : Layer) (k : ℕ) (x : List ℕ) (q : ℕ) → IsBadPlace f k x q → (n p : ℕ) → p ≤ q → q < p + n → place_from f k x p n ≡ q
place_found f k x q b zero p le lt = absurd (omega arith)
place_found f k x q b (suc n) p le lt = by_life (lives f k (take (p + 1) x)) p q (place_from f k x (p + 1) n)
    (λ e. (let ne : (p ≡ q → ⊥) = λ s. (let d = b.dies in let e' = subst (λ v. lives f k (take (v + 1) x) ≡ true) s e in cc (d, e')) in place_found f k x q b n (p + 1) (less p q le ne) (omega arith)))
    (λ e. same p q le (λ s. (let t = b.before p s in cc (t, e))))
  where
    less : (a c : ℕ) → a ≤ c → (a ≡ c → ⊥) → a + 1 ≤ c
    less a c h n = omega arith

    same : (a c : ℕ) → a ≤ c → (a < c → ⊥) → a ≡ c
    same a c h n = omega arith

bad_found : (f : Layer) (k : ℕ) (x : List ℕ) (q : ℕ) → IsBadPlace f k x q → place_from f k x 0 (length x) ≡ q
bad_found f k x q b = (let i = b.inside in place_found f k x q b (length x) 0 (omega arith) (omega arith))

fault_found : (f : Layer) (k : ℕ) (x : List ℕ) (p : ℕ) → IsInexact f k x p → (fs : List Layer) → whole_in (f ∷ fs) k x ≡ bad 0 p
fault_found f k x p (broken o h g) fs = rw (dead_holds f k x h, dead_viable f k x h, bad_found f k x p g) refl
fault_found f k x p (unfinished h g) fs = rw (h, g) refl
fault_found f k x p (left_over h g) fs = rw (h, lt-leb (length x) (length (first_frame f k x)) g) refl

-- bytes that are exactly one frame hold it, and use all bytes
whole_open : (f : Layer) (fs : List Layer) (k : ℕ) (x : List ℕ) → IsLawful f k → IsWholeFrame f k x → whole_in (f ∷ fs) k x ≡ deeper (whole_in fs k (f.front k x))
whole_open f fs k x l i =
    let r = holds_this f k l x (f.front k x) [] i.spoken (sym i.exact ∙ sym (append-nil (first_frame f k x))) in
    rw (r.0, le-leb (length x) (length (first_frame f k x)) (rw i.exact (omega arith))) refl

whole_fault : (fs : List Layer) (k : ℕ) (x : List ℕ) (l p : ℕ) → AreFramers fs → k < 2 ^ 64 → IsBadIn fs k x l p → whole_in fs k x ≡ bad l p
whole_fault [] k x l p w b h = absurd h
whole_fault (f ∷ fs) k x zero p w b h = fault_found f k x p h fs
whole_fault (f ∷ fs) k x (suc l) p w b h = whole_open f fs k x (w.0.at k b) h.0 ∙ ap deeper (whole_fault fs k (f.front k x) l p w.1 b h.1)

-- a spoken frame is exactly one
frame_whole : (f : Layer) (k : ℕ) (m : List ℕ) → IsLawful f k → f.speaks m ≡ true → IsWholeFrame f k (f.frame k m) × (f.front k (f.frame k m) ≡ m)
frame_whole f k m l s =
    let front : f.front k (f.frame k m) ≡ m = ap (λ v. f.front k v) (sym (append-nil (f.frame k m))) ∙ l.fronts m [] s in
    (record { spoken = ap (λ v. f.speaks v) front ∙ s; exact = ap (λ v. f.frame k v) front }, front)

whole_spoken : (fs : List Layer) (k : ℕ) (m : List ℕ) → AreFramers fs → k < 2 ^ 64 → IsSpoken fs k m → whole_in fs k (chained fs k m) ≡ message m 0
whole_spoken [] k m w b s = refl
whole_spoken (f ∷ fs) k m w b s =
    let a = spoken_apart f fs k m s in
    let i = frame_whole f k (chained fs k m) (w.0.at k b) a.0 in
    whole_open f fs k (f.frame k (chained fs k m)) (w.0.at k b) i.0 ∙ ap deeper (ap (λ v. whole_in fs k v) i.1 ∙ whole_spoken fs k m w.1 b a.1)

finds : (fs : List Layer) (k : ℕ) (x : List ℕ) → AreFramers fs → k < 2 ^ 64 → (m y : List ℕ) → 0 < length fs → IsSpoken fs k m → x ≡ chained fs k m ++ y → first_in fs k x ≡ message m (length (chained fs k m))
finds [] k x w b m y n s e = absurd (omega (arith, n))
finds (f ∷ fs) k x w b m y n s e =
    let a = spoken_apart f fs k m s in
    let r = holds_this f k (w.0.at k b) x (chained fs k m) y a.0 e in
    let front : f.front k x ≡ chained fs k m = ap (λ v. f.front k v) e ∙ (w.0.at k b).fronts (chained fs k m) y a.0 in
    rw (r.0, r.1) (ap (λ v. used_with (length (f.frame k (chained fs k m))) (whole_in fs k v)) front ∙ ap (used_with (length (f.frame k (chained fs k m)))) (whole_spoken fs k m w.1 b a.1))

waits : (fs : List Layer) (k : ℕ) (x : List ℕ) → IsEnding fs k x needs → first_in fs k x ≡ need
waits [] k x h = absurd h
waits (f ∷ fs) k x h = rw (h.0, h.1) refl

breaks_off : (fs : List Layer) (k : ℕ) (x : List ℕ) → AreFramers fs → k < 2 ^ 64 → (l p : ℕ) → IsEnding fs k x (fails l p) → first_in fs k x ≡ bad l p
breaks_off [] k x w b l p h = absurd h
breaks_off (f ∷ fs) k x w b zero p h = rw (dead_holds f k x h.0, dead_viable f k x h.0) (ap (bad 0) (bad_found f k x p h.1))
breaks_off (f ∷ fs) k x w b (suc l) p h = rw h.0 (ap (used_with (length (first_frame f k x))) (whole_fault fs k (f.front k x) l p w.1 b h.1))

pub finds_first : (fs : List Layer) (k : ℕ) (x : List ℕ) → AreFramers fs → k < 2 ^ 64 → FindsFirst fs k x
finds_first fs k x w b = record { finds = finds fs k x w b; waits = waits fs k x; breaks_off = breaks_off fs k x w b }

pub finds_whole : (fs : List Layer) (k : ℕ) → AreFramers fs → k < 2 ^ 64 → FindsWhole fs k
finds_whole fs k w b = record { spoken = λ m. whole_spoken fs k m w b; at_fault = λ x l p. whole_fault fs k x l p w b }
