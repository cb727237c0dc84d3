-- One thing is heard of bytes.
use Rattle.std.proofs.Common.{◌≡◌, ℕ, zero, suc, ◌+◌, ◌<◌, ◌^◌, Bool, true, false, List, [], ◌∷◌, ◌++◌, length, refl, ap, sym, subst, ◌∙◌, arith, append_assoc}
use Rattle.taps_framer.specs.Layers.{Layer, IsLawful, IsWholeFrame, holds_whole_frame, is_viable, lives, first_frame}
use Rattle.taps_framer.specs.Sights.{IsBadPlace}
use Rattle.taps_framer.proofs.Laws.{holds_this}
use Rattle.taps_framer.proofs.Prefixes.{append-nil}
use Rattle.taps_framer.proofs.Sights.{lives_viable, lives_holds}
use Rattle.taps_chain.specs.Chained.{chained, IsSpoken, spelling, AreSpoken}
use Rattle.taps_chain.specs.Faults.{IsInexact, broken, unfinished, left_over, IsBadIn}
use Rattle.taps_chain.specs.Heard.{Ending, needs, fails, IsEnding, IsHeard}
use Rattle.taps_chain.specs.ChainLaws.{AreFramers, IsOneHearing}
use Rattle.taps_chain.proofs.Delimits.{spoken_apart, chained_apart, takes_some}

-- a spoken frame is exactly one
not_inexact : (f : Layer) (k : ℕ) → IsLawful f k → (b : List ℕ) → f.speaks b ≡ true → (x : List ℕ) → x ≡ f.frame k b → (p : ℕ) → IsInexact f k x p → ⊥
not_inexact f k l b s x e p (broken o h g) =
    let r = holds_this f k l x b [] s (e ∙ sym (append-nil (f.frame k b))) in cc (h, lives_holds f k x r.0)
not_inexact f k l b s x e p (unfinished h g) =
    let r = holds_this f k l x b [] s (e ∙ sym (append-nil (f.frame k b))) in cc (h, r.0)
not_inexact f k l b s x e p (left_over h g) =
    let r = holds_this f k l x b [] s (e ∙ sym (append-nil (f.frame k b))) in
    let n : length (first_frame f k x) ≡ length x = ap length (r.1 ∙ sym e) in omega arith

-- no layer is at fault in a message's bytes
pub not_bad : (fs : List Layer) (k : ℕ) → AreFramers fs → k < 2 ^ 64 → (m : List ℕ) → IsSpoken fs k m → (x : List ℕ) → x ≡ chained fs k m → (l p : ℕ) → IsBadIn fs k x l p → ⊥
not_bad [] k w b m s x e l p h = h
not_bad (f ∷ fs) k w b m s x e zero p h =
    not_inexact f k (w.0.at k b) (chained fs k m) (spoken_apart f fs k m s).0 x e p h
not_bad (f ∷ fs) k w b m s x e (suc l) p h =
    let s' = spoken_apart f fs k m s in
    let n : x ≡ f.frame k (chained fs k m) ++ [] = e ∙ sym (append-nil (f.frame k (chained fs k m))) in
    not_bad fs k w.1 b m s'.1 (f.front k x) (ap (λ (v : List ℕ). f.front k v) n ∙ (w.0.at k b).fronts (chained fs k m) [] s'.0) l p h.1

-- what begins with a message does not end the hearing
pub not_ending : (fs : List Layer) (k : ℕ) → AreFramers fs → k < 2 ^ 64 → (m y : List ℕ) → IsSpoken fs k m → (x : List ℕ) → x ≡ chained fs k m ++ y → (e : Ending) → IsEnding fs k x e → ⊥
not_ending [] k w b m y s x n e h = h
not_ending (f ∷ fs) k w b m y s x n needs h =
    let s' = spoken_apart f fs k m s in
    let r = holds_this f k (w.0.at k b) x (chained fs k m) y s'.0 n in cc (h.0, r.0)
not_ending (f ∷ fs) k w b m y s x n (fails zero p) h =
    let s' = spoken_apart f fs k m s in
    let r = holds_this f k (w.0.at k b) x (chained fs k m) y s'.0 n in cc (h.0, lives_holds f k x r.0)
not_ending (f ∷ fs) k w b m y s x n (fails (suc l) p) h =
    let s' = spoken_apart f fs k m s in
    not_bad fs k w.1 b m s'.1 (f.front k x) (ap (λ (v : List ℕ). f.front k v) n ∙ (w.0.at k b).fronts (chained fs k m) y s'.0) l p h.1

by_order : (p q : ℕ) → (p < q → ⊥) → (q < p → ⊥) → p ≡ q
by_order p q a b = omega arith

same_place : (f : Layer) (k : ℕ) (x : List ℕ) (p q : ℕ) → IsBadPlace f k x p → IsBadPlace f k x q → p ≡ q
same_place f k x p q h j = by_order p q
    (λ lt. let a = j.before p lt in let b = h.dies in cc (a, b))
    (λ lt. let a = h.before q lt in let b = j.dies in cc (a, b))

dead_waits : (f : Layer) (k : ℕ) (x : List ℕ) → lives f k x ≡ false → is_viable f k x ≡ true → ⊥
dead_waits f k x h j = let a = lives_viable f k x j in cc (a, h)

dead_holds : (f : Layer) (k : ℕ) (x : List ℕ) → lives f k x ≡ false → holds_whole_frame f k x ≡ true → ⊥
dead_holds f k x h j = let a = lives_holds f k x j in cc (a, h)

true_false : (b : Bool) → b ≡ true → b ≡ false → ⊥
true_false b h j = cc (h, j)

same_inexact : (f : Layer) (k : ℕ) (x : List ℕ) (p q : ℕ) → IsInexact f k x p → IsInexact f k x q → p ≡ q
same_inexact f k x p q (broken o h g) (broken u i j) = same_place f k x _ _ g j
same_inexact f k x p q (broken o h g) (unfinished i j) = absurd (dead_waits f k x h j)
same_inexact f k x p q (broken o h g) (left_over i j) = absurd (dead_holds f k x h i)
same_inexact f k x p q (unfinished h g) (broken u i j) = absurd (dead_waits f k x i g)
same_inexact f k x p q (unfinished h g) (unfinished i j) = refl
same_inexact f k x p q (unfinished h g) (left_over i j) = absurd (true_false _ i h)
same_inexact f k x p q (left_over h g) (broken u i j) = absurd (dead_holds f k x i h)
same_inexact f k x p q (left_over h g) (unfinished i j) = absurd (true_false _ h i)
same_inexact f k x p q (left_over h g) (left_over i j) = refl

exact_inexact : (f : Layer) (k : ℕ) → IsLawful f k → (x : List ℕ) (p : ℕ) → IsWholeFrame f k x → IsInexact f k x p → ⊥
exact_inexact f k l x p e i = not_inexact f k l (f.front k x) e.spoken x (sym e.exact) p i

-- one layer is the first at fault, at one place
pub same_bad : (fs : List Layer) (k : ℕ) → AreFramers fs → k < 2 ^ 64 → (x : List ℕ) (l p m q : ℕ) → IsBadIn fs k x l p → IsBadIn fs k x m q → (l ≡ m) × (p ≡ q)
same_bad [] k w b x l p m q h j = absurd h
same_bad (f ∷ fs) k w b x zero p zero q h j = (refl, same_inexact f k x p q h j)
same_bad (f ∷ fs) k w b x zero p (suc m) q h j = absurd (exact_inexact f k (w.0.at k b) x p j.0 h)
same_bad (f ∷ fs) k w b x (suc l) p zero q h j = absurd (exact_inexact f k (w.0.at k b) x q h.0 j)
same_bad (f ∷ fs) k w b x (suc l) p (suc m) q h j = let r = same_bad fs k w.1 b (f.front k x) l p m q h.1 j.1 in (ap suc r.0, r.1)

pub same_ending : (fs : List Layer) (k : ℕ) → AreFramers fs → k < 2 ^ 64 → (x : List ℕ) (d e : Ending) → IsEnding fs k x d → IsEnding fs k x e → d ≡ e
same_ending [] k w b x d e h j = absurd h
same_ending (f ∷ fs) k w b x needs needs h j = refl
same_ending (f ∷ fs) k w b x needs (fails zero q) h j = absurd (dead_waits f k x j.0 h.1)
same_ending (f ∷ fs) k w b x needs (fails (suc m) q) h j = absurd (true_false _ j.0 h.0)
same_ending (f ∷ fs) k w b x (fails zero p) needs h j = absurd (dead_waits f k x h.0 j.1)
same_ending (f ∷ fs) k w b x (fails zero p) (fails zero q) h j = ap (λ (v : ℕ). fails zero v) (same_place f k x p q h.1 j.1)
same_ending (f ∷ fs) k w b x (fails zero p) (fails (suc m) q) h j = absurd (dead_holds f k x h.0 j.0)
same_ending (f ∷ fs) k w b x (fails (suc l) p) needs h j = absurd (true_false _ h.0 j.0)
same_ending (f ∷ fs) k w b x (fails (suc l) p) (fails zero q) h j = absurd (dead_holds f k x j.0 h.0)
same_ending (f ∷ fs) k w b x (fails (suc l) p) (fails (suc m) q) h j =
    let r = same_bad fs k w.1 b (f.front k x) l p m q h.1 j.1 in
    ap (λ (v : ℕ). fails (suc v) p) r.0 ∙ ap (λ (v : ℕ). fails (suc m) v) r.1

-- how what is heard ends, at the index of its rest
ends_at : (fs : List Layer) (k j : ℕ) (r : List ℕ) (d : Ending) → k ≡ j → IsEnding fs k r d → IsEnding fs j r d
ends_at fs k j r d e h = subst (λ (v : ℕ). IsEnding fs v r d) e h

-- nothing but an end is heard of what begins with no message
not_begun : (fs : List Layer) (k : ℕ) → AreFramers fs → k < 2 ^ 64 → (x : List ℕ) (d : Ending) → IsEnding fs k x d → (m : List ℕ) (ms : List (List ℕ)) (r : List ℕ) → AreSpoken fs k (m ∷ ms) → x ≡ spelling fs k (m ∷ ms) ++ r → ⊥
not_begun fs k w b x d i m ms r s e =
    not_ending fs k w b m (spelling fs (k + 1) ms ++ r) s.0 x (e ∙ append_assoc (chained fs k m) (spelling fs (k + 1) ms) r) d i

-- what is heard of bytes is heard of them alone
pub heard_once : (fs : List Layer) → 0 < length fs → AreFramers fs → (k : ℕ) (x : List ℕ) (ms ns : List (List ℕ)) (d e : Ending) (r s : List ℕ) → k + length x < 2 ^ 64 → IsHeard fs k x ms d r → IsHeard fs k x ns e s → IsOneHearing ms ns d e r s
heard_once fs n w k x [] [] d e r s b h j =
    let t : r ≡ s = sym h.split ∙ j.split in
    record {
      messages = refl;
      ending = same_ending fs k w (omega arith) s d e (subst (λ (v : List ℕ). IsEnding fs k v d) t (ends_at fs (k + 0) k r d (omega arith) h.ends)) (ends_at fs (k + 0) k s e (omega arith) j.ends);
      rest = t;
    }
heard_once fs n w k x [] (c ∷ ns) d e r s b h j =
    absurd (not_begun fs k w (omega arith) r d (ends_at fs (k + 0) k r d (omega arith) h.ends) c ns s j.spoken (sym h.split ∙ j.split))
heard_once fs n w k x (a ∷ ms) [] d e r s b h j =
    absurd (not_begun fs k w (omega arith) s e (ends_at fs (k + 0) k s e (omega arith) j.ends) a ms r h.spoken (sym j.split ∙ h.split))
heard_once fs n w k x (a ∷ ms) (c ∷ ns) d e r s b h j =
    let y : List ℕ = spelling fs (k + 1) ms ++ r in
    let z : List ℕ = spelling fs (k + 1) ns ++ s in
    let hx : x ≡ chained fs k a ++ (spelling fs (k + 1) ms ++ r) = h.split ∙ append_assoc (chained fs k a) (spelling fs (k + 1) ms) r in
    let jx : x ≡ chained fs k c ++ (spelling fs (k + 1) ns ++ s) = j.split ∙ append_assoc (chained fs k c) (spelling fs (k + 1) ns) s in
    let t = chained_apart fs n w k (omega arith) a c y z h.spoken.0 j.spoken.0 (sym hx ∙ jx) in
    let lt : length (spelling fs (k + 1) ms ++ r) < length x = takes_some fs n w k x a y (omega arith) h.spoken.0 hx in
    let i : IsOneHearing ms ns d e r s = heard_once fs n w (k + 1) y ms ns d e r s (omega arith)
    (record { split = refl; spoken = h.spoken.1; ends = ends_at fs (k + suc (length ms)) ((k + 1) + length ms) r d (omega arith) h.ends })
    (record { split = t.1; spoken = j.spoken.1; ends = ends_at fs (k + suc (length ns)) ((k + 1) + length ns) s e (omega arith) j.ends }) in
    record { messages = ap (λ (v : List ℕ). v ∷ ms) t.0 ∙ ap (λ (v : List (List ℕ)). c ∷ v) i.messages; ending = i.ending; rest = i.rest }
