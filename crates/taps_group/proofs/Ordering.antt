-- The places of a member's messages in the list of all that a group accepted.
use Rattle.std.proofs.Common.{◌≡◌, ℕ, ◌+◌, ◌<◌, Bool, true, false, List, [], ◌∷◌, ◌++◌, length, if◌then◌else◌, refl, sym, ◌∙◌, ap, arith}
use Rattle.std.specs.Prelude.{◌==◌}
use Rattle.std.specs.List.{All}
use Rattle.std.proofs.lemmas.Bool.{eq-eqb, eqb-true}
use Rattle.std.proofs.lemmas.List.Elements.{All-head, All-tail}
use Rattle.taps_group.specs.Orders.{orders_from}

cond_append : (b : Bool) (k : ℕ) (xs ys : List ℕ) (last : ℕ) → xs ≡ ys ++ last ∷ [] → (if b then k ∷ xs else xs) ≡ (if b then k ∷ ys else ys) ++ last ∷ []
cond_append true k xs ys last h = ap (λ v. k ∷ v) h
cond_append false k xs ys last h = h

one_more : (p k : ℕ) → orders_from p k (p ∷ []) ≡ (k + 0) ∷ []
one_more p k = rw (eq-eqb p p refl) (ap (λ v. v ∷ []) (omega arith))

pub order_more : (p k : ℕ) (order : List ℕ) → orders_from p k (order ++ p ∷ []) ≡ orders_from p k order ++ (k + length order) ∷ []
order_more p k [] = one_more p k
order_more p k (q ∷ order) =
    let e : k + 1 + length order ≡ k + length (q ∷ order) = omega arith in
    cond_append (q == p) k _ _ _ (order_more p (k + 1) order ∙ ap (λ n. orders_from p (k + 1) order ++ n ∷ []) e)

cond_same : (b : Bool) (k : ℕ) (xs ys : List ℕ) → xs ≡ ys → (if b then k ∷ xs else xs) ≡ (if b then k ∷ ys else ys)
cond_same b k xs ys h = ap (λ v. if b then k ∷ v else v) h

not_it : (b : Bool) (k : ℕ) (xs : List ℕ) → b ≡ false → (if b then k ∷ xs else xs) ≡ xs
not_it true k xs h = absurd (cc)
not_it false k xs h = refl

test_false : (p q : ℕ) → (p ≡ q → ⊥) → (p == q) ≡ false
test_false p q h = elim_test (p == q) refl
  where
    elim_test : (b : Bool) → (p == q) ≡ b → (p == q) ≡ false
    elim_test true e = absurd (h (eqb-true p q e))
    elim_test false e = e

pub order_other : (p q k : ℕ) (order : List ℕ) → (q ≡ p → ⊥) → orders_from q k (order ++ p ∷ []) ≡ orders_from q k order
order_other p q k [] h = not_it (p == q) k [] (test_false p q (λ e. h (sym e)))
order_other p q k (r ∷ order) h = cond_same (r == q) k _ _ (order_other p q (k + 1) order h)

pub order_none : (p k : ℕ) (order : List ℕ) → All (λ q. q < p) order → orders_from p k order ≡ []
order_none p k [] h = refl
order_none p k (q ∷ order) h =
    let here : q < p = All-head (λ v. v < p) q order h in
    not_it (q == p) k _ (test_false q p (λ e. omega arith)) ∙ order_none p (k + 1) order (All-tail (λ v. v < p) q order h)
