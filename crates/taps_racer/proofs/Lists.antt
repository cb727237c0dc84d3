-- Which socket of a list is the least.
use Rattle.std.proofs.Common.{◌≡◌, ◌⊎◌, ℕ, ◌<◌, ◌≤◌, Bool, true, false, ◌||◌, List, [], ◌∷◌, refl, ap, subst, inl, inr, arith}
use Rattle.std.specs.Prelude.{◌==◌, min, fold, nat_le, None, Some}
use Rattle.std.specs.List.{reduce}
use Rattle.std.proofs.lemmas.Bool.{eq-eqb, leb-true, leb-false}
use Rattle.taps_socket.specs.RaceSockets.{has}
use Rattle.taps_socket.proofs.Lists.{either, or_left, or_right}

-- the least of a list is in it
min_either : (x y : ℕ) → (min x y ≡ x) ⊎ (min x y ≡ y)
min_either x y = elim (nat_le x y) as (λ q. nat_le x y ≡ q → (min x y ≡ x) ⊎ (min x y ≡ y)) [
  | true ↦ (λ e. (let l : x ≤ y = leb-true x y e in inl (omega arith)))
  | false ↦ (λ e. (let l : y < x = leb-false x y e in inr (omega arith)))
] refl

least_by : (x y s : ℕ) (more : Bool) → (min x y ≡ x) ⊎ (min x y ≡ y) → ((min x y == s) || more) ≡ true → ((x == s) || ((y == s) || more)) ≡ true
least_by x y s more (inl e) h = elim (either (x == s) more (rw e at h)) [ inl here ↦ or_left (x == s) _ here | inr there ↦ or_right (x == s) _ (or_right (y == s) more there) ]
least_by x y s more (inr e) h = or_right (x == s) _ (rw e at h)

least_from : (x : ℕ) (xs : List ℕ) → has (x ∷ xs) (fold min x xs) ≡ true
least_from x [] = or_left _ _ (eq-eqb x x refl)
least_from x (y ∷ xs) = least_by x y (fold min (min x y) xs) (has xs (fold min (min x y) xs)) (min_either x y) (least_from (min x y) xs)

pub least_has : (xs : List ℕ) (s : ℕ) → reduce min xs ≡ Some s → has xs s ≡ true
least_has [] s h = cc
least_has (x ∷ xs) s h = let e : fold min x xs ≡ s = cc in subst (λ v. has (x ∷ xs) v ≡ true) e (least_from x xs)

-- and a list without one is empty
pub least_none : (xs : List ℕ) → reduce min xs ≡ None → xs ≡ []
least_none [] h = refl
least_none (x ∷ xs) h = cc

-- the least where all that are in a list are the same
pub least_of_same : (xs : List ℕ) (s : ℕ) → has xs s ≡ true → ((x : ℕ) → has xs x ≡ true → x ≡ s) → reduce min xs ≡ Some s
least_of_same [] s h same = cc
least_of_same (x ∷ xs) s h same = ap Some (same (fold min x xs) (least_from x xs))
