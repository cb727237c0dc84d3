-- What stands at a place of a list with one more, and of one in which another was set.
use Rattle.std.proofs.Common.{◌≡◌, ◌⊎◌, inl, inr, ℕ, zero, suc, ◌<◌, false, List, [], ◌∷◌, ◌++◌, length, refl, ap, arith}
use Rattle.std.specs.Prelude.{◌==◌, slice_get, slice_set, None, Some}
use Rattle.std.proofs.lemmas.Bool.Decides.{nat_tests}

pub first_test : (s : ℕ) → (0 == suc s) ≡ false
first_test s = grind (arith, nat_tests)

pub last_test : (k : ℕ) → (suc k == 0) ≡ false
last_test k = grind (arith, nat_tests)

pub next_test : (k s : ℕ) → (suc k == suc s) ≡ (k == s)
next_test k s = grind (arith, nat_tests)

pub at_place : {A : Type 0} (cs : List A) (x c : A) (s : ℕ) → slice_get (cs ++ x ∷ []) s ≡ Some c → ((s < length cs) × (slice_get cs s ≡ Some c)) ⊎ ((s ≡ length cs) × (x ≡ c))
at_place [] x c zero h = inr (refl, cc)
at_place [] x c (suc s) h = absurd (let z : None ≡ Some c = h in cc)
at_place (y ∷ cs) x c zero h = inl (omega arith, h)
at_place (y ∷ cs) x c (suc s) h =
    elim (at_place cs x c s h) as (λ _. ((suc s < suc (length cs)) × (slice_get (y ∷ cs) (suc s) ≡ Some c)) ⊎ ((suc s ≡ suc (length cs)) × (x ≡ c))) [
      | inl p ↦ inl ((let less = p.0 in omega arith), p.1)
      | inr p ↦ inr ((let same = p.0 in omega arith), p.1)
    ]

pub set_place : {A : Type 0} (cs : List A) (k s : ℕ) (x d : A) → slice_get (slice_set cs k x) s ≡ Some d → ((k ≡ s) × (x ≡ d)) ⊎ (((k == s) ≡ false) × (slice_get cs s ≡ Some d))
set_place [] k s x d h = absurd (let z : None ≡ Some d = h in cc)
set_place (c ∷ cs) zero zero x d h = inl (refl, cc)
set_place (c ∷ cs) zero (suc s) x d h = inr (first_test s, h)
set_place (c ∷ cs) (suc k) zero x d h = inr (last_test k, h)
set_place (c ∷ cs) (suc k) (suc s) x d h =
    elim (set_place cs k s x d h) as (λ _. ((suc k ≡ suc s) × (x ≡ d)) ⊎ (((suc k == suc s) ≡ false) × (slice_get cs s ≡ Some d))) [
      | inl p ↦ inl (ap (λ n. suc n) p.0, p.1)
      | inr p ↦ inr (rw (next_test k s) p.0, p.1)
    ]

pub set_length : {A : Type 0} (cs : List A) (k : ℕ) (x : A) → length (slice_set cs k x) ≡ length cs
set_length [] k x = refl
set_length (c ∷ cs) zero x = refl
set_length (c ∷ cs) (suc k) x = ap (λ n. suc n) (set_length cs k x)
