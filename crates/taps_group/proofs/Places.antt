-- One of a list changes, and the others stay.
use Rattle.std.proofs.Common.{◌≡◌, ℕ, zero, suc, List, [], ◌∷◌, ◌++◌, length, slice_get, slice_set, get_or, Option, Some, None, refl, sym, ap, subst, ◌<◌, arith}
use Rattle.std.specs.Prelude.{IfSome}
use Rattle.std.proofs.lemmas.Option.{slice_get_read}
use Rattle.taps_group.specs.Places.{IsAt}

pub set_here : {A : Type 0} (xs : List A) (i : ℕ) (a x : A) → slice_get xs i ≡ Some x → slice_get (slice_set xs i a) i ≡ Some a
set_here [] i a x h = absurd (cc)
set_here (y ∷ ys) zero a x h = refl
set_here (y ∷ ys) (suc i) a x h = set_here ys i a x h

pub set_there : {A : Type 0} (xs : List A) (i j : ℕ) (a : A) → (j ≡ i → ⊥) → slice_get (slice_set xs i a) j ≡ slice_get xs j
set_there [] i j a h = refl
set_there (y ∷ ys) zero zero a h = absurd (h refl)
set_there (y ∷ ys) zero (suc j) a h = refl
set_there (y ∷ ys) (suc i) zero a h = refl
set_there (y ∷ ys) (suc i) (suc j) a h = set_there ys i j a (λ e. h (ap suc e))

pub push_here : {A : Type 0} (xs : List A) (a : A) → slice_get (xs ++ a ∷ []) (length xs) ≡ Some a
push_here [] a = refl
push_here (y ∷ ys) a = push_here ys a

pub push_there : {A : Type 0} (xs : List A) (i : ℕ) (a : A) → i < length xs → slice_get (xs ++ a ∷ []) i ≡ slice_get xs i
push_there [] i a h = absurd (omega arith)
push_there (y ∷ ys) zero a h = refl
push_there (y ∷ ys) (suc i) a h = push_there ys i a (omega arith)

-- what holds of the one at a place holds of it
pub holds_at : {A : Type 0} (xs : List A) (i : ℕ) (x : A) (P : A → Type 0) → slice_get xs i ≡ Some x → IsAt xs i P → P x
holds_at xs i x P at h = by (slice_get xs i) at h
  where
    by : (o : Option _) → o ≡ Some x → IfSome o P → P x
    by (Some y) e p = subst P (let one : y ≡ x = cc in one) p
    by None e p = absurd (cc)

pub is_at : {A : Type 0} (xs : List A) (i : ℕ) (x : A) (P : A → Type 0) → slice_get xs i ≡ Some x → P x → IsAt xs i P
is_at xs i x P at h = subst (λ o. IfSome o P) (sym at) h

pub indexed : {A : Type 0} (xs : List A) (i : ℕ) (x : A) → i < length xs → x ≡ get_or xs i x → slice_get xs i ≡ Some x
indexed xs i x within is = slice_get_read xs (length xs) i x refl within is

pub some_at : {A : Type 0} (xs : List A) (i : ℕ) → i < length xs → (x : A) × (slice_get xs i ≡ Some x)
some_at [] i h = absurd (omega arith)
some_at (y ∷ ys) zero h = (y, refl)
some_at (y ∷ ys) (suc i) h = some_at ys i (omega arith)

pub set_same : {A : Type 0} (xs : List A) (i : ℕ) (x : A) → slice_get xs i ≡ Some x → slice_set xs i x ≡ xs
set_same [] i x h = refl
set_same (y ∷ ys) zero x h = ap (λ v. v ∷ ys) (let one : y ≡ x = cc in sym one)
set_same (y ∷ ys) (suc i) x h = ap (λ v. y ∷ v) (set_same ys i x h)
