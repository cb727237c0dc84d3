-- Which sockets a list has, and which of them a filter keeps.
use Rattle.std.proofs.Common.{◌≡◌, ◌⊎◌, ℕ, Bool, true, false, ◌&&◌, ◌||◌, List, [], ◌∷◌, refl, sym, subst, inl, inr, if◌then◌else◌}
use Rattle.std.specs.Prelude.{◌==◌, filter}
use Rattle.std.proofs.lemmas.Bool.{eqb-true}
use Rattle.taps_socket.specs.RaceSockets.{has}

pub both : (a b : Bool) → (a && b) ≡ true → (a ≡ true) × (b ≡ true)
both true b h = (refl, h)
both false b h = cc

pub either : (a b : Bool) → (a || b) ≡ true → (a ≡ true) ⊎ (b ≡ true)
either true b h = inl refl
either false b h = inr h

pub or_left : (a b : Bool) → a ≡ true → (a || b) ≡ true
or_left true b h = refl
or_left false b h = cc

pub or_right : (a b : Bool) → b ≡ true → (a || b) ≡ true
or_right true b h = refl
or_right false b h = h

-- a test is false where it cannot be true
pub false_by : (b : Bool) → (b ≡ true → ⊥) → b ≡ false
false_by true h = absurd (h refl)
false_by false h = refl

-- a socket that a filter keeps passes it and was there
kept_by : (q : Bool) (p : ℕ → Bool) (x s : ℕ) (rest more : List ℕ) → p x ≡ q → (has rest s ≡ true → (p s ≡ true) × (has more s ≡ true)) → has (if q then x ∷ rest else rest) s ≡ true → (p s ≡ true) × (((x == s) || has more s) ≡ true)
kept_by false p x s rest more e ih h = let k = ih h in (k.0, or_right (x == s) _ k.1)
kept_by true p x s rest more e ih h =
    elim (either _ _ h) [
      | inl here ↦ (subst (λ v. p v ≡ true) (eqb-true _ _ here) e, or_left _ _ here)
      | inr there ↦ (let k = ih there in (k.0, or_right (x == s) _ k.1))
    ]

pub kept : (p : ℕ → Bool) (xs : List ℕ) (s : ℕ) → has (filter p xs) s ≡ true → (p s ≡ true) × (has xs s ≡ true)
kept p [] s h = cc
kept p (x ∷ xs) s h = kept_by (p x) p x s (filter p xs) xs refl (kept p xs s) h

-- and one that passes it is kept
keeps_by : (q : Bool) (x s : ℕ) (rest : List ℕ) → has rest s ≡ true → has (if q then x ∷ rest else rest) s ≡ true
keeps_by true x s rest h = or_right _ _ h
keeps_by false x s rest h = h

pub keeps : (p : ℕ → Bool) (xs : List ℕ) (s : ℕ) → p s ≡ true → has xs s ≡ true → has (filter p xs) s ≡ true
keeps p [] s h there = there
keeps p (x ∷ xs) s h there =
    elim (either _ _ there) [
      | inl here ↦ (let e : p x ≡ true = subst (λ v. p v ≡ true) (sym (eqb-true _ _ here)) h in rw e (or_left _ _ here))
      | inr more ↦ keeps_by (p x) x s (filter p xs) (keeps p xs s h more)
    ]

-- what is not there is in no part of it
pub absent : (a b : Bool) → (a ≡ true → b ≡ true) → b ≡ false → a ≡ false
absent true b more h = let z : b ≡ true = more refl in cc
absent false b more h = refl
