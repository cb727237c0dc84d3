-- Tests on numbers, and lists of bytes.
use Rattle.std.proofs.Common.{◌≡◌, ℕ, zero, suc, ◌<◌, ◌≤◌, Bool, true, false, ◌&&◌, nat_lt, Fits, w8, List, [], ◌∷◌, ◌++◌, get_or, take, drop, refl, arith}
use Rattle.std.proofs.lemmas.Bool.Decides.{nat_tests}
use Rattle.taps_framer.specs.Prefixes.{are_bytes}

pub is_below : (a b : ℕ) → a < b → nat_lt a b ≡ true
is_below a b h = grind (arith, nat_tests)

pub is_not_below : (a b : ℕ) → b ≤ a → nat_lt a b ≡ false
is_not_below a b h = grind (arith, nat_tests)

pub below_is : (a b : ℕ) → nat_lt a b ≡ true → a < b
below_is a b h = grind (arith, nat_tests)

pub both : (a b : Bool) → a ≡ true → b ≡ true → (a && b) ≡ true
both a b h k = grind arith

pub and-left : (a b : Bool) → (a && b) ≡ true → a ≡ true
and-left a b h = grind arith

pub and-right : (a b : Bool) → (a && b) ≡ true → b ≡ true
and-right a b h = grind arith

pub false_by : (b : Bool) → (b ≡ true → ⊥) → b ≡ false
false_by true h = absurd (h refl)
false_by false h = refl

pub are_bytes_by : (x : List ℕ) → ((i : ℕ) → get_or x i 0 < 256) → are_bytes x ≡ true
are_bytes_by [] h = refl
are_bytes_by (a ∷ x) h = both _ _ (is_below a 256 (h 0)) (are_bytes_by x (λ i. h (suc i)))

-- what a slice of bytes holds
pub are_bytes_fit : (x : List ℕ) → ((i : ℕ) → Fits w8 (get_or x i 0)) → are_bytes x ≡ true
are_bytes_fit x h = are_bytes_by x (λ i. let k = h i in omega arith)

pub are_bytes-append : (x y : List ℕ) → are_bytes x ≡ true → are_bytes y ≡ true → are_bytes (x ++ y) ≡ true
are_bytes-append [] y h k = k
are_bytes-append (a ∷ x) y h k = both _ _ (and-left _ _ h) (are_bytes-append x y (and-right (nat_lt a 256) _ h) k)

pub are_bytes-left : (x y : List ℕ) → are_bytes (x ++ y) ≡ true → are_bytes x ≡ true
are_bytes-left [] y h = refl
are_bytes-left (a ∷ x) y h = both _ _ (and-left _ _ h) (are_bytes-left x y (and-right (nat_lt a 256) _ h))

pub are_bytes-right : (x y : List ℕ) → are_bytes (x ++ y) ≡ true → are_bytes y ≡ true
are_bytes-right [] y h = h
are_bytes-right (a ∷ x) y h = are_bytes-right x y (and-right (nat_lt a 256) _ h)

pub are_bytes-drop : (n : ℕ) (x : List ℕ) → are_bytes x ≡ true → are_bytes (drop n x) ≡ true
are_bytes-drop zero x h = h
are_bytes-drop (suc n) [] h = refl
are_bytes-drop (suc n) (a ∷ x) h = are_bytes-drop n x (and-right (nat_lt a 256) _ h)

pub are_bytes-take : (n : ℕ) (x : List ℕ) → are_bytes x ≡ true → are_bytes (take n x) ≡ true
are_bytes-take zero x h = refl
are_bytes-take (suc n) [] h = refl
are_bytes-take (suc n) (a ∷ x) h = both _ _ (and-left _ _ h) (are_bytes-take n x (and-right (nat_lt a 256) _ h))
