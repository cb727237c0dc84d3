-- Lists that begin others.
use Rattle.std.proofs.Common.{◌≡◌, ℕ, ◌+◌, ◌<◌, true, List, [], ◌∷◌, ◌++◌, length, take, drop, refl, ap, sym, ◌∙◌, arith, ◌⊎◌, inl, inr}
use Rattle.std.proofs.lemmas.Grind.{common_steps}
use Rattle.taps_framer.specs.Prefixes.{is_prefix}

pub is_prefix-append : (x y : List ℕ) → is_prefix x (x ++ y) ≡ true
is_prefix-append [] y = refl
is_prefix-append (a ∷ x) y = grind (arith, common_steps, is_prefix-append x y)

pub is_prefix-split : (x z : List ℕ) → is_prefix x z ≡ true → z ≡ x ++ drop (length x) z
is_prefix-split [] z h = grind (arith, common_steps)
is_prefix-split (a ∷ x) [] h = cc
is_prefix-split (a ∷ x) (b ∷ z) h = grind (arith, common_steps, is_prefix-split x z)

pub append-cancel : (x y z : List ℕ) → x ++ y ≡ x ++ z → y ≡ z
append-cancel [] y z h = h
append-cancel (a ∷ x) y z h = append-cancel x y z (cc)

pub append-nil : (x : List ℕ) → x ++ [] ≡ x
append-nil [] = refl
append-nil (a ∷ x) = ap (λ (v : List ℕ). a ∷ v) (append-nil x)

-- of two lists that begin one list, one begins the other
pub compared : (a b c d : List ℕ) → a ++ b ≡ c ++ d → ((t : List ℕ) × (a ≡ c ++ t)) ⊎ ((t : List ℕ) × (c ≡ a ++ t))
compared [] b c d e = inr (c, refl)
compared (p ∷ a) b [] d e = inl (p ∷ a, refl)
compared (p ∷ a) b (q ∷ c) d e =
    let h : p ≡ q = cc in
    let i : a ++ b ≡ c ++ d = cc in
    elim (compared a b c d i) [
      | inl w ↦ inl (w.0, ap (λ (v : ℕ). v ∷ a) h ∙ ap (λ (v : List ℕ). q ∷ v) w.1)
      | inr w ↦ inr (w.0, ap (λ (v : ℕ). v ∷ c) (sym h) ∙ ap (λ (v : List ℕ). p ∷ v) w.1)
    ]

pub take_drop : (n : ℕ) (x : List ℕ) → take n x ++ drop n x ≡ x
take_drop n x = grind (arith, common_steps)

-- the first bytes of a list that begins with another are that other
pub take_front : (a y x : List ℕ) (n : ℕ) → x ≡ a ++ y → n ≡ length a → take n x ≡ a
take_front a y x n e h = grind (arith, common_steps)

take_take : (q p : ℕ) (x : List ℕ) → q < p → take (q + 1) (take p x) ≡ take (q + 1) x
take_take q p x k = grind (arith, common_steps)

-- fewer of the first bytes, and what is left to more of them
pub take_fewer : (q p : ℕ) (x : List ℕ) → q < p → take (q + 1) x ++ drop (q + 1) (take p x) ≡ take p x
take_fewer q p x k = ap (λ (w : List ℕ). w ++ drop (q + 1) (take p x)) (sym (take_take q p x k)) ∙ take_drop (q + 1) (take p x)
