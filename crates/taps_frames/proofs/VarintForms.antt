-- Numbers in the shortest of their forms.
use Rattle.std.proofs.Common.{◌≡◌, ℕ, ◌+◌, ◌-◌, ◌/◌, ◌%◌, ◌<◌, ◌≤◌, true, max, List, [], ◌∷◌, ◌++◌, length, get_or, refl, ap, sym, ◌∙◌, subst, arith, inl, inr}
use Rattle.std.specs.Int.{w16, w32, to_be_bytes, from_be_bytes}
use Rattle.std.proofs.lemmas.Bool.{cases_lt}
use Rattle.std.proofs.lemmas.Nat.{from_be_bytes-to_be_bytes_2, from_be_bytes-to_be_bytes_4}
use Rattle.taps_framer.specs.Prefixes.{are_bytes}
use Rattle.taps_framer.proofs.Bytes.{both, is_below, is_not_below}
use Rattle.taps_frames.specs.Varint.{shortest, least_number, told_width}
use Rattle.taps_frames.proofs.FourBytes.{are_four}

pub short_one : (n : ℕ) → n < 64 → shortest n ≡ n ∷ []
unfolding shortest
short_one n h = rw (is_below n 64 h) refl

pub short_two : (n : ℕ) → 64 ≤ n → n < 16384 → shortest n ≡ to_be_bytes w16 (16384 + n)
unfolding shortest
short_two n h k = rw (is_not_below n 64 h, is_below n 16384 k) refl

pub short_four : (n : ℕ) → 16384 ≤ n → shortest n ≡ to_be_bytes w32 (2147483648 + n)
unfolding shortest
short_four n h = let k : 64 ≤ n = omega arith in rw (is_not_below n 64 k, is_not_below n 16384 h) refl

-- which form it is
pub data Form (m : ℕ) (w : List ℕ) : Type 0 where
  one : m < 64 → w ≡ m ∷ [] → Form m w
  two : 64 ≤ m → m < 16384 → w ≡ to_be_bytes w16 (16384 + m) → Form m w
  four : 16384 ≤ m → w ≡ to_be_bytes w32 (2147483648 + m) → Form m w

pub form : (m : ℕ) → Form m (shortest m)
form m = elim (cases_lt m 64) [
  | inl k ↦ one k (short_one m k)
  | inr k ↦ elim (cases_lt m 16384) [
    | inl l ↦ two k l (short_two m k l)
    | inr l ↦ four l (short_four m l)
  ]
]

pub least_one : (x : List ℕ) → get_or x 0 0 < 64 → least_number x ≡ get_or x 0 0
unfolding least_number
least_one x h = rw (is_below (get_or x 0 0) 64 h) refl

pub least_two : (x : List ℕ) → 64 ≤ get_or x 0 0 → get_or x 0 0 < 128 → least_number x ≡ max 64 (from_be_bytes w16 x - 16384)
unfolding least_number
least_two x h k = rw (is_not_below (get_or x 0 0) 64 h, is_below (get_or x 0 0) 128 k) refl

pub least_four : (x : List ℕ) → 128 ≤ get_or x 0 0 → least_number x ≡ max 16384 (from_be_bytes w32 x - 2147483648)
unfolding least_number
least_four x h = let k : 64 ≤ get_or x 0 0 = omega arith in rw (is_not_below (get_or x 0 0) 64 k, is_not_below (get_or x 0 0) 128 h) refl

pub width_one : (x : List ℕ) → get_or x 0 0 < 64 → told_width x ≡ 1
unfolding told_width
width_one x h = rw (is_below (get_or x 0 0) 64 h) refl

pub width_two : (x : List ℕ) → 64 ≤ get_or x 0 0 → get_or x 0 0 < 128 → told_width x ≡ 2
unfolding told_width
width_two x h k = rw (is_not_below (get_or x 0 0) 64 h, is_below (get_or x 0 0) 128 k) refl

pub width_four : (x : List ℕ) → 128 ≤ get_or x 0 0 → told_width x ≡ 4
unfolding told_width
width_four x h = let k : 64 ≤ get_or x 0 0 = omega arith in rw (is_not_below (get_or x 0 0) 64 k, is_not_below (get_or x 0 0) 128 h) refl

pub told_is : (n : ℕ) (y : List ℕ) → n ≤ 1048576 → least_number (shortest n ++ y) ≡ n
told_is n y h = elim (form n) [
  | one k e ↦ ap (λ (w : List ℕ). least_number (w ++ y)) e ∙ least_one (n ∷ y) k
  | two k l e ↦ ap (λ (w : List ℕ). least_number (w ++ y)) e ∙ least_two (to_be_bytes w16 (16384 + n) ++ y) (omega arith) (omega arith)
      ∙ omega (arith, from_be_bytes-to_be_bytes_2 (16384 + n) (omega arith))
  | four k e ↦ ap (λ (w : List ℕ). least_number (w ++ y)) e ∙ least_four (to_be_bytes w32 (2147483648 + n) ++ y) (omega arith)
      ∙ omega (arith, from_be_bytes-to_be_bytes_4 (2147483648 + n) (omega arith))
]

pub width_is : (n : ℕ) (y : List ℕ) → n ≤ 1048576 → told_width (shortest n ++ y) ≡ length (shortest n)
width_is n y h = elim (form n) [
  | one k e ↦ ap (λ (w : List ℕ). told_width (w ++ y)) e ∙ width_one (n ∷ y) k ∙ sym (ap length e)
  | two k l e ↦ ap (λ (w : List ℕ). told_width (w ++ y)) e ∙ width_two (to_be_bytes w16 (16384 + n) ++ y) (omega arith) (omega arith) ∙ sym (ap length e)
  | four k e ↦ ap (λ (w : List ℕ). told_width (w ++ y)) e ∙ width_four (to_be_bytes w32 (2147483648 + n) ++ y) (omega arith) ∙ sym (ap length e)
]

pub length-shortest : (n : ℕ) → (1 ≤ length (shortest n)) × (length (shortest n) ≤ 4)
length-shortest n = elim (form n) [
  | one k e ↦ (omega (arith, ap length e), omega (arith, ap length e))
  | two k l e ↦ (omega (arith, ap length e), omega (arith, ap length e))
  | four k e ↦ (omega (arith, ap length e), omega (arith, ap length e))
]

pub are_shortest : (n : ℕ) → are_bytes (shortest n) ≡ true
are_shortest n = elim (form n) [
  | one k e ↦ subst (λ (w : List ℕ). are_bytes w ≡ true) (sym e) (both _ _ (is_below n 256 (omega arith)) refl)
  | two k l e ↦ subst (λ (w : List ℕ). are_bytes w ≡ true) (sym e) (both _ _ (is_below ((16384 + n) / 256 % 256) 256 (omega arith)) (both _ _ (is_below ((16384 + n) % 256) 256 (omega arith)) refl))
  | four k e ↦ subst (λ (w : List ℕ). are_bytes w ≡ true) (sym e) (are_four (2147483648 + n))
]
