-- Numbers of four bytes in network order.
use Rattle.std.proofs.Common.{◌≡◌, ℕ, zero, suc, ◌+◌, ◌-◌, ◌*◌, ◌/◌, ◌%◌, ◌<◌, ◌≤◌, true, List, [], ◌∷◌, ◌++◌, length, get_or, take, refl, ap, sym, ◌∙◌, arith, length-take, get_or-take}
use Rattle.std.specs.Int.{w32, to_be_bytes, from_be_bytes}
use Rattle.std.proofs.lemmas.Nat.{be_bytes_4}
use Rattle.taps_framer.specs.Prefixes.{are_bytes}
use Rattle.taps_framer.proofs.Bytes.{both, is_below, are_bytes-take}
use Rattle.taps_frames.specs.Bodies.{pad}
use Rattle.taps_frames.proofs.BodyLemmas.{length-pad, are_bytes-pad, pad-split, get_or-pad, byte_in}

-- at most four bytes, filled up, are those of the number that they tell
pub four_filled : (x : List ℕ) → are_bytes x ≡ true → length x ≤ 4 → to_be_bytes w32 (from_be_bytes w32 x) ≡ x ++ pad (4 - length x) []
four_filled x a h =
    be_bytes_4 (pad 4 x) (from_be_bytes w32 x) (length-pad 4 x) (λ i. byte_in (pad 4 x) i (are_bytes-pad 4 x a))
    (omega (arith, get_or-pad 4 x 0 h, get_or-pad 4 x 1 h, get_or-pad 4 x 2 h, get_or-pad 4 x 3 h))
    ∙ pad-split 4 x h

pub are_four : (n : ℕ) → are_bytes (to_be_bytes w32 n) ≡ true
are_four n =
    both _ _ (is_below (n / 16777216 % 256) 256 (omega arith)) (both _ _ (is_below (n / 65536 % 256) 256 (omega arith))
    (both _ _ (is_below (n / 256 % 256) 256 (omega arith)) (both _ _ (is_below (n % 256) 256 (omega arith)) refl)))

-- more bytes never tell less
grows : (x y : List ℕ) (i : ℕ) → get_or x i 0 ≤ get_or (x ++ y) i 0
grows [] y i = omega arith
grows (a ∷ x) y zero = omega arith
grows (a ∷ x) y (suc i) = grows x y i

pub told_grows : (x y : List ℕ) → from_be_bytes w32 x ≤ from_be_bytes w32 (x ++ y)
told_grows x y = omega (arith, grows x y 0, grows x y 1, grows x y 2, grows x y 3)

taken : (p : ℕ) (x : List ℕ) (j : ℕ) → j < p → get_or (take p x) j 0 ≡ get_or x j 0
taken p x j h = get_or-take p x j 0 h

beyond : (x : List ℕ) (j : ℕ) → length x ≤ j → get_or x j 0 ≡ 0
beyond [] j h = refl
beyond (a ∷ x) zero h = absurd (omega arith)
beyond (a ∷ x) (suc j) h = beyond x j (omega arith)

not_taken : (p : ℕ) (x : List ℕ) (j : ℕ) → p ≤ j → get_or (take p x) j 0 ≡ 0
not_taken p x j h = beyond (take p x) j (omega (arith, length-take p x))

-- the first bytes and then zeros
pub first_1 : (x : List ℕ) → from_be_bytes w32 (take 1 x) ≡ 16777216 * get_or x 0 0
first_1 x = omega (arith, taken 1 x 0 (omega arith), not_taken 1 x 1 (omega arith), not_taken 1 x 2 (omega arith), not_taken 1 x 3 (omega arith))

pub first_2 : (x : List ℕ) → from_be_bytes w32 (take 2 x) ≡ 16777216 * get_or x 0 0 + 65536 * get_or x 1 0
first_2 x = omega (arith, taken 2 x 0 (omega arith), taken 2 x 1 (omega arith), not_taken 2 x 2 (omega arith), not_taken 2 x 3 (omega arith))

pub first_3 : (x : List ℕ) → from_be_bytes w32 (take 3 x) ≡ 16777216 * get_or x 0 0 + 65536 * get_or x 1 0 + 256 * get_or x 2 0
first_3 x = omega (arith, taken 3 x 0 (omega arith), taken 3 x 1 (omega arith), taken 3 x 2 (omega arith), not_taken 3 x 3 (omega arith))

pub first_4 : (x : List ℕ) → from_be_bytes w32 (take 4 x) ≡ from_be_bytes w32 x
first_4 x = omega (arith, taken 4 x 0 (omega arith), taken 4 x 1 (omega arith), taken 4 x 2 (omega arith), taken 4 x 3 (omega arith))

-- the first four of bytes are those of the number that they tell
pub four_whole : (x : List ℕ) → are_bytes x ≡ true → 4 ≤ length x → take 4 x ≡ to_be_bytes w32 (from_be_bytes w32 x)
four_whole x a h =
    sym (ap (λ (n : ℕ). to_be_bytes w32 n) (sym (first_4 x)) ∙ be_bytes_4 (take 4 x) (from_be_bytes w32 (take 4 x)) (omega (arith, length-take 4 x)) (λ i. byte_in (take 4 x) i (are_bytes-take 4 x a)) refl)
