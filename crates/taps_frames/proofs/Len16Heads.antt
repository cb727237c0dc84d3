-- The heads of len16.
use Rattle.std.proofs.Common.{◌≡◌, ℕ, ◌-◌, ◌/◌, ◌%◌, ◌<◌, true, List, [], ◌++◌, length, refl, ap, ◌∙◌, subst, arith, length-append}
use Rattle.std.specs.Int.{w16, to_be_bytes, from_be_bytes}
use Rattle.std.proofs.lemmas.Nat.{be_bytes_2}
use Rattle.taps_framer.specs.Prefixes.{are_bytes}
use Rattle.taps_framer.proofs.Bytes.{both, is_below, are_bytes-left}
use Rattle.taps_frames.specs.Bodies.{pad}
use Rattle.taps_frames.specs.Scans.{HasHeads, IsLawfulFormat, number_behind}
use Rattle.taps_frames.specs.Formats.{IsBegun}
use Rattle.taps_frames.specs.Len16.{len16_format}
use Rattle.taps_frames.proofs.BodyLemmas.{length-pad, are_bytes-pad, pad-split, get_or-pad, byte_in}

-- fewer than two bytes, filled up, are those of the number that they tell
two_filled : (x : List ℕ) → are_bytes x ≡ true → length x < 2 → to_be_bytes w16 (from_be_bytes w16 x) ≡ x ++ pad (2 - length x) []
two_filled x a h =
    be_bytes_2 (pad 2 x) (from_be_bytes w16 x) (length-pad 2 x) (λ i. byte_in (pad 2 x) i (are_bytes-pad 2 x a)) (omega (arith, get_or-pad 2 x 0 (omega arith), get_or-pad 2 x 1 (omega arith)))
    ∙ pad-split 2 x (omega arith)

pub len16_begun : (i : ℕ) (x : List ℕ) → are_bytes x ≡ true → length x < 2 → IsBegun len16_format i x
len16_begun i x a h = record {
  is_length = record { from = omega arith; to = omega (arith, byte_in x 0 a, byte_in x 1 a) };
  more = pad (2 - length x) [];
  goes_on = two_filled x a h;
  some = omega (arith, length-pad (2 - length x) []);
  short = omega arith;
}

are_two : (n : ℕ) → are_bytes (to_be_bytes w16 n) ≡ true
are_two n = both _ _ (is_below (n / 256 % 256) 256 (omega arith)) (both _ _ (is_below (n % 256) 256 (omega arith)) refl)

pub len16_heads : (i : ℕ) → HasHeads len16_format i
len16_heads i = record {
  some = λ n h. omega arith;
  told_is = λ n y h. let k = h.to in omega arith;
  width_is = λ n y h. refl;
  begun = λ n x z h e o. len16_begun i x (are_bytes-left x z (subst (λ (w : List ℕ). are_bytes w ≡ true) e (are_two n))) (omega (arith, o, ap length e, length-append x z));
  begins = len16_begun i [] refl (omega arith);
}

pub len16_lawful : IsLawfulFormat len16_format (number_behind 0)
len16_lawful = record { heads = len16_heads; bounded = λ i n h. let k = h.to in omega arith; one = omega arith; nothing = λ i. refl }
