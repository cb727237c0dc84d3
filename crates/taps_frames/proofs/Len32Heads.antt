-- The heads of len32.
use Rattle.std.proofs.Common.{◌≡◌, ℕ, ◌+◌, ◌-◌, ◌*◌, ◌<◌, ◌≤◌, true, List, [], ◌++◌, length, take, refl, ap, sym, ◌∙◌, subst, arith, length-append, length-take, inl, inr}
use Rattle.std.specs.Int.{w32, to_be_bytes, from_be_bytes}
use Rattle.std.proofs.lemmas.List.{take_all}
use Rattle.std.proofs.lemmas.Bool.{cases_lt}
use Rattle.std.proofs.lemmas.Nat.{from_be_bytes-to_be_bytes_4}
use Rattle.taps_framer.specs.Prefixes.{are_bytes}
use Rattle.taps_framer.proofs.Bytes.{are_bytes-left, are_bytes-take}
use Rattle.taps_frames.specs.Bodies.{pad}
use Rattle.taps_frames.specs.Formats.{IsBegun, HasNoHead}
use Rattle.taps_frames.specs.Heads.{IsBadHead}
use Rattle.taps_frames.specs.Len32.{len32_format}
use Rattle.taps_frames.proofs.BodyLemmas.{length-pad, byte_in}
use Rattle.taps_frames.specs.Scans.{HasHeads, IsLawfulFormat, number_behind}
use Rattle.taps_frames.proofs.FourBytes.{four_filled, are_four, told_grows, first_1, first_2, first_3, first_4}

pub len32_begun : (i : ℕ) (x : List ℕ) → are_bytes x ≡ true → length x < 4 → from_be_bytes w32 x ≤ 1048576 → IsBegun len32_format i x
len32_begun i x a h k = record {
  is_length = record { from = omega arith; to = k };
  more = pad (4 - length x) [];
  goes_on = four_filled x a (omega arith);
  some = omega (arith, length-pad (4 - length x) []);
  short = omega arith;
}

told_is : (n : ℕ) (y : List ℕ) → n ≤ 1048576 → from_be_bytes w32 (to_be_bytes w32 n ++ y) ≡ n
told_is n y h = from_be_bytes-to_be_bytes_4 n (omega arith)

no_head : (i : ℕ) (x : List ℕ) → 1048576 < from_be_bytes w32 x → HasNoHead len32_format i x
no_head i x h n y z l e =
    let k = l.to in
    omega (arith, k, told_grows x y, ap (λ (w : List ℕ). from_be_bytes w32 w) e ∙ told_is n z k)

-- a place with whose byte the number passes the limit is inside
inside : (x : List ℕ) (p : ℕ) → from_be_bytes w32 (take p x) ≤ 1048576 → 1048576 < from_be_bytes w32 (take (p + 1) x) → p < length x
inside x p k m = elim (cases_lt p (length x)) [
  | inl h ↦ h
  | inr h ↦ absurd (omega (arith, k, m, ap (λ (w : List ℕ). from_be_bytes w32 w) (take_all p x h), ap (λ (w : List ℕ). from_be_bytes w32 w) (take_all (p + 1) x (omega arith))))
]

passes_at : (i : ℕ) (x : List ℕ) (p : ℕ) → are_bytes x ≡ true → p < 4 → from_be_bytes w32 (take p x) ≤ 1048576 →
    1048576 < from_be_bytes w32 (take (p + 1) x) → IsBadHead len32_format i x p
passes_at i x p a s k m = record {
  inside = inside x p k m;
  begun = len32_begun i (take p x) (are_bytes-take p x a) (omega (arith, length-take p x)) k;
  none = no_head i (take (p + 1) x) m;
}

module _ (i : ℕ) (x : List ℕ) (v : ℕ) (a : are_bytes x ≡ true) (e : v ≡ from_be_bytes w32 x) (large : 1048576 < v) where
  pub passes_at_1 : v < 16777216 → 17 * 65536 ≤ v → IsBadHead len32_format i x 1
  passes_at_1 h k = passes_at i x 1 a (omega arith)
      (omega (arith, e, h, first_1 x)) (omega (arith, e, k, first_2 x, byte_in x 2 a, byte_in x 3 a))

  pub passes_at_2 : v < 17 * 65536 → 4097 * 256 ≤ v → IsBadHead len32_format i x 2
  passes_at_2 h k = passes_at i x 2 a (omega arith)
      (omega (arith, e, h, first_2 x)) (omega (arith, e, k, first_3 x, byte_in x 3 a))

  pub passes_at_3 : v < 4097 * 256 → IsBadHead len32_format i x 3
  passes_at_3 h = passes_at i x 3 a (omega arith)
      (omega (arith, e, h, first_3 x)) (omega (arith, e, large, first_4 x))

pub len32_heads : (i : ℕ) → HasHeads len32_format i
len32_heads i = record {
  some = λ n h. omega arith;
  told_is = λ n y h. told_is n y h.to;
  width_is = λ n y h. refl;
  begun = λ n x z h e o.
      let l : length x < 4 = omega (arith, o, ap length e, length-append x z) in
      let k = h.to in
      len32_begun i x (are_bytes-left x z (subst (λ (w : List ℕ). are_bytes w ≡ true) e (are_four n))) l
      (omega (arith, k, told_grows x z, ap (λ (w : List ℕ). from_be_bytes w32 w) (sym e), told_is n [] k));
  begins = len32_begun i [] refl (omega arith) (omega arith);
}

pub len32_lawful : IsLawfulFormat len32_format (number_behind 0)
len32_lawful = record { heads = len32_heads; bounded = λ i n h. let k = h.to in omega arith; one = omega arith; nothing = λ i. refl }
