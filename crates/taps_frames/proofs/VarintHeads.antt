-- The heads of varint.
use Rattle.std.proofs.Common.{◌≡◌, ℕ, ◌+◌, ◌-◌, ◌*◌, ◌/◌, ◌%◌, ◌<◌, ◌≤◌, true, max, List, [], ◌∷◌, ◌++◌, length, get_or, refl, ap, sym, ◌∙◌, subst, arith, length-append, inl, inr}
use Rattle.std.specs.Int.{w16, w32, to_be_bytes, from_be_bytes}
use Rattle.std.proofs.lemmas.Bool.{cases_lt}
use Rattle.std.proofs.lemmas.List.{get_or_append_left}
use Rattle.std.proofs.lemmas.Nat.{from_be_bytes-to_be_bytes_4}
use Rattle.taps_framer.specs.Prefixes.{are_bytes}
use Rattle.taps_framer.proofs.Bytes.{are_bytes-left}
use Rattle.taps_frames.specs.Bodies.{pad}
use Rattle.taps_frames.specs.Formats.{IsBegun}
use Rattle.taps_frames.specs.Varint.{varint_format, shortest, least_number, told_width}
use Rattle.taps_frames.proofs.BodyLemmas.{length-pad, byte_in}
use Rattle.taps_frames.specs.Scans.{HasHeads, IsLawfulFormat, number_behind}
use Rattle.taps_frames.proofs.FourBytes.{four_filled, told_grows}
use Rattle.taps_frames.proofs.VarintForms.{one, two, four, form, short_one, short_two, short_four, least_one, least_two, least_four, width_two, width_four, told_is, width_is, length-shortest, are_shortest}

begun_by : (i : ℕ) (x : List ℕ) (n : ℕ) (more : List ℕ) → least_number x ≡ n → n ≤ 1048576 → shortest n ≡ x ++ more → 0 < length more →
    length x ≤ told_width x → IsBegun varint_format i x
begun_by i x n more e h f s l = record {
  is_length = record { from = omega arith; to = omega (arith, e, h) };
  more = more;
  goes_on = ap (λ (v : ℕ). shortest v) e ∙ f;
  some = s;
  short = l;
}

pub begun_none : (i : ℕ) → IsBegun varint_format i []
begun_none i = begun_by i [] 0 (0 ∷ []) (least_one [] (omega arith)) (omega arith) (short_one 0 (omega arith)) (omega arith) (omega arith)

-- the first byte of two
pub begun_two : (i a : ℕ) → 64 ≤ a → a < 128 → IsBegun varint_format i (a ∷ [])
begun_two i a h k =
    let n : ℕ = max 64 (a * 256 + 0 - 16384) in
    let e : (16384 + n) / 256 % 256 ≡ a = omega arith in
    begun_by i (a ∷ []) n ((16384 + n) % 256 ∷ []) (least_two (a ∷ []) h k) (omega arith)
    (short_two n (omega arith) (omega arith) ∙ ap (λ (v : ℕ). v ∷ ((16384 + n) % 256) ∷ []) e) (omega arith) (omega (arith, width_two (a ∷ []) h k))

-- the first bytes of four, of a number above the least
begun_above : (i : ℕ) (x : List ℕ) (s : ℕ) → are_bytes x ≡ true → length x < 4 → 2147483648 + s ≡ from_be_bytes w32 x → 16384 ≤ s → s ≤ 1048576 →
    IsBegun varint_format i x
begun_above i x s a l e h k =
    let f : 128 ≤ get_or x 0 0 = omega (arith, e, byte_in x 1 a, byte_in x 2 a, byte_in x 3 a) in
    begun_by i x s (pad (4 - length x) []) (least_four x f ∙ omega (arith, e)) k
    (short_four s h ∙ ap (λ (v : ℕ). to_be_bytes w32 v) e ∙ four_filled x a (omega arith)) (omega (arith, length-pad (4 - length x) [])) (omega (arith, width_four x f))

-- and of the least number, before its third byte
begun_least : (i : ℕ) (x : List ℕ) (s : ℕ) → are_bytes x ≡ true → 1 ≤ length x → length x < 3 → 2147483648 + s ≡ from_be_bytes w32 x → s < 16384 →
    IsBegun varint_format i x
begun_least i [] s a o l e h = absurd (omega arith)
begun_least i (p ∷ []) s a o l e h =
    let f : 128 ≡ p = omega (arith, e) in
    subst (λ (v : ℕ). IsBegun varint_format i (v ∷ [])) f
    (begun_by i (128 ∷ []) 16384 (0 ∷ 64 ∷ 0 ∷ []) (least_four (128 ∷ []) (omega arith)) (omega arith) (short_four 16384 (omega arith)) (omega arith) (omega (arith, width_four (128 ∷ []) (omega arith))))
begun_least i (p ∷ q ∷ []) s a o l e h =
    let b = byte_in (p ∷ q ∷ []) 1 a in
    let f : 128 ≡ p = omega (arith, e, b) in
    let g : 0 ≡ q = omega (arith, e, b) in
    subst (λ (v : ℕ). IsBegun varint_format i (v ∷ q ∷ [])) f (subst (λ (v : ℕ). IsBegun varint_format i (128 ∷ v ∷ [])) g
    (begun_by i (128 ∷ 0 ∷ []) 16384 (64 ∷ 0 ∷ []) (least_four (128 ∷ 0 ∷ []) (omega arith)) (omega arith) (short_four 16384 (omega arith)) (omega arith) (omega (arith, width_four (128 ∷ 0 ∷ []) (omega arith)))))
begun_least i (p ∷ q ∷ r ∷ x) s a o l e h = absurd (omega arith)

pub begun_four : (i : ℕ) (x : List ℕ) (s : ℕ) → are_bytes x ≡ true → 1 ≤ length x → length x < 4 → 2147483648 + s ≡ from_be_bytes w32 x →
    (3 ≤ length x → 16384 ≤ s) → s ≤ 1048576 → IsBegun varint_format i x
begun_four i x s a o l e h k = elim (cases_lt s 16384) [
  | inl m ↦ elim (cases_lt (length x) 3) [
    | inl n ↦ begun_least i x s a o n e m
    | inr n ↦ absurd (omega (arith, h n))
  ]
  | inr m ↦ begun_above i x s a l e m k
]

-- the fourth byte adds less than 256
near : (x y : List ℕ) → are_bytes (x ++ y) ≡ true → 3 ≤ length x → from_be_bytes w32 (x ++ y) < from_be_bytes w32 x + 256
near x y a h = omega (arith, get_or_append_left x y 0 0 (omega arith), get_or_append_left x y 0 1 (omega arith), get_or_append_left x y 0 2 (omega arith), byte_in (x ++ y) 3 a)

beyond : (x : List ℕ) → length x ≤ 3 → get_or x 3 0 ≡ 0
beyond [] h = refl
beyond (p ∷ []) h = refl
beyond (p ∷ q ∷ []) h = refl
beyond (p ∷ q ∷ r ∷ []) h = refl
beyond (p ∷ q ∷ r ∷ s ∷ x) h = absurd (omega arith)

begun_of : (i n : ℕ) (x z : List ℕ) → n ≤ 1048576 → shortest n ≡ x ++ z → 0 < length z → IsBegun varint_format i x
begun_of i n [] z h e o = begun_none i
begun_of i n (p ∷ x) z h e o =
    let b : are_bytes ((p ∷ x) ++ z) ≡ true = subst (λ (w : List ℕ). are_bytes w ≡ true) e (are_shortest n) in
    elim (form n) [
      | one k f ↦ absurd (omega (arith, o, ap length (sym e ∙ f), length-append x z))
      | two k l f ↦ (let g : (p ∷ x) ++ z ≡ to_be_bytes w16 (16384 + n) = sym e ∙ f in
          let m : length x ≡ 0 = omega (arith, o, ap length g, length-append x z) in
          let q : p ≡ (16384 + n) / 256 % 256 = ap (λ (w : List ℕ). get_or w 0 0) g in
          subst (λ (w : List ℕ). IsBegun varint_format i (p ∷ w)) (sym (none x m)) (begun_two i p (omega arith) (omega arith)))
      | four k f ↦ (let g : (p ∷ x) ++ z ≡ to_be_bytes w32 (2147483648 + n) = sym e ∙ f in
          let v : from_be_bytes w32 ((p ∷ x) ++ z) ≡ 2147483648 + n =
          ap (λ (w : List ℕ). from_be_bytes w32 w) g ∙ from_be_bytes-to_be_bytes_4 (2147483648 + n) (omega arith) in
          let q : p ≡ (2147483648 + n) / 16777216 % 256 = ap (λ (w : List ℕ). get_or w 0 0) g in
          let s : ℕ = from_be_bytes w32 (p ∷ x) - 2147483648 in
          let c : 2147483648 + s ≡ from_be_bytes w32 (p ∷ x) = omega (arith, q) in
          let l : length (p ∷ x) < 4 = omega (arith, o, ap length g, length-append x z) in
          begun_four i (p ∷ x) s (are_bytes-left (p ∷ x) z b) (omega arith) l c
          (λ t. omega (arith, c, near (p ∷ x) z b t, v, k, beyond (p ∷ x) (omega arith), q))
          (omega (arith, c, v, told_grows (p ∷ x) z)))
    ]
  where
    none : (x : List ℕ) → length x ≡ 0 → x ≡ []
    none [] h = refl
    none (q ∷ x) h = absurd (omega arith)

pub varint_heads : (i : ℕ) → HasHeads varint_format i
varint_heads i = record {
  some = λ n h. (length-shortest n).0;
  told_is = λ n y h. told_is n y h.to;
  width_is = λ n y h. width_is n y h.to;
  begun = λ n x z h e o. begun_of i n x z h.to e o;
  begins = begun_none i;
}

pub varint_lawful : IsLawfulFormat varint_format (number_behind 0)
varint_lawful = record { heads = varint_heads; bounded = λ i n h. let k = h.to in let s = (length-shortest n).1 in omega (arith, k, s); one = omega arith; nothing = λ i. refl }
