-- Where a head of varint goes wrong, and where it is whole.
use Rattle.std.proofs.Common.{◌≡◌, ℕ, ◌+◌, ◌-◌, ◌*◌, ◌<◌, ◌≤◌, true, List, [], ◌∷◌, ◌++◌, length, get_or, take, refl, ap, sym, ◌∙◌, subst, arith, length-take, get_or-take, inl, inr}
use Rattle.std.specs.Int.{w16, w32, to_be_bytes, from_be_bytes}
use Rattle.std.proofs.lemmas.List.{take_all, get_or_append_left}
use Rattle.std.proofs.lemmas.Bool.{cases_lt}
use Rattle.std.proofs.lemmas.Nat.{be_bytes_2, from_be_bytes-to_be_bytes_2, from_be_bytes-to_be_bytes_4}
use Rattle.taps_framer.specs.Prefixes.{are_bytes}
use Rattle.taps_framer.proofs.Bytes.{are_bytes-take}
use Rattle.taps_frames.specs.Formats.{IsBegun, HasNoHead}
use Rattle.taps_frames.specs.Heads.{IsWholeHead, IsBadHead}
use Rattle.taps_frames.specs.Varint.{varint_format, shortest}
use Rattle.taps_frames.proofs.BodyLemmas.{byte_in}
use Rattle.taps_frames.proofs.FourBytes.{four_whole, told_grows, first_1, first_2, first_3, first_4}
use Rattle.taps_frames.proofs.VarintForms.{one, two, four, form, short_one, short_two, short_four}
use Rattle.taps_frames.proofs.VarintHeads.{begun_none, begun_two, begun_four}

-- the first byte of bytes that go on as a number in its shortest form
first_of : (t y z : List ℕ) (n : ℕ) → 0 < length t → t ++ y ≡ shortest n ++ z → get_or t 0 0 ≡ get_or (shortest n ++ z) 0 0
first_of t y z n o e = sym (get_or_append_left t y 0 0 o) ∙ ap (λ (w : List ℕ). get_or w 0 0) e

no_first : (i : ℕ) (t : List ℕ) → 0 < length t → 128 < get_or t 0 0 → HasNoHead varint_format i t
no_first i t o h n y z l e =
    let m = l.to in
    elim (form n) [
      | one k f ↦ omega (arith, h, first_of t y z n o e ∙ ap (λ (w : List ℕ). get_or (w ++ z) 0 0) f)
      | two k j f ↦ omega (arith, h, first_of t y z n o e ∙ ap (λ (w : List ℕ). get_or (w ++ z) 0 0) f)
      | four k f ↦ omega (arith, h, m, first_of t y z n o e ∙ ap (λ (w : List ℕ). get_or (w ++ z) 0 0) f)
    ]

no_two : (i : ℕ) (t : List ℕ) → 2 ≤ length t → 64 ≤ get_or t 0 0 → get_or t 0 0 < 128 → from_be_bytes w16 t < 16384 + 64 → HasNoHead varint_format i t
no_two i t o h k s n y z l e =
    let m = l.to in
    elim (form n) [
      | one j f ↦ omega (arith, h, first_of t y z n (omega arith) e ∙ ap (λ (w : List ℕ). get_or (w ++ z) 0 0) f)
      | two j q f ↦ omega (arith, s, get_or_append_left t y 0 0 (omega arith), get_or_append_left t y 0 1 (omega arith), ap (λ (w : List ℕ). from_be_bytes w16 w) (e ∙ ap (λ (w : List ℕ). w ++ z) f), from_be_bytes-to_be_bytes_2 (16384 + n) (omega arith))
      | four j f ↦ omega (arith, k, m, first_of t y z n (omega arith) e ∙ ap (λ (w : List ℕ). get_or (w ++ z) 0 0) f)
    ]

-- four bytes that begin so are those of this number
told_four : (t y z : List ℕ) (n : ℕ) → n ≤ 1048576 → t ++ y ≡ to_be_bytes w32 (2147483648 + n) ++ z → from_be_bytes w32 (t ++ y) ≡ 2147483648 + n
told_four t y z n h e = ap (λ (w : List ℕ). from_be_bytes w32 w) e ∙ from_be_bytes-to_be_bytes_4 (2147483648 + n) (omega arith)

no_large : (i : ℕ) (t : List ℕ) → are_bytes t ≡ true → 0 < length t → 2147483648 + 1048576 < from_be_bytes w32 t → HasNoHead varint_format i t
no_large i t a o h n y z l e =
    let m = l.to in
    let b = byte_in t 1 a in let c = byte_in t 2 a in let d = byte_in t 3 a in
    elim (form n) [
      | one k f ↦ omega (arith, h, b, c, d, first_of t y z n o e ∙ ap (λ (w : List ℕ). get_or (w ++ z) 0 0) f)
      | two k j f ↦ omega (arith, h, b, c, d, first_of t y z n o e ∙ ap (λ (w : List ℕ). get_or (w ++ z) 0 0) f)
      | four k f ↦ omega (arith, h, m, told_grows t y, told_four t y z n m (e ∙ ap (λ (w : List ℕ). w ++ z) f))
    ]

no_small : (i : ℕ) (t : List ℕ) → 3 ≤ length t → 128 ≤ get_or t 0 0 →
    16777216 * get_or t 0 0 + 65536 * get_or t 1 0 + 256 * get_or t 2 0 + 255 < 2147483648 + 16384 → HasNoHead varint_format i t
no_small i t o h s n y z l e =
    let m = l.to in
    elim (form n) [
      | one k f ↦ omega (arith, h, first_of t y z n (omega arith) e ∙ ap (λ (w : List ℕ). get_or (w ++ z) 0 0) f)
      | two k j f ↦ omega (arith, h, first_of t y z n (omega arith) e ∙ ap (λ (w : List ℕ). get_or (w ++ z) 0 0) f)
      | four k f ↦ (let g = e ∙ ap (λ (w : List ℕ). w ++ z) f in
          omega (arith, s, k, get_or_append_left t y 0 0 (omega arith), get_or_append_left t y 0 1 (omega arith), get_or_append_left t y 0 2 (omega arith), ap (λ (w : List ℕ). get_or w 3 0) g, told_four t y z n m g))
    ]

pub begun_empty : (i : ℕ) (x : List ℕ) → length x < 1 → IsBegun varint_format i x
begun_empty i [] h = begun_none i
begun_empty i (p ∷ x) h = absurd (omega arith)

take_first : (x : List ℕ) → 1 ≤ length x → take 1 x ≡ get_or x 0 0 ∷ []
take_first [] h = absurd (omega arith)
take_first (p ∷ x) h = refl

module _ (i : ℕ) (x : List ℕ) (a : are_bytes x ≡ true) (some : 1 ≤ length x) where
  pub bad_first : 128 < get_or x 0 0 → IsBadHead varint_format i x 0
  bad_first h = record {
    inside = omega arith;
    begun = begun_none i;
    none = no_first i (take 1 x) (omega (arith, length-take 1 x)) (omega (arith, h, get_or-take 1 x 0 0 (omega arith)));
  }

  one_is : 64 ≤ get_or x 0 0 → get_or x 0 0 < 128 → IsBegun varint_format i (take 1 x)
  one_is h k = subst (λ (w : List ℕ). IsBegun varint_format i w) (sym (take_first x some)) (begun_two i (get_or x 0 0) h k)

  pub begun_one : length x ≤ 1 → 64 ≤ get_or x 0 0 → get_or x 0 0 < 128 → IsBegun varint_format i x
  begun_one l h k = subst (λ (w : List ℕ). IsBegun varint_format i w) (take_all 1 x l) (one_is h k)

  pub bad_second : 2 ≤ length x → 64 ≤ get_or x 0 0 → get_or x 0 0 < 128 → from_be_bytes w16 x < 16384 + 64 → IsBadHead varint_format i x 1
  bad_second l h k s =
      let p = get_or-take 2 x 0 0 (omega arith) in
      let q = get_or-take 2 x 1 0 (omega arith) in
      record {
        inside = omega arith;
        begun = one_is h k;
        none = no_two i (take 2 x) (omega (arith, length-take 2 x)) (omega (arith, h, p)) (omega (arith, k, p)) (omega (arith, s, p, q));
      }

  -- a place at which a number of four bytes passes the limit
  passes_at : (p : ℕ) → 1 ≤ p → p < 4 → p < length x → 2147483648 ≤ from_be_bytes w32 (take p x) →
      from_be_bytes w32 (take p x) ≤ 2147483648 + 1048576 → (3 ≤ p → 2147483648 + 16384 ≤ from_be_bytes w32 (take p x)) →
      2147483648 + 1048576 < from_be_bytes w32 (take (p + 1) x) → IsBadHead varint_format i x p
  passes_at p o f h low high third large = record {
    inside = h;
    begun = begun_four i (take p x) (from_be_bytes w32 (take p x) - 2147483648) (are_bytes-take p x a) (omega (arith, length-take p x)) (omega (arith, length-take p x)) (omega (arith, low))
        (λ t. let u : 3 ≤ p = omega (arith, length-take p x) in omega (arith, third u)) (omega (arith, high));
    none = no_large i (take (p + 1) x) (are_bytes-take (p + 1) x a) (omega (arith, length-take (p + 1) x)) large;
  }

  -- beyond its end there is none
  shorter : (p : ℕ) → length x ≤ p → from_be_bytes w32 (take p x) ≡ from_be_bytes w32 (take (p + 1) x)
  shorter p h = ap (λ (w : List ℕ). from_be_bytes w32 w) (take_all p x h ∙ sym (take_all (p + 1) x (omega arith)))

  module _ (s : ℕ) (e : 2147483648 + s ≡ from_be_bytes w32 x) (first : s < 16777216) (large : 1048576 < s) where
    is_128 : get_or x 0 0 ≡ 128
    is_128 = omega (arith, e, byte_in x 1 a, byte_in x 2 a, byte_in x 3 a)

    pub passes_at_1 : 17 * 65536 ≤ s → IsBadHead varint_format i x 1
    passes_at_1 h =
        let n : 2147483648 + 1048576 < from_be_bytes w32 (take 2 x) = omega (arith, e, h, first_2 x, byte_in x 2 a, byte_in x 3 a) in
        let m : from_be_bytes w32 (take 1 x) ≡ 2147483648 = omega (arith, first_1 x, is_128) in
        elim (cases_lt 1 (length x)) [
          | inl l ↦ passes_at 1 (omega arith) (omega arith) l (omega (arith, m)) (omega (arith, m)) (λ t. absurd (omega arith)) n
          | inr l ↦ absurd (omega (arith, n, m, shorter 1 l))
        ]

    pub passes_at_2 : s < 17 * 65536 → 4097 * 256 ≤ s → IsBadHead varint_format i x 2
    passes_at_2 k h =
        let n : 2147483648 + 1048576 < from_be_bytes w32 (take 3 x) = omega (arith, e, h, first_3 x, byte_in x 3 a) in
        let m : from_be_bytes w32 (take 2 x) ≤ 2147483648 + 1048576 = omega (arith, e, k, first_2 x) in
        elim (cases_lt 2 (length x)) [
          | inl l ↦ passes_at 2 (omega arith) (omega arith) l (omega (arith, first_2 x, is_128)) m (λ t. absurd (omega arith)) n
          | inr l ↦ absurd (omega (arith, n, m, shorter 2 l))
        ]

    pub passes_at_3 : s < 4097 * 256 → IsBadHead varint_format i x 3
    passes_at_3 k =
        let n : 2147483648 + 1048576 < from_be_bytes w32 (take 4 x) = omega (arith, e, large, first_4 x) in
        let m : from_be_bytes w32 (take 3 x) ≤ 2147483648 + 1048576 = omega (arith, e, k, first_3 x) in
        elim (cases_lt 3 (length x)) [
          | inl l ↦ passes_at 3 (omega arith) (omega arith) l (omega (arith, first_3 x, is_128)) m (λ t. omega (arith, e, large, first_3 x, byte_in x 3 a)) n
          | inr l ↦ absurd (omega (arith, n, m, shorter 3 l))
        ]

  -- the third byte of a number below the least
  pub bad_third : (s : ℕ) → 2147483648 + s ≡ from_be_bytes w32 x → s < 16384 → 3 ≤ length x → IsBadHead varint_format i x 2
  bad_third s e h l =
      let p = get_or-take 3 x 0 0 (omega arith) in
      let q = get_or-take 3 x 1 0 (omega arith) in
      let r = get_or-take 3 x 2 0 (omega arith) in
      let k : get_or x 0 0 ≡ 128 = omega (arith, e, byte_in x 1 a, byte_in x 2 a, byte_in x 3 a) in
      let m : from_be_bytes w32 (take 2 x) ≡ 16777216 * get_or x 0 0 + 65536 * get_or x 1 0 = first_2 x in
      record {
        inside = omega arith;
        begun = begun_four i (take 2 x) (from_be_bytes w32 (take 2 x) - 2147483648) (are_bytes-take 2 x a) (omega (arith, length-take 2 x)) (omega (arith, length-take 2 x)) (omega (arith, m, k))
            (λ t. absurd (omega (arith, length-take 2 x))) (omega (arith, m, k, e, h));
        none = no_small i (take 3 x) (omega (arith, length-take 3 x)) (omega (arith, k, p)) (omega (arith, p, q, r, k, e, h));
      }

  -- the whole heads
  pub whole_one : get_or x 0 0 < 64 → IsWholeHead varint_format i x 1 (get_or x 0 0)
  whole_one h = record {
    within = omega arith;
    is_length = record { from = omega arith; to = omega arith };
    split = take_first x some ∙ sym (short_one (get_or x 0 0) h);
  }

  pub whole_two : (n : ℕ) → 2 ≤ length x → 16384 + n ≡ from_be_bytes w16 x → 64 ≤ n → n < 16384 → IsWholeHead varint_format i x 2 n
  whole_two n l e h k = record {
    within = l;
    is_length = record { from = omega arith; to = omega arith };
    split = sym (short_two n h k ∙ be_bytes_2 (take 2 x) (16384 + n) (omega (arith, length-take 2 x)) (λ j. byte_in (take 2 x) j (are_bytes-take 2 x a))
        (omega (arith, e, get_or-take 2 x 0 0 (omega arith), get_or-take 2 x 1 0 (omega arith))));
  }

  pub whole_four : (n : ℕ) → 4 ≤ length x → 2147483648 + n ≡ from_be_bytes w32 x → 16384 ≤ n → n ≤ 1048576 → IsWholeHead varint_format i x 4 n
  whole_four n l e h k = record {
    within = l;
    is_length = record { from = omega arith; to = k };
    split = four_whole x a l ∙ sym (short_four n h ∙ ap (λ (v : ℕ). to_be_bytes w32 v) e);
  }
