-- Heads of a length in decimal and one byte.
use Rattle.std.proofs.Common.{◌≡◌, ℕ, ◌+◌, ◌-◌, ◌*◌, ◌<◌, ◌≤◌, true, false, max, List, [], ◌∷◌, ◌++◌, length, get_or, take, refl, ap, sym, ◌∙◌, subst, arith, length-append, append_assoc, length-take}
use Rattle.std.proofs.lemmas.List.{take_more, take_all}
use Rattle.std.specs.Char.{is_ascii_digit}
use Rattle.std.specs.Str.Parse.{digits_value}
use Rattle.std.specs.Fmt.{decimal}
use Rattle.std.proofs.lemmas.Fmt.{decimal_nonempty}
use Rattle.taps_framer.proofs.Prefixes.{append-cancel}
use Rattle.taps_frames.specs.Formats.{IsLength, IsBegun, HasNoHead}
use Rattle.taps_framer.specs.Prefixes.{are_bytes}
use Rattle.taps_framer.proofs.Bytes.{are_bytes-take}
use Rattle.taps_frames.specs.Heads.{IsWholeHead, IsBadHead, IsOneHead}
use Rattle.taps_frames.specs.Scans.{HasHeads, IsHeadPart}
use Rattle.taps_frames.specs.Decimals.{leading_digits, told_size, decimal_format, written_number, IsStarted}
use Rattle.taps_frames.proofs.Decimals.{leads_none, leads_to, leads_all, leads_through, written, started_none, started_of, started_whole, started_more, not_started}

told_is : (least : ℕ) (x ds : List ℕ) (v : ℕ) → leading_digits x ≡ ds → digits_value 10 ds ≡ v → told_size least x ≡ max least v
unfolding told_size
told_is least x ds v l e = ap (λ (w : List ℕ). max least (digits_value 10 w)) l ∙ ap (λ (n : ℕ). max least n) e

-- a list that begins one that is cut in two begins the first part, or has it and the byte behind it
cut_last : (a x z : List ℕ) (c : ℕ) → a ++ c ∷ [] ≡ x ++ z → 0 < length z → (t : List ℕ) × (a ≡ x ++ t)
cut_last a [] z c e o = (a, refl)
cut_last [] (p ∷ x) z c e o = absurd (omega (arith, ap length e, length-append x z))
cut_last (q ∷ a) (p ∷ x) z c e o =
    let h : q ≡ p = cc in
    let i : a ++ c ∷ [] ≡ x ++ z = cc in
    let w = cut_last a x z c i o in
    (w.0, ap (λ (v : ℕ). v ∷ a) h ∙ ap (λ (v : List ℕ). p ∷ v) w.1)

module _ (name : List ℕ) (least separator : ℕ) (tail : List ℕ) (few : least ≤ 1) (plain : is_ascii_digit separator ≡ false) (i : ℕ) where
  from_length : (n : ℕ) → IsLength (decimal_format name least separator tail) n → IsStarted least (decimal n) n
  from_length n l = started_whole least n few l.from l.to

  nonempty : (n : ℕ) → n ≤ 65535 → 0 < length (decimal n)
  nonempty n h = decimal_nonempty n (omega arith)

  -- nothing yet
  begun_none : IsBegun (decimal_format name least separator tail) i []
  begun_none =
      let t : told_size least [] ≡ least = told_is least [] [] 0 leads_none refl ∙ omega arith in
      record {
        is_length = record { from = omega (arith, t); to = omega (arith, t) };
        more = decimal (told_size least []) ++ separator ∷ [];
        goes_on = refl;
        some = omega (arith, length-append (decimal (told_size least [])) (separator ∷ []));
        short = omega arith;
      }

  -- the first digits
  pub begun_digits : (ds : List ℕ) (v : ℕ) → IsStarted least ds v → IsBegun (decimal_format name least separator tail) i ds
  begun_digits [] v s = begun_none
  begun_digits (d ∷ ds) v s =
      let x : List ℕ = d ∷ ds in
      let l : leading_digits x ≡ x = leads_all x s.digits in
      let g : least ≤ v = s.large (omega arith) in
      let m : v ≤ 65535 = s.small in
      let t : told_size least x ≡ v = told_is least x x v l s.value ∙ omega (arith, g) in
      record {
        is_length = record { from = omega (arith, t, g); to = omega (arith, t, m) };
        more = separator ∷ [];
        goes_on = ap (λ (n : ℕ). decimal n ++ separator ∷ []) t ∙ ap (λ (w : List ℕ). w ++ separator ∷ []) (written least x v s (omega arith));
        some = omega arith;
        short = omega (arith, ap length l);
      }

  begun_of : (n : ℕ) (x z : List ℕ) → IsLength (decimal_format name least separator tail) n → decimal n ++ separator ∷ [] ≡ x ++ z → 0 < length z →
      IsBegun (decimal_format name least separator tail) i x
  begun_of n [] z l e o = begun_none
  begun_of n (p ∷ x) z l e o =
      let w = cut_last (decimal n) (p ∷ x) z separator e o in
      begun_digits (p ∷ x) _ (started_of least n (p ∷ x) w.0 few l.from l.to w.1 (omega arith))

  leads_head : (n : ℕ) (y : List ℕ) → IsLength (decimal_format name least separator tail) n →
      leading_digits ((decimal n ++ separator ∷ []) ++ y) ≡ decimal n
  leads_head n y l = ap leading_digits (append_assoc (decimal n) (separator ∷ []) y) ∙ leads_to (decimal n) separator y (from_length n l).digits plain

  pub decimal_heads : HasHeads (decimal_format name least separator tail) i
  decimal_heads = record {
    some = λ n l. omega (arith, length-append (decimal n) (separator ∷ []));
    told_is = λ n y l. let f = l.from in told_is least ((decimal n ++ separator ∷ []) ++ y) (decimal n) n (leads_head n y l) (from_length n l).value ∙ omega (arith, f);
    width_is = λ n y l. ap (λ (w : List ℕ). length w + 1) (leads_head n y l) ∙ sym (length-append (decimal n) (separator ∷ []));
    begun = begun_of;
    begins = begun_none;
  }

  -- part of a head is digits that start a length
  begun_started : (x : List ℕ) → IsBegun (decimal_format name least separator tail) i x → IsStarted least x (digits_value 10 x)
  begun_started [] g = started_none least
  begun_started (p ∷ x) g =
      let w = cut_last (decimal (told_size least (p ∷ x))) (p ∷ x) g.more separator g.goes_on g.some in
      started_of least (told_size least (p ∷ x)) (p ∷ x) w.0 few g.is_length.from g.is_length.to w.1 (omega arith)

  -- the whole head
  whole_digits : (x : List ℕ) (v : ℕ) → IsStarted least x v → 0 < length x →
      IsOneHead (decimal_format name least separator tail) i (x ++ separator ∷ []) v
  whole_digits x v s o = record {
    within = omega arith;
    is_length = record { from = s.large o; to = s.small };
    split = take_all (length (x ++ separator ∷ [])) (x ++ separator ∷ []) (omega arith) ∙ ap (λ (w : List ℕ). w ++ separator ∷ []) (sym (written least x v s o));
  }

  -- a byte that is no digit, and not the one behind the digits
  no_glyph : (ds : List ℕ) (v c : ℕ) → IsStarted least ds v → is_ascii_digit c ≡ false → (c ≡ separator → length ds ≡ 0) →
      HasNoHead (decimal_format name least separator tail) i (ds ++ c ∷ [])
  no_glyph ds v c s k none n y z l e =
      let a : ds ++ c ∷ y ≡ (decimal n ++ separator ∷ []) ++ z = sym (append_assoc ds (c ∷ []) y) ∙ e in
      let d : ds ≡ decimal n = sym (leads_to ds c y s.digits k) ∙ ap leading_digits a ∙ leads_head n z l in
      let f : ds ++ c ∷ y ≡ ds ++ separator ∷ z = a ∙ append_assoc (decimal n) (separator ∷ []) z ∙ ap (λ (w : List ℕ). w ++ separator ∷ z) (sym d) in
      let g : c ∷ y ≡ separator ∷ z = append-cancel ds (c ∷ y) (separator ∷ z) f in
      let j : c ≡ separator = ap (λ (w : List ℕ). get_or w 0 0) g in
      let o = nonempty n l.to in
      omega (arith, none j, o, ap length d)

  -- a digit with which the digits are not the first ones of a length
  no_digit : (ds : List ℕ) (v c : ℕ) → IsStarted least ds v → is_ascii_digit c ≡ true → ((w : ℕ) → IsStarted least (ds ++ c ∷ []) w → ⊥) →
      HasNoHead (decimal_format name least separator tail) i (ds ++ c ∷ [])
  no_digit ds v c s k none n y z l e =
      let a : ds ++ c ∷ y ≡ (decimal n ++ separator ∷ []) ++ z = sym (append_assoc ds (c ∷ []) y) ∙ e in
      let d : decimal n ≡ (ds ++ c ∷ []) ++ leading_digits y = sym (leads_head n z l) ∙ ap leading_digits (sym a) ∙ leads_through ds c y s.digits k in
      none _ (started_of least n (ds ++ c ∷ []) (leading_digits y) few l.from l.to d (omega (arith, length-append ds (c ∷ []))))

  -- part of a head, and the next byte
  module _ (count value c : ℕ) (x : List ℕ) (p : IsHeadPart (decimal_format name least separator tail) written_number i count value x) where
    pub part_started : IsStarted least x value
    part_started = subst (λ (v : ℕ). IsStarted least x v) p.numbered (begun_started x p.begun)

    pub whole_with : c ≡ separator → 0 < count → IsOneHead (decimal_format name least separator tail) i (x ++ c ∷ []) value
    whole_with e o = let k = p.counted in
        subst (λ (v : ℕ). IsOneHead (decimal_format name least separator tail) i (x ++ v ∷ []) value) (sym e) (whole_digits x value part_started (omega (arith, k, o)))

    pub none_with : is_ascii_digit c ≡ false → (c ≡ separator → count ≡ 0) → HasNoHead (decimal_format name least separator tail) i (x ++ c ∷ [])
    none_with k none = let l = p.counted in no_glyph x value c part_started k (λ e. omega (arith, l, none e))

    pub bad_with : is_ascii_digit c ≡ true → ((value ≡ 0 → count ≡ 0) × (least ≤ value * 10 + (c - 48)) × (value * 10 + (c - 48) ≤ 65535) → ⊥) →
        HasNoHead (decimal_format name least separator tail) i (x ++ c ∷ [])
    bad_with k none = let l = p.counted in no_digit x value c part_started k (λ w t.
        let r = not_started least x value c w part_started k t in
        none (λ z. omega (arith, l, r.0 z), r.1, r.2))

    pub digit_with : is_ascii_digit c ≡ true → (value ≡ 0 → count ≡ 0) → least ≤ value * 10 + (c - 48) → value * 10 + (c - 48) ≤ 65535 →
        IsBegun (decimal_format name least separator tail) i (x ++ c ∷ []) × (written_number i (x ++ c ∷ []) ≡ value * 10 + (c - 48))
    digit_with k o h m =
        let l = p.counted in
        let s : IsStarted least (x ++ c ∷ []) (value * 10 + (c - 48)) = started_more least x value c part_started k (λ z. omega (arith, l, o z)) h m in
        (begun_digits (x ++ c ∷ []) (value * 10 + (c - 48)) s, s.value)

  pub more_started : (x : List ℕ) (p v : ℕ) → p < length x →
      IsBegun (decimal_format name least separator tail) i (take p x ++ get_or x p 0 ∷ []) × (written_number i (take p x ++ get_or x p 0 ∷ []) ≡ v) →
      IsStarted least (take (p + 1) x) v
  more_started x p v h g = subst (λ (w : List ℕ). IsStarted least w v) (sym (take_more x p 0 h))
      (subst (λ (u : ℕ). IsStarted least (take p x ++ get_or x p 0 ∷ []) u) g.1 (begun_started (take p x ++ get_or x p 0 ∷ []) g.0))

  pub bad_at : (x : List ℕ) (p v : ℕ) → IsStarted least (take p x) v → p < length x →
      HasNoHead (decimal_format name least separator tail) i (take p x ++ get_or x p 0 ∷ []) →
      IsBadHead (decimal_format name least separator tail) i x p
  bad_at x p v s h none = record {
    inside = h;
    begun = begun_digits (take p x) v s;
    none = subst (λ (w : List ℕ). HasNoHead (decimal_format name least separator tail) i w) (sym (take_more x p 0 h)) none;
  }

  pub whole_at : (x : List ℕ) (p n : ℕ) → p < length x →
      IsOneHead (decimal_format name least separator tail) i (take p x ++ get_or x p 0 ∷ []) n →
      IsWholeHead (decimal_format name least separator tail) i x (p + 1) n
  whole_at x p n h one = record {
    within = omega arith;
    is_length = one.is_length;
    split = take_more x p 0 h ∙ sym (take_all (length (take p x ++ get_or x p 0 ∷ [])) (take p x ++ get_or x p 0 ∷ []) (omega arith)) ∙ one.split;
  }

  -- the digits that a loop has read are part of a head
  pub digits_part : (x : List ℕ) (p v : ℕ) → are_bytes x ≡ true → IsStarted least (take p x) v → p ≤ length x →
      IsHeadPart (decimal_format name least separator tail) written_number i p v (take p x)
  digits_part x p v a s h = record {
    begun = begun_digits (take p x) v s;
    counted = omega (arith, h, length-take p x);
    numbered = s.value;
    bytes = are_bytes-take p x a;
  }
