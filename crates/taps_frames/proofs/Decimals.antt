-- The first digits of a length in decimal.
use Rattle.std.proofs.Common.{◌≡◌, append_assoc, ℕ, zero, suc, ◌+◌, ◌-◌, ◌*◌, ◌<◌, ◌≤◌, true, false, List, [], ◌∷◌, ◌++◌, length, get_or, refl, ap, sym, ◌∙◌, subst, arith, length-append}
use Rattle.std.specs.Char.{is_ascii_digit, digit_value}
use Rattle.std.specs.Str.{all_ascii_digits}
use Rattle.std.specs.Str.Parse.{digits_value, digits_value_after}
use Rattle.std.specs.Fmt.{decimal}
use Rattle.std.proofs.lemmas.Bool.Decides.{nat_tests}
use Rattle.std.proofs.lemmas.List.Sums.{take_while-cons}
use Rattle.std.proofs.lemmas.Int.Digits.{digits_value_push}
use Rattle.std.proofs.lemmas.Str.{digit_value_digit}
use Rattle.std.proofs.lemmas.Str.Parse.{IsNumeralModel, numerals_by_value, tells_all_ascii_digits}
use Rattle.std.proofs.lemmas.Fmt.{digits_decimal, digits_value-decimal, decimal-digits_value, decimal_nonempty, first_decimal, decimal_digit}
use Rattle.taps_framer.proofs.Bytes.{both, and-left, and-right}
use Rattle.taps_framer.proofs.Prefixes.{append-nil}
use Rattle.taps_frames.specs.Decimals.{leading_digits, IsStarted}

own : IsNumeralModel (λ ds. all_ascii_digits ds ≡ true) (digits_value 10)
own = numerals_by_value (λ ds. all_ascii_digits ds ≡ true) tells_all_ascii_digits

-- the digits that bytes begin with
leads_on : (c : ℕ) (x : List ℕ) → is_ascii_digit c ≡ true → leading_digits (c ∷ x) ≡ c ∷ leading_digits x
unfolding leading_digits
leads_on c x h = take_while-cons is_ascii_digit c x ∙ rw h refl

leads_not : (c : ℕ) (x : List ℕ) → is_ascii_digit c ≡ false → leading_digits (c ∷ x) ≡ []
unfolding leading_digits
leads_not c x h = take_while-cons is_ascii_digit c x ∙ rw h refl

pub leads_none : leading_digits [] ≡ []
unfolding leading_digits
leads_none = refl

pub leads : (ds y : List ℕ) → all_ascii_digits ds ≡ true → leading_digits (ds ++ y) ≡ ds ++ leading_digits y
leads [] y h = refl
leads (d ∷ ds) y h = leads_on d (ds ++ y) (and-left _ (all_ascii_digits ds) h) ∙ ap (λ (v : List ℕ). d ∷ v) (leads ds y (and-right (is_ascii_digit d) _ h))

pub leads_to : (ds : List ℕ) (c : ℕ) (y : List ℕ) → all_ascii_digits ds ≡ true → is_ascii_digit c ≡ false → leading_digits (ds ++ c ∷ y) ≡ ds
leads_to ds c y h k = leads ds (c ∷ y) h ∙ ap (λ (v : List ℕ). ds ++ v) (leads_not c y k) ∙ append-nil ds

pub leads_all : (ds : List ℕ) → all_ascii_digits ds ≡ true → leading_digits ds ≡ ds
leads_all ds h = ap leading_digits (sym (append-nil ds)) ∙ leads ds [] h ∙ ap (λ (v : List ℕ). ds ++ v) leads_none ∙ append-nil ds

pub leads_through : (ds : List ℕ) (c : ℕ) (y : List ℕ) → all_ascii_digits ds ≡ true → is_ascii_digit c ≡ true →
    leading_digits (ds ++ c ∷ y) ≡ (ds ++ c ∷ []) ++ leading_digits y
leads_through ds c y h k = leads ds (c ∷ y) h ∙ ap (λ (v : List ℕ). ds ++ v) (leads_on c y k) ∙ sym (append_assoc ds (c ∷ []) (leading_digits y))

-- a digit's value
in_range : (c : ℕ) → is_ascii_digit c ≡ true → (48 ≤ c) × (c ≤ 57)
in_range c h = (grind (arith, nat_tests), grind (arith, nat_tests))

pub digit_is : (c : ℕ) → is_ascii_digit c ≡ true → digit_value c ≡ c - 48
digit_is c h = omega (arith, digit_value_digit c (in_range c h))

digits_left : (ds es : List ℕ) → all_ascii_digits (ds ++ es) ≡ true → all_ascii_digits ds ≡ true
digits_left [] es h = refl
digits_left (c ∷ ds) es h = both _ _ (and-left _ _ h) (digits_left ds es (and-right (is_ascii_digit c) _ h))

digits_join : (ds : List ℕ) (c : ℕ) → all_ascii_digits ds ≡ true → is_ascii_digit c ≡ true → all_ascii_digits (ds ++ c ∷ []) ≡ true
digits_join [] c h k = both _ _ k refl
digits_join (d ∷ ds) c h k = both _ _ (and-left _ _ h) (digits_join ds c (and-right (is_ascii_digit d) _ h) k)

-- more digits never write less
value_grows : (n : ℕ) (es : List ℕ) → n ≤ digits_value_after 10 n es
value_grows n [] = omega arith
value_grows n (e ∷ es) = omega (arith, value_grows (n * 10 + digit_value e) es)

value_more : (n : ℕ) (ds es : List ℕ) → digits_value_after 10 n ds ≤ digits_value_after 10 n (ds ++ es)
value_more n [] es = value_grows n es
value_more n (d ∷ ds) es = value_more (n * 10 + digit_value d) ds es

pub written : (least : ℕ) (ds : List ℕ) (v : ℕ) → IsStarted least ds v → 0 < length ds → decimal v ≡ ds
written least ds v s h =
    let k = s.small in
    let e : decimal (digits_value 10 ds) ≡ ds = decimal-digits_value own ds s.digits h s.plain (omega (arith, k, s.value)) in
    subst (λ (w : ℕ). decimal w ≡ ds) s.value e

first_of_front : (ds es : List ℕ) → 0 < length ds → get_or (ds ++ es) 0 0 ≡ get_or ds 0 0
first_of_front [] es h = absurd (omega arith)
first_of_front (c ∷ ds) es h = refl

-- the first of more digits than one is no zero
first_is : (n : ℕ) (ds es : List ℕ) → n ≤ 65535 → decimal n ≡ ds ++ es → 0 < length ds → get_or ds 0 0 ≡ 48 → (length ds ≡ 1) × (n ≡ 0)
first_is zero ds es h e k z = (omega (arith, k, ap length (sym (decimal_digit 0 (omega arith)) ∙ e) ∙ length-append ds es), refl)
first_is (suc n) ds es h e k z =
    let f : 48 < get_or (decimal (suc n)) 0 0 = first_decimal (suc n) (omega arith) (omega arith) in
    let g : get_or (decimal (suc n)) 0 0 ≡ get_or ds 0 0 = ap (λ (v : List ℕ). get_or v 0 0) e ∙ first_of_front ds es k in
    absurd (omega (arith, f, g, z))

-- the first digits of a length are one
started : (n : ℕ) (ds es : List ℕ) → n ≤ 65535 → decimal n ≡ ds ++ es → 0 < length ds → IsStarted 0 ds (digits_value 10 ds)
started n ds es h e k =
    let a : all_ascii_digits (ds ++ es) ≡ true = subst (λ (v : List ℕ). all_ascii_digits v ≡ true) e (digits_decimal own n (omega arith)) in
    let b : digits_value 10 (ds ++ es) ≡ n = subst (λ (v : List ℕ). digits_value 10 v ≡ n) e (digits_value-decimal own n (omega arith)) in
    record {
      digits = digits_left ds es a;
      value = refl;
      plain = λ z. (first_is n ds es h e k z).0;
      large = λ _. omega arith;
      small = omega (arith, h, b, value_more 0 ds es);
    }

from_least : (least n : ℕ) (ds es : List ℕ) (v : ℕ) → least ≤ 1 → least ≤ n → n ≤ 65535 → decimal n ≡ ds ++ es → 0 < length ds → IsStarted 0 ds v →
    least ≤ v
from_least least n ds es zero few l h e k s =
    let z : get_or ds 0 0 ≡ 48 = ap (λ (w : List ℕ). get_or w 0 0) (sym (written 0 ds 0 s k) ∙ decimal_digit 0 (omega arith)) in
    omega (arith, l, (first_is n ds es h e k z).1)
from_least least n ds es (suc v) few l h e k s = omega arith

pub started_of : (least n : ℕ) (ds es : List ℕ) → least ≤ 1 → least ≤ n → n ≤ 65535 → decimal n ≡ ds ++ es → 0 < length ds →
    IsStarted least ds (digits_value 10 ds)
started_of least n ds es few l h e k =
    let s : IsStarted 0 ds (digits_value 10 ds) = started n ds es h e k in
    record {
      digits = s.digits;
      value = s.value;
      plain = s.plain;
      large = λ _. from_least least n ds es (digits_value 10 ds) few l h e k s;
      small = s.small;
    }

-- a length is the whole of its digits
pub started_whole : (least n : ℕ) → least ≤ 1 → least ≤ n → n ≤ 65535 → IsStarted least (decimal n) n
started_whole least n few l h =
    let v : digits_value 10 (decimal n) ≡ n = digits_value-decimal own n (omega arith) in
    subst (λ (w : ℕ). IsStarted least (decimal n) w) v (started_of least n (decimal n) [] few l h (sym (append-nil (decimal n))) (decimal_nonempty n (omega arith)))

pub started_none : (least : ℕ) → IsStarted least [] 0
started_none least = record { digits = refl; value = refl; plain = λ z. cc z; large = λ h. absurd (omega arith); small = omega arith }

value_push : (ds : List ℕ) (c v : ℕ) → digits_value 10 ds ≡ v → is_ascii_digit c ≡ true → digits_value 10 (ds ++ c ∷ []) ≡ v * 10 + (c - 48)
value_push ds c v e h = digits_value_push 10 ds c ∙ ap (λ (w : ℕ). w * 10 + digit_value c) e ∙ ap (λ (w : ℕ). v * 10 + w) (digit_is c h)

-- a zero stands alone
plain_more : (ds : List ℕ) (v c : ℕ) → IsStarted 0 ds v → (v ≡ 0 → length ds ≡ 0) → get_or (ds ++ c ∷ []) 0 0 ≡ 48 → length (ds ++ c ∷ []) ≡ 1
plain_more [] v c s o z = refl
plain_more (d ∷ []) v c s o z = absurd (let e : v ≡ 0 = sym s.value ∙ ap (λ (w : ℕ). 0 + digit_value w) z in omega (arith, o e))
plain_more (d ∷ q ∷ ds) v c s o z = absurd (omega (arith, s.plain z))

-- one digit more
pub started_more : (least : ℕ) (ds : List ℕ) (v c : ℕ) → IsStarted least ds v → is_ascii_digit c ≡ true → (v ≡ 0 → length ds ≡ 0) →
    least ≤ v * 10 + (c - 48) → v * 10 + (c - 48) ≤ 65535 →
    IsStarted least (ds ++ c ∷ []) (v * 10 + (c - 48))
started_more least ds v c s k o l h = record {
  digits = digits_join ds c s.digits k;
  value = value_push ds c v s.value k;
  plain = plain_more ds v c (record { digits = s.digits; value = s.value; plain = s.plain; large = λ _. omega arith; small = s.small }) o;
  large = λ _. l;
  small = h;
}

-- what digits behind a zero, or of too small or too large a number, are not
pub not_started : (least : ℕ) (ds : List ℕ) (v c w : ℕ) → IsStarted least ds v → is_ascii_digit c ≡ true → IsStarted least (ds ++ c ∷ []) w →
    (v ≡ 0 → length ds ≡ 0) × (least ≤ v * 10 + (c - 48)) × (v * 10 + (c - 48) ≤ 65535)
not_started least ds v c w s k t =
    let e : v * 10 + (c - 48) ≡ w = sym (value_push ds c v s.value k) ∙ t.value in
    let l : least ≤ w = t.large (omega (arith, length-append ds (c ∷ []))) in
    let m : w ≤ 65535 = t.small in
    (λ z. alone ds v s z t, omega (arith, e, l), omega (arith, e, m))
  where
    alone : (ds : List ℕ) (v : ℕ) → IsStarted least ds v → v ≡ 0 → IsStarted least (ds ++ c ∷ []) w → length ds ≡ 0
    alone [] v s z t = refl
    alone (d ∷ ds) v s z t =
        let f : 48 ∷ [] ≡ d ∷ ds =
        sym (decimal_digit 0 (omega arith)) ∙ subst (λ (u : ℕ). decimal u ≡ d ∷ ds) z (written least (d ∷ ds) v s (omega arith)) in
        let g : d ≡ 48 = cc in
        absurd (omega (arith, t.plain g, length-append ds (c ∷ [])))
