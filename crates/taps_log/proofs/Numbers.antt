-- The number of a text in decimal is the one that is written so.
use Rattle.std.proofs.Common.{◌≡◌, ℕ, zero, suc, ◌+◌, ◌-◌, ◌*◌, ◌<◌, ◌≤◌, ◌^◌, Bool, true, false, not, ◌&&◌, List, [], ◌∷◌, length, get_or, refl, ap, sym, ◌∙◌, rules, arith, lit<, if◌then◌else◌}
use Rattle.std.specs.Prelude.{◌==◌, nat_le, Option, None, Some, IfSome}
use Rattle.std.specs.List.{list_all}
use Rattle.std.specs.Char.{is_ascii_digit}
use Rattle.std.specs.Fmt.{decimal}
use Rattle.std.specs.Cmp.Derive.{both_true}
use Rattle.std.proofs.lemmas.Bool.{eqb-true, eq-eqb, le-leb, leb-true}
use Rattle.std.proofs.lemmas.Bool.Decides.{nat_tests}
use Rattle.std.proofs.lemmas.Fmt.{digits_decimal, digits_value-decimal, decimal-digits_value, decimal_nonempty, first_decimal, decimal_digit}
use Rattle.std.proofs.lemmas.Str.Parse.{IsNumeralModel, numerals_by_fold}
use Rattle.taps_log.specs.Reading.{value_behind, has_leading_zero, is_decimal, up_to_greatest, last_number}

-- digits make a number no smaller
grows : (n : ℕ) (ds : List ℕ) → n ≤ value_behind n ds
grows n [] = omega arith
grows n (b ∷ ds) = let more = grows (10 * n + (b - 48)) ds in omega arith

pub passes : (n b v : ℕ) (ds : List ℕ) → value_behind n (b ∷ ds) ≡ v → 2 ^ 64 - 1 < 10 * n + (b - 48)
    → None ≡ up_to_greatest v
passes n b v ds e h = let more = grows (10 * n + (b - 48)) ds
    in let above : nat_le v (2 ^ 64 - 1) ≡ false = grind (arith, nat_tests) in rw above refl

pub both : (a b : Bool) → (a && b) ≡ true → (a ≡ true) × (b ≡ true)
both true b h = (refl, h)
both false b h = cc

own : IsNumeralModel (λ ds. list_all is_ascii_digit ds ≡ true) (value_behind 0)
own = numerals_by_fold _ (search rules) value_behind (search rules)

-- a text that is read is that of its number
some_length : (text : List ℕ) → not (length text == 0) ≡ true → 0 < length text
some_length [] h = cc
some_length (b ∷ text) h = omega arith

one_digit : (text : List ℕ) → not (has_leading_zero text) ≡ true → get_or text 0 0 ≡ 48 → length text ≡ 1
one_digit [] h e = absurd (omega arith)
one_digit (b ∷ []) h e = refl
one_digit (b ∷ d ∷ text) h e =
    let zero_first : (b == 48) ≡ true = eq-eqb b 48 e in
    let more : (suc (length text) == 0) ≡ false = grind (arith, nat_tests) in
    let none : not (true && not false) ≡ true = rw (zero_first, more) at h in
    cc

no_zero : (text : List ℕ) → (get_or text 0 0 ≡ 48 → length text ≡ 1) → has_leading_zero text ≡ false
no_zero [] h = refl
no_zero (b ∷ []) h = false_and (b == 48)
  where
    false_and : (q : Bool) → (q && false) ≡ false
    false_and true = refl
    false_and false = refl
no_zero (b ∷ d ∷ text) h = false_by (b == 48) refl
  where
    false_by : (q : Bool) → (b == 48) ≡ q → (q && not (suc (length text) == 0)) ≡ false
    false_by false e = refl
    false_by true e = (let one : suc (suc (length text)) ≡ 1 = h (eqb-true b 48 e) in absurd (omega arith))

no_zero_first : (n : ℕ) → n < 2 ^ 64 → get_or (decimal n) 0 0 ≡ 48 → length (decimal n) ≡ 1
no_zero_first zero h e = rw (decimal_digit 0 (lit< tt)) refl
no_zero_first (suc n) h e = let first = first_decimal (suc n) (omega arith) h in absurd (omega arith)

not_empty : (text : List ℕ) → 0 < length text → not (length text == 0) ≡ true
not_empty text h = let e : (length text == 0) ≡ false = grind (arith, nat_tests) in rw e refl

read_by : (q r : Bool) (v n : ℕ) → (if q then (if r then Some v else None) else None) ≡ Some n
    → (q ≡ true) × (r ≡ true) × (v ≡ n)
read_by true true v n e = (refl, refl, (let s : Some v ≡ Some n = e in cc))
read_by true false v n e = cc
read_by false r v n e = cc

pub number_written : (n : ℕ) (text : List ℕ) → last_number text ≡ Some n → text ≡ decimal n
unfolding last_number
number_written n text e =
    let r = read_by (is_decimal text) (nat_le (value_behind 0 text) (2 ^ 64 - 1)) (value_behind 0 text) n e in
    let p = both _ _ r.0 in
    let q = both _ _ p.0 in
    let high : value_behind 0 text ≤ 2 ^ 64 - 1 = leb-true _ _ r.1 in
    let back : decimal (value_behind 0 text) ≡ text = decimal-digits_value own text p.1 (some_length text q.0)
    (one_digit text q.1) (omega arith) in
    sym back ∙ ap decimal r.2

-- and the text of a number is read
pub number_read : (n : ℕ) → n < 2 ^ 64 → last_number (decimal n) ≡ Some n
unfolding last_number
number_read n small =
    let high : n ≤ 2 ^ 64 - 1 = omega arith in
    let digits = digits_decimal own n small in
    let value = digits_value-decimal own n small in
    let none = no_zero (decimal n) (no_zero_first n small) in
    let some : is_decimal (decimal n) ≡ true = both_true (both_true (not_empty (decimal n)
    (decimal_nonempty n small)) (rw none refl)) digits in
    rw (some, value, le-leb _ _ high) refl

-- the digits of a number, of which there is a first
pub record HasDigits (text : List ℕ) : Type 0 where
  pub first : ℕ
  pub rest : List ℕ
  pub is : text ≡ first ∷ rest
  pub digit : is_ascii_digit first ≡ true
  pub digits : list_all is_ascii_digit text ≡ true

has_digits : (text : List ℕ) → list_all is_ascii_digit text ≡ true → 0 < length text → HasDigits text
has_digits [] h some = absurd (omega arith)
has_digits (b ∷ text) h some = record {
  first = b;
  rest = text;
  is = refl;
  digit = (both (is_ascii_digit b) (list_all is_ascii_digit text) h).0;
  digits = h;
}

pub decimal_digits : (n : ℕ) → n < 2 ^ 64 → HasDigits (decimal n)
decimal_digits n small = has_digits (decimal n) (digits_decimal own n small) (decimal_nonempty n small)

pub number_found : (text : List ℕ) (r : Option ℕ) → r ≡ last_number text → IfSome r (λ n. text ≡ decimal n)
number_found text None e = tt
number_found text (Some n) e = number_written n text (sym e)
