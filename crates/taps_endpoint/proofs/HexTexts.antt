-- The hexadecimal text of a field is a text of it.
use Rattle.std.proofs.Common.{◌≡◌, ◌<◌, ◌≤◌, ℕ, zero, suc, ◌+◌, ◌-◌, ◌*◌, ◌/◌, ◌%◌, ◌==◌, ◌&&◌, List, [], ◌∷◌, length, Some, true, false, nat_le, nat_lt, refl, ◌∙◌, inl, inr, arith, lit≤}
use Rattle.std.specs.Fmt.{digits, digits_onto, digit_glyph}
use Rattle.std.proofs.lemmas.Bool.{cases_Bool}
use Rattle.std.proofs.lemmas.Bool.Decides.{nat_tests}
use Rattle.taps_endpoint.specs.Inet6Texts.{hex_digit, hex_from, IsField}

glyph_read : (d : ℕ) → d < 16 → hex_digit (digit_glyph false d) ≡ Some d
glyph_read d lt = elim (cases_Bool (nat_lt d 10)) [
  | inl small ↦
      let test : (nat_le 48 (48 + d) && nat_le (48 + d) 57) ≡ true = grind (arith, nat_tests) in
      let value : (48 + d) - 48 ≡ d = omega arith in
      rw (small, test, value) refl
  | inr large ↦
      let not_digit : (nat_le 48 (87 + d) && nat_le (87 + d) 57) ≡ false = grind (arith, nat_tests) in
      let not_upper : (nat_le 65 (87 + d) && nat_le (87 + d) 70) ≡ false = grind (arith, nat_tests) in
      let lower : (nat_le 97 (87 + d) && nat_le (87 + d) 102) ≡ true = grind (arith, nat_tests) in
      let value : (87 + d) - 87 ≡ d = omega arith in
      rw (large, not_digit, not_upper, lower, value) refl
]

-- the least number with more than this many digits
abbrev bound : ℕ → ℕ
bound zero = 1
bound (suc j) = 16 * bound j

record Reads (j n : ℕ) (acc text : List ℕ) : Type 0 where
  pub some : 1 + length acc ≤ length text
  pub most : length text ≤ j + length acc
  pub value : hex_from 0 text ≡ hex_from n acc

front_read : (v d : ℕ) (acc : List ℕ) → d < 16 → hex_from v (digit_glyph false d ∷ acc) ≡ hex_from (16 * v + d) acc
front_read v d acc lt = rw (glyph_read d lt) refl

last_digit : (j n : ℕ) (acc : List ℕ) → n / 16 ≡ 0 → Reads (suc j) n acc (digit_glyph false (n % 16) ∷ acc)
last_digit j n acc none =
    let small : n % 16 ≡ n = omega arith in
    rw small (record { some = omega arith; most = omega arith; value = front_read 0 n acc (omega arith) ∙ rw (let same : 16 * 0 + n ≡ n = omega arith in same) refl })

more_digits : (j n : ℕ) (acc text : List ℕ) → Reads (suc j) (n / 16) (digit_glyph false (n % 16) ∷ acc) text → Reads (suc (suc j)) n acc text
more_digits j n acc text more =
    let whole : 16 * (n / 16) + n % 16 ≡ n = omega arith in
    record { some = omega (arith, more.some); most = omega (arith, more.most); value = more.value ∙ (front_read (n / 16) (n % 16) acc (omega arith) ∙ rw whole refl) }

reads : (k j n : ℕ) (acc : List ℕ) → n < bound (suc j) → j ≤ k → Reads (suc j) n acc (digits_onto (suc k) 16 false n acc)
reads k zero n acc lt le = let none : n / 16 ≡ 0 = omega arith in rw none (last_digit zero n acc none)
reads zero (suc j) n acc lt le = absurd (omega arith)
reads (suc k) (suc j) n acc lt le = elim (cases_Bool (n / 16 == 0)) [
  | inl last ↦ rw last (last_digit (suc j) n acc (grind (arith, nat_tests)))
  | inr more ↦ rw more (more_digits j n acc (digits_onto (suc k) 16 false (n / 16) (digit_glyph false (n % 16) ∷ acc)) (reads k j (n / 16) (digit_glyph false (n % 16) ∷ acc) (omega arith) (omega arith)))
]

pub is_field : (n : ℕ) → n < 65536 → IsField n (digits 16 false n)
unfolding digits
is_field n lt =
    let all = reads 63 3 n [] lt (lit≤ tt) in
    record { some = all.some; most = all.most; number = all.value }
