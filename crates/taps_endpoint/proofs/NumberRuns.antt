-- A machine that reads numbers runs over the text of a number to it, and what it has read is that text.
use Rattle.std.proofs.Common.{◌≡◌, ◌<◌, ◌≤◌, ℕ, ◌+◌, ◌-◌, ◌*◌, ◌/◌, ◌%◌, ◌^◌, List, [], ◌∷◌, ◌++◌, Option, Some, None, true, ◌&&◌, nat_le, refl, ap, ◌∙◌, arith, append_assoc}
use Rattle.std.specs.Option.{IfSome}
use Rattle.std.specs.Fmt.{decimal}
use Rattle.std.proofs.lemmas.Option.{cond_some}
use Rattle.std.proofs.lemmas.Bool.Decides.{nat_tests}
use Rattle.std.proofs.lemmas.Fmt.{decimal_step, decimal_digit, decimal_by_steps}
use Rattle.std.proofs.lemmas.List.{append-nil}
use Rattle.taps_endpoint.specs.Machines.{run}
use Rattle.taps_endpoint.specs.Numbers.{is_digit, with_digit}

pub record IsRange (least most : ℕ) : Type 0 where
  pub low : least ≤ 1
  pub some : 9 ≤ most
  pub high : most ≤ 65535

-- a machine whose states hold a number that is read
pub record Holds {S : Type 0} (step : S → ℕ → Option S) (least most : ℕ) (hold : Option ℕ → S) : Type 0 where
  pub digit : (m : Option ℕ) (n b : ℕ) → is_digit b ≡ true → with_digit least most m (b - 48) ≡ Some n → step (hold m) b ≡ Some (hold (Some n))

first_digit : (least most n : ℕ) → n < 10 → least ≤ n → with_digit least most None ((48 + n) - 48) ≡ Some n
first_digit least most n small le =
    let value : (48 + n) - 48 ≡ n = omega arith in
    let fits : nat_le least n ≡ true = grind (arith, nat_tests) in
    rw (value, fits) refl

next_digit : (least most n : ℕ) → 10 ≤ n → n ≤ most → with_digit least most (Some (n / 10)) ((48 + n % 10) - 48) ≡ Some n
next_digit least most n large le =
    let value : 10 * (n / 10) + ((48 + n % 10) - 48) ≡ n = omega arith in
    let fits : (nat_le 1 (n / 10) && nat_le n most) ≡ true = grind (arith, nat_tests) in
    rw (value, fits) refl

pub number_runs : {S : Type 0} (step : S → ℕ → Option S) (least most : ℕ) (hold : Option ℕ → S) → IsRange least most → Holds step least most hold → (n : ℕ) → n < 2 ^ 64 → (y : List ℕ) → least ≤ n → n ≤ most
    → run step (hold None) (decimal n ++ y) ≡ run step (hold (Some n)) y
number_runs step least most hold range holds = decimal_by_steps (λ n ds. (y : List ℕ) → least ≤ n → n ≤ most → run step (hold None) (ds ++ y) ≡ run step (hold (Some n)) y)
    (λ n small y low high. rw (holds.digit None n (48 + n) (grind (arith, nat_tests)) (first_digit least most n small low)) refl)
    (λ n ds large ih y low high.
    rw (append_assoc, ih ((48 + n % 10) ∷ y) (omega (arith, range.low)) (omega arith), holds.digit (Some (n / 10)) n (48 + n % 10) (grind (arith, nat_tests)) (next_digit least most n large high)) refl)

-- the same at the end of a text
pub number_runs_out : {S : Type 0} (step : S → ℕ → Option S) (least most : ℕ) (hold : Option ℕ → S) → IsRange least most → Holds step least most hold → (n : ℕ) → n < 2 ^ 64 → least ≤ n → n ≤ most
    → run step (hold None) (decimal n) ≡ Some (hold (Some n))
number_runs_out step least most hold range holds n fits low high = rw (← append-nil (decimal n)) (number_runs step least most hold range holds n fits [] low high)

-- the text of what was read of a number, and more
abbrev pub number_and : Option ℕ → List ℕ → List ℕ
number_and None y = y
number_and (Some n) y = decimal n ++ y

pub record Grows (least most : ℕ) (number : Option ℕ) (b n : ℕ) : Type 0 where
  pub low : least ≤ n
  pub high : n ≤ most
  pub same : (y : List ℕ) → number_and number (b ∷ y) ≡ decimal n ++ y

pub grows : (least most : ℕ) (number : Option ℕ) (b n : ℕ) → IsRange least most → is_digit b ≡ true → IfSome number (λ m. least ≤ m) → with_digit least most number (b - 48) ≡ Some n → Grows least most number b n
grows least most None b n range digit low e =
    let (test, is) = cond_some (nat_le least (b - 48)) (b - 48) n e in
    let text : decimal n ≡ b ∷ [] = rw (← is) (decimal_digit (b - 48) (grind (arith, nat_tests)) ∙ ap (λ (k : ℕ). k ∷ []) (let k : 48 + (b - 48) ≡ b = grind (arith, nat_tests) in k)) in
    record { low = grind (arith, nat_tests); high = grind (arith, nat_tests, range.some); same = λ y. rw text refl }
grows least most (Some m) b n range digit low e =
    let (test, is) = cond_some (nat_le 1 m && nat_le (10 * m + (b - 48)) most) (10 * m + (b - 48)) n e in
    let front : n / 10 ≡ m = grind (arith, nat_tests) in
    let last : 48 + n % 10 ≡ b = grind (arith, nat_tests) in
    let high : n ≤ most = grind (arith, nat_tests) in
    let text : decimal n ≡ decimal m ++ b ∷ [] = rw (decimal_step n (grind (arith, nat_tests)) (omega (arith, range.high)), front, last) refl in
    record { low = grind (arith, nat_tests); high = high; same = λ y. rw (text, append_assoc) refl }
