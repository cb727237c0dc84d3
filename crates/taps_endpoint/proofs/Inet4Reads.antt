-- The machine for IPv4 addresses reads their grammar.
use Rattle.std.proofs.Common.{◌≡◌, ◌≤◌, ℕ, ◌-◌, ◌==◌, List, [], ◌∷◌, ◌++◌, Option, Some, None, true, false, refl, ap, ◌∙◌, inl, inr, arith, lit≤}
use Rattle.std.specs.Option.{option_and_then, option_map, IfSome}
use Rattle.std.specs.Fmt.{decimal}
use Rattle.std.proofs.lemmas.Option.{cond_some}
use Rattle.std.proofs.lemmas.Bool.{cases_Bool}
use Rattle.std.proofs.lemmas.Bool.Decides.{nat_tests}
use Rattle.std.proofs.lemmas.List.{append-nil}
use Rattle.taps_base.proofs.Results.{map_some}
use Rattle.taps_endpoint.specs.declared.inet4.Inet4State.{Inet4State}
use Rattle.taps_endpoint.specs.declared.inet4.Before.{Before}
use Rattle.taps_endpoint.specs.declared.inet4.Before.TheVariants.{Zero, One, Two, Three}
use Rattle.taps_endpoint.specs.Machines.{Reads, run, Accepts}
use Rattle.taps_endpoint.specs.Numbers.{is_digit, with_digit}
use Rattle.taps_endpoint.specs.Inet4Machine.{passed, begun, fresh, step_inet4, octets_of, at_end_inet4, Fits, AreOctets}
use Rattle.taps_endpoint.proofs.NumberRuns.{IsRange, Holds, number_runs, number_and, grows}
use Rattle.taps_endpoint.specs.Inet4Texts.{dotted, IsInet4Text}
use Rattle.taps_endpoint.proofs.MachineRuns.{run_on, run_first}

-- Each text of the grammar runs to acceptance.

pub range : IsRange 0 255
range = record { low = lit≤ tt; some = lit≤ tt; high = lit≤ tt }

holds : (before : Before) → Holds step_inet4 0 255 (λ m. record { before = before; number = m })
unfolding step_inet4
holds before = record { digit = λ m n b digit e. rw (digit, e) refl }

pub number_on : (before : Before) (n : ℕ) (y : List ℕ) → n ≤ 255 → run step_inet4 (fresh before) (decimal n ++ y) ≡ run step_inet4 (begun before n) y
number_on before n y le = number_runs step_inet4 0 255 (λ m. record { before = before; number = m }) range (holds before) n (omega arith) y (omega arith) le

dotted_runs : (a b c d : ℕ) → a ≤ 255 → b ≤ 255 → c ≤ 255 → d ≤ 255 → run step_inet4 (fresh Zero) (dotted a b c d) ≡ Some (begun (Three a b c) d)
unfolding step_inet4
dotted_runs a b c d ha hb hc hd =
    let whole : run step_inet4 (fresh (Three a b c)) (decimal d) ≡ Some (begun (Three a b c) d) = rw (← append-nil (decimal d)) (number_on (Three a b c) d [] hd) in
    number_on Zero a _ ha ∙ (number_on (One a) b _ hb ∙ (number_on (Two a b) c _ hc ∙ whole))

accepts : (octets text : List ℕ) → IsInet4Text octets text → Accepts step_inet4 at_end_inet4 (fresh Zero) text octets
unfolding at_end_inet4
accepts octets text is = (begun (Three is.a is.b is.c) is.d, rw is.spelled (dotted_runs is.a is.b is.c is.d is.a_fits is.b_fits is.c_fits is.d_fits), rw is.are refl)

-- What was read and is still to come, as one text.

abbrev pub upto : Before → List ℕ → List ℕ
upto Zero y = y
upto (One a) y = decimal a ++ 46 ∷ y
upto (Two a b) y = decimal a ++ 46 ∷ (decimal b ++ 46 ∷ y)
upto (Three a b c) y = decimal a ++ 46 ∷ (decimal b ++ 46 ∷ (decimal c ++ 46 ∷ y))

abbrev pub whole : Inet4State → List ℕ → List ℕ
whole s y = upto s.before (number_and s.number y)

-- a step keeps the text and the ranges
record Kept (s t : Inet4State) (b : ℕ) : Type 0 where
  pub small : AreOctets t
  pub same : (y : List ℕ) → whole s (b ∷ y) ≡ whole t y

-- a number is whole
record Passes (before : Before) (n b : ℕ) (after : Before) : Type 0 where
  pub fits : Fits after
  pub same : (y : List ℕ) → upto before (decimal n ++ b ∷ y) ≡ upto after y

passes : (before : Before) (n b : ℕ) (after : Before) → Fits before → n ≤ 255 → passed before n b ≡ Some after → Passes before n b after
passes Zero n b after fits high e =
    let (test, is) = cond_some (b == 46) (One n) after e in
    let dot : b ≡ 46 = grind (arith, nat_tests) in
    rw (← is, dot) (record { fits = high; same = λ y. refl })
passes (One x) n b after fits high e =
    let (test, is) = cond_some (b == 46) (Two x n) after e in
    let dot : b ≡ 46 = grind (arith, nat_tests) in
    rw (← is, dot) (record { fits = (fits, high); same = λ y. refl })
passes (Two x y) n b after fits high e =
    let (test, is) = cond_some (b == 46) (Three x y n) after e in
    let dot : b ≡ 46 = grind (arith, nat_tests) in
    rw (← is, dot) (record { fits = (fits.0, fits.1, high); same = λ y. refl })
passes (Three x y z) n b after fits high e = absurd (cc)

zero_least : (number : Option ℕ) → IfSome number (λ n. 0 ≤ n)
zero_least None = tt
zero_least (Some n) = omega arith

kept_digit : (s t : Inet4State) (b : ℕ) → AreOctets s → is_digit b ≡ true → option_map (begun s.before) (with_digit 0 255 s.number (b - 48)) ≡ Some t → Kept s t b
kept_digit s t b small digit e =
    let (n, found, is) = map_some (begun s.before) (with_digit 0 255 s.number (b - 48)) t e in
    let more = grows 0 255 s.number b n range digit (zero_least s.number) found in
    rw (← is) (record {
      small = record { before = small.before; number = more.high };
      same = λ y. ap (upto s.before) (more.same y);
    })

kept_pass : (before : Before) (number : Option ℕ) (t : Inet4State) (b : ℕ) → Fits before → IfSome number (λ m. m ≤ 255) → option_and_then (λ n. option_map fresh (passed before n b)) number ≡ Some t → Kept (record { before = before; number = number }) t b
kept_pass before None t b fits high e = absurd (cc)
kept_pass before (Some n) t b fits high e =
    let (after, found, is) = map_some fresh (passed before n b) t e in
    let more = passes before n b after fits high found in
    rw (← is) (record { small = record { before = more.fits; number = tt }; same = more.same })

kept : (s t : Inet4State) (b : ℕ) → AreOctets s → step_inet4 s b ≡ Some t → Kept s t b
unfolding step_inet4
kept s t b small e = elim (cases_Bool (is_digit b)) [
  | inl digit ↦ kept_digit s t b small digit (rw digit at e)
  | inr other ↦ kept_pass s.before s.number t b small.before small.number (rw other at e)
]

-- what ran is the text of the state
kept_all : (s t : Inet4State) (x : List ℕ) → AreOctets s → run step_inet4 s x ≡ Some t → (whole s x ≡ whole t []) × AreOctets t
kept_all s t [] small e = let one : s ≡ t = cc in rw (← one) (refl, small)
kept_all s t (b ∷ x) small e =
    let (u, first, rest) = run_first step_inet4 s t b x e in
    let now = kept s u b small first in
    let (same, fits) = kept_all u t x now.small rest in
    (now.same x ∙ same, fits)

small_start : AreOctets (fresh Zero)
small_start = record { before = tt; number = tt }

pub read_so : (t : Inet4State) (x : List ℕ) → run step_inet4 (fresh Zero) x ≡ Some t → (x ≡ whole t []) × AreOctets t
read_so t x e = kept_all (fresh Zero) t x small_start e

is_text : (before : Before) (number : Option ℕ) (octets x : List ℕ) → x ≡ whole (record { before = before; number = number }) [] → AreOctets (record { before = before; number = number })
    → option_and_then (octets_of before) number ≡ Some octets → IsInet4Text octets x
is_text before None octets x same small e = absurd (cc)
is_text Zero (Some n) octets x same small e = absurd (cc)
is_text (One a) (Some n) octets x same small e = absurd (cc)
is_text (Two a b) (Some n) octets x same small e = absurd (cc)
is_text (Three a b c) (Some d) octets x same small e = record {
  a = a;
  b = b;
  c = c;
  d = d;
  are = cc;
  a_fits = small.before.0;
  b_fits = small.before.1;
  c_fits = small.before.2;
  d_fits = small.number;
  spelled = rw (same, append-nil (decimal d)) refl;
}

sound : (octets text : List ℕ) → Accepts step_inet4 at_end_inet4 (fresh Zero) text octets → IsInet4Text octets text
unfolding at_end_inet4
sound octets text (s, runs, is) = let (same, small) = read_so s text runs in is_text s.before s.number octets text same small is

-- Each state that is reached can be completed.

abbrev Ends : Inet4State → Type 0
Ends s = (octets : List ℕ) × (rest : List ℕ) × Accepts step_inet4 at_end_inet4 s rest octets

ends : (before : Before) (number : Option ℕ) → Ends (record { before = before; number = number })
unfolding step_inet4 at_end_inet4
ends (Three a b c) (Some n) = (_, [], (_, refl, refl))
ends (Three a b c) None = (_, 49 ∷ [], (_, refl, refl))
ends (Two a b) (Some n) = (_, 46 ∷ 49 ∷ [], (_, refl, refl))
ends (Two a b) None = (_, 49 ∷ 46 ∷ 49 ∷ [], (_, refl, refl))
ends (One a) (Some n) = (_, 46 ∷ 49 ∷ 46 ∷ 49 ∷ [], (_, refl, refl))
ends (One a) None = (_, 49 ∷ 46 ∷ 49 ∷ 46 ∷ 49 ∷ [], (_, refl, refl))
ends Zero (Some n) = (_, 46 ∷ 49 ∷ 46 ∷ 49 ∷ 46 ∷ 49 ∷ [], (_, refl, refl))
ends Zero None = (_, 49 ∷ 46 ∷ 49 ∷ 46 ∷ 49 ∷ 46 ∷ 49 ∷ [], (_, refl, refl))

-- no IPv4 text goes on with a byte that is neither a digit nor a `.`
pub stops_inet4 : (before : Before) (number : Option ℕ) (b : ℕ) → is_digit b ≡ false → (b == 46) ≡ false → step_inet4 (record { before = before; number = number }) b ≡ None
unfolding step_inet4
stops_inet4 before None b digit dot = rw digit refl
stops_inet4 Zero (Some n) b digit dot = rw (digit, dot) refl
stops_inet4 (One a) (Some n) b digit dot = rw (digit, dot) refl
stops_inet4 (Two a b) (Some n) x digit dot = rw (digit, dot) refl
stops_inet4 (Three a b c) (Some n) x digit dot = rw digit refl

pub reads_inet4 : Reads IsInet4Text step_inet4 at_end_inet4 (fresh Zero)
reads_inet4 = record {
  accepts = accepts;
  sound = sound;
  completes = λ x s runs.
      let (address, rest, all) = ends s.before s.number in
      (address, rest, (all.0, run_on step_inet4 (fresh Zero) s x rest runs ∙ all.1, all.2));
}
