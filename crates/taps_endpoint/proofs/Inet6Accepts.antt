-- Each text of an IPv6 address runs to acceptance, and no IPv4 text does.
use Rattle.std.proofs.Common.{◌≡◌, ◌<◌, ◌≤◌, ℕ, ◌+◌, ◌-◌, ◌*◌, ◌%◌, ◌^◌, ◌==◌, List, [], ◌∷◌, ◌++◌, length, Option, Some, None, Bool, true, false, cond, ◌&&◌, nat_le, nat_lt, refl, sym, ap, ◌∙◌, inl, inr, arith, append_assoc, lit<, length-append}
use Rattle.std.specs.Option.{option_and_then}
use Rattle.std.specs.Fmt.{decimal}
use Rattle.std.proofs.lemmas.Bool.{cases_Bool}
use Rattle.std.proofs.lemmas.Bool.Decides.{nat_tests}
use Rattle.std.proofs.lemmas.Fmt.{decimal_by_steps, length-decimal-le, decimal_nonempty}
use Rattle.std.proofs.lemmas.List.{append-nil}
use Rattle.taps_endpoint.specs.declared.inet6.Inet6State.{Inet6State}
use Rattle.taps_endpoint.specs.declared.inet6.Token.{Token}
use Rattle.taps_endpoint.specs.declared.inet6.Token.TheVariants.{Start, Gap, Colon, Digits, Quad}
use Rattle.taps_endpoint.specs.declared.inet4.Inet4State.{Inet4State}
use Rattle.taps_endpoint.specs.declared.inet4.Before.{Before}
use Rattle.taps_endpoint.specs.declared.inet4.Before.TheVariants.{Zero, One, Two, Three}
use Rattle.taps_endpoint.specs.Machines.{run, Accepts}
use Rattle.taps_endpoint.specs.Inet4Machine.{begun, fresh, step_inet4}
use Rattle.taps_endpoint.specs.Inet6Machine.{room, quad_fits, reading, begin, step_inet6, fields_of, at_end_inet6, start_inet6}
use Rattle.taps_endpoint.specs.Inet4Texts.{IsInet4Text}
use Rattle.taps_endpoint.specs.Inet6Texts.{hex_digit, hex_from, AreLed, IsLast, AreJoined, IsFront, IsBack, IsInet6Text}
use Rattle.taps_endpoint.proofs.MachineRuns.{then_some}
use Rattle.taps_endpoint.proofs.NumberRuns.{Holds as NumberHolds, number_runs}
use Rattle.taps_endpoint.proofs.Inet4Reads.{range, number_on}

-- Digits.

-- a digit is neither `:` nor `.`
record IsHex (b d : ℕ) : Type 0 where
  pub colon : (b == 58) ≡ false
  pub dot : (b == 46) ≡ false

is_hex : (b d : ℕ) → hex_digit b ≡ Some d → IsHex b d
is_hex b d e = elim (cases_Bool (b == 58)) [
  | inl yes_it ↦ let is : b ≡ 58 = grind (arith, nat_tests) in let h = rw is at e in absurd (cc)
  | inr not_colon ↦ elim (cases_Bool (b == 46)) [
    | inl yes_it ↦ let is : b ≡ 46 = grind (arith, nat_tests) in let h = rw is at e in absurd (cc)
    | inr not_dot ↦ record { colon = not_colon; dot = not_dot }
  ]
]

-- the IPv4 machine beside the field, over more bytes
abbrev beside : Option Inet4State → List ℕ → Option Inet4State
beside quad x = option_and_then (λ s. run step_inet4 s x) quad

beside_none : (quad : Option Inet4State) → beside quad [] ≡ quad
beside_none None = refl
beside_none (Some s) = refl

beside_more : (quad : Option Inet4State) (b : ℕ) (x : List ℕ) → beside (option_and_then (λ s. step_inet4 s b) quad) x ≡ beside quad (b ∷ x)
beside_more None b x = refl
beside_more (Some s) b x = refl

-- Each text of the grammar runs to acceptance.

-- a field's digits run to its number
abbrev InField : Option (List ℕ) → List ℕ → ℕ → Option Inet4State → Inet6State → List ℕ → List ℕ → Type 0
InField front fields value quad from x y = (count : ℕ) × (run step_inet6 from (x ++ y) ≡ run step_inet6 (reading front fields (Digits value count (beside quad x))) y)

one_digit : (front : Option (List ℕ)) (fields : List ℕ) (v count d b : ℕ) (quad : Option Inet4State) → count < 4 → hex_digit b ≡ Some d
    → step_inet6 (reading front fields (Digits v count quad)) b ≡ Some (reading front fields (Digits (16 * v + d) (count + 1) (option_and_then (λ s. step_inet4 s b) quad)))
unfolding step_inet6
one_digit front fields v count d b quad lt e =
    let hex = is_hex b d e in
    let fits : nat_lt count 4 ≡ true = grind (arith, nat_tests) in
    rw (hex.colon, hex.dot, fits, e) refl

digits_run : (front : Option (List ℕ)) (fields : List ℕ) (v w count : ℕ) (quad : Option Inet4State) (x y : List ℕ) → count + length x ≤ 4 → hex_from v x ≡ Some w
    → InField front fields w quad (reading front fields (Digits v count quad)) x y
digits_run front fields v w count quad [] y le e =
    let one : v ≡ w = cc in (count, rw (one, beside_none quad) refl)
digits_run front fields v w count quad (b ∷ x) y le e =
    let (d, digit, more) = then_some (λ d. hex_from (16 * v + d) x) (hex_digit b) w e in
    let (n, runs) = digits_run front fields (16 * v + d) w (count + 1) (option_and_then (λ s. step_inet4 s b) quad) x y (omega arith) more in
    (n, rw (one_digit front fields v count d b quad (omega arith) digit, ← beside_more quad b x) runs)

-- a field may begin here
record Ready (front : Option (List ℕ)) (fields : List ℕ) (token : Token) : Type 0 where
  pub begins : (b d : ℕ) → hex_digit b ≡ Some d → step_inet6 (reading front fields token) b ≡ begin front fields b

ready_start : (front : Option (List ℕ)) (fields : List ℕ) → Ready front fields Start
unfolding step_inet6
ready_start front fields = record { begins = λ b d e. rw (is_hex b d e).colon refl }

ready_colon : (front : Option (List ℕ)) (fields : List ℕ) → Ready front fields Colon
unfolding step_inet6
ready_colon front fields = record { begins = λ b d e. rw (is_hex b d e).colon refl }

ready_gap : (front : Option (List ℕ)) (fields : List ℕ) → length fields < room front → Ready front fields Gap
unfolding step_inet6
ready_gap front fields lt = record { begins = λ b d e. rw (let fits : nat_lt (length fields) (room front) ≡ true = grind (arith, nat_tests) in fits) refl }

-- the IPv4 machine over a field, where an IPv4 text may begin
abbrev started : Bool → List ℕ → Option Inet4State
started ok x = cond ok (run step_inet4 (fresh Zero) x) None

started_more : (ok : Bool) (b : ℕ) (x : List ℕ) → beside (cond ok (step_inet4 (fresh Zero) b) None) x ≡ started ok (b ∷ x)
started_more true b x = refl
started_more false b x = refl

first_digit : (front : Option (List ℕ)) (fields : List ℕ) (token : Token) (b d : ℕ) (y : List ℕ) → Ready front fields token → hex_digit b ≡ Some d
    → run step_inet6 (reading front fields token) (b ∷ y) ≡ run step_inet6 (reading front fields (Digits d 1 (cond (quad_fits front fields) (step_inet4 (fresh Zero) b) None))) y
first_digit front fields token b d y ready e = rw (ready.begins b d e, e) refl

field_runs : (front : Option (List ℕ)) (fields : List ℕ) (token : Token) (v : ℕ) (x y : List ℕ) → Ready front fields token → 1 ≤ length x → length x ≤ 4 → hex_from 0 x ≡ Some v
    → (count : ℕ) × (run step_inet6 (reading front fields token) (x ++ y) ≡ run step_inet6 (reading front fields (Digits v count (started (quad_fits front fields) x))) y)
field_runs front fields token v [] y ready some most e = absurd (omega arith)
field_runs front fields token v (b ∷ x) y ready some most e =
    let (d, digit, more) = then_some (λ d. hex_from (16 * 0 + d) x) (hex_digit b) v e in
    let whole : hex_from d x ≡ Some v = rw (let same : 16 * 0 + d ≡ d = omega arith in same) at more in
    let (n, runs) = digits_run front fields d v 1 (cond (quad_fits front fields) (step_inet4 (fresh Zero) b) None) x y (omega arith) whole in
    (n, first_digit front fields token b d (x ++ y) ready digit ∙ (runs ∙ rw (started_more (quad_fits front fields) b x) refl))

-- fields with a `:` behind each

abbrev after : Token → List ℕ → Token
after token [] = token
after token (v ∷ vs) = Colon

after_colon : (vs : List ℕ) → after Colon vs ≡ Colon
after_colon [] = refl
after_colon (v ∷ vs) = refl

colon_on : (front : Option (List ℕ)) (fields : List ℕ) (v count : ℕ) (quad : Option Inet4State) (y : List ℕ) → length fields + 1 < room front
    → run step_inet6 (reading front fields (Digits v count quad)) (58 ∷ y) ≡ run step_inet6 (reading front (fields ++ v ∷ []) Colon) y
unfolding step_inet6
colon_on front fields v count quad y lt = rw (let fits : nat_lt (length fields + 1) (room front) ≡ true = grind (arith, nat_tests) in fits) refl

led_runs : (front : Option (List ℕ)) (fields : List ℕ) (token : Token) (vs led y : List ℕ) → Ready front fields token → length fields + length vs < room front → AreLed vs led
    → run step_inet6 (reading front fields token) (led ++ y) ≡ run step_inet6 (reading front (fields ++ vs) (after token vs)) y
led_runs front fields token [] led y ready lt is = rw (is, append-nil fields) refl
led_runs front fields token (v ∷ vs) led y ready lt (x, rest, field, spelled, more) =
    let (n, runs) = field_runs front fields token v x (58 ∷ (rest ++ y)) ready field.some field.most field.number in
    let on = led_runs front (fields ++ v ∷ []) Colon vs rest y (ready_colon front (fields ++ v ∷ [])) (simp length-append (omega arith)) more in
    let text : led ++ y ≡ x ++ 58 ∷ (rest ++ y) = rw spelled (append_assoc x (58 ∷ rest) y) in
    let here : run step_inet6 (reading front fields (Digits v n (started (quad_fits front fields) x))) (58 ∷ (rest ++ y)) ≡ run step_inet6 (reading front (fields ++ v ∷ []) Colon) (rest ++ y) = colon_on front fields v n (started (quad_fits front fields) x) (rest ++ y) (omega arith) in
    rw text (runs ∙ (here ∙ (on ∙ rw (after_colon vs, append_assoc fields (v ∷ []) vs) refl)))

-- An IPv4 text.

hex_append_under : (v : ℕ) (o : Option ℕ) (x y : List ℕ) → ((d : ℕ) → hex_from (16 * v + d) (x ++ y) ≡ option_and_then (λ w. hex_from w y) (hex_from (16 * v + d) x))
    → option_and_then (λ d. hex_from (16 * v + d) (x ++ y)) o ≡ option_and_then (λ w. hex_from w y) (option_and_then (λ d. hex_from (16 * v + d) x) o)
hex_append_under v None x y ih = refl
hex_append_under v (Some d) x y ih = ih d

pub hex_append : (v : ℕ) (x y : List ℕ) → hex_from v (x ++ y) ≡ option_and_then (λ w. hex_from w y) (hex_from v x)
hex_append v [] y = refl
hex_append v (b ∷ x) y = hex_append_under v (hex_digit b) x y (λ d. hex_append (16 * v + d) x y)

decimal_digit_hex : (n : ℕ) → n < 10 → hex_digit (48 + n) ≡ Some n
decimal_digit_hex n small = rw (let test : (nat_le 48 (48 + n) && nat_le (48 + n) 57) ≡ true = grind (arith, nat_tests) in test, let value : (48 + n) - 48 ≡ n = omega arith in value) refl

-- a decimal text also reads as some hexadecimal number
abbrev AlsoHex : ℕ → List ℕ → Type 0
AlsoHex n ds = (v : ℕ) × (hex_from 0 ds ≡ Some v)

also_hex : (n : ℕ) → n < 2 ^ 64 → AlsoHex n (decimal n)
also_hex = decimal_by_steps AlsoHex
    (λ n small. (16 * 0 + n, rw (decimal_digit_hex n small) refl))
    (λ n ds large (v, ih). (16 * v + n % 10, rw (hex_append 0 ds ((48 + n % 10) ∷ []), ih, decimal_digit_hex (n % 10) (omega arith)) refl))

holds_quad : (front : Option (List ℕ)) (fields : List ℕ) (before : Before) → NumberHolds step_inet6 0 255 (λ m. reading front fields (Quad (record { before = before; number = m })))
unfolding step_inet6 step_inet4
holds_quad front fields before = record { digit = λ m n b digit e. rw (digit, e) refl }

quad_on : (front : Option (List ℕ)) (fields : List ℕ) (before : Before) (n : ℕ) (y : List ℕ) → n ≤ 255 → run step_inet6 (reading front fields (Quad (fresh before))) (decimal n ++ y) ≡ run step_inet6 (reading front fields (Quad (begun before n))) y
quad_on front fields before n y le = number_runs step_inet6 0 255 (λ m. reading front fields (Quad (record { before = before; number = m }))) range (holds_quad front fields before) n (omega arith) y (omega arith) le

dot_on : (front : Option (List ℕ)) (fields : List ℕ) (v count a : ℕ) (y : List ℕ) → run step_inet6 (reading front fields (Digits v count (Some (begun Zero a)))) (46 ∷ y) ≡ run step_inet6 (reading front fields (Quad (fresh (One a)))) y
unfolding step_inet6 step_inet4
dot_on front fields v count a y = refl

quad_rest : (front : Option (List ℕ)) (fields : List ℕ) (a b c d : ℕ) → b ≤ 255 → c ≤ 255 → d ≤ 255
    → run step_inet6 (reading front fields (Quad (fresh (One a)))) (decimal b ++ 46 ∷ (decimal c ++ 46 ∷ decimal d)) ≡ Some (reading front fields (Quad (begun (Three a b c) d)))
unfolding step_inet6 step_inet4
quad_rest front fields a b c d hb hc hd =
    let whole : run step_inet6 (reading front fields (Quad (fresh (Three a b c)))) (decimal d) ≡ Some (reading front fields (Quad (begun (Three a b c) d))) = rw (← append-nil (decimal d)) (quad_on front fields (Three a b c) d [] hd) in
    quad_on front fields (One a) b _ hb ∙ (quad_on front fields (Two a b) c _ hc ∙ whole)

-- it ends in this state
quad_runs : (front : Option (List ℕ)) (fields : List ℕ) (token : Token) (octets text : List ℕ) → Ready front fields token → quad_fits front fields ≡ true → (is : IsInet4Text octets text)
    → run step_inet6 (reading front fields token) text ≡ Some (reading front fields (Quad (begun (Three is.a is.b is.c) is.d)))
quad_runs front fields token octets text ready fits is =
    let small : is.a < 2 ^ 64 = omega (arith, is.a_fits) in
    let (v, hex) = also_hex is.a small in
    let rest = decimal is.b ++ 46 ∷ (decimal is.c ++ 46 ∷ decimal is.d) in
    let (n, runs) = field_runs front fields token v (decimal is.a) (46 ∷ rest) ready (omega (arith, decimal_nonempty is.a small)) (omega (arith, length-decimal-le 3 is.a (lit< tt) (omega (arith, is.a_fits)) small)) hex in
    let first : run step_inet4 (fresh Zero) (decimal is.a) ≡ Some (begun Zero is.a) = rw (← append-nil (decimal is.a)) (number_on Zero is.a [] is.a_fits) in
    let there : started (quad_fits front fields) (decimal is.a) ≡ Some (begun Zero is.a) = rw (fits, first) refl in
    rw is.spelled (runs ∙ (rw there (dot_on front fields v n is.a rest) ∙ quad_rest front fields is.a is.b is.c is.d is.b_fits is.c_fits is.d_fits))

-- what stands last

record Ends (front : Option (List ℕ)) (fields : List ℕ) (from : Inet6State) (text : List ℕ) : Type 0 where
  pub state : Inet6State
  pub runs : run step_inet6 from text ≡ Some state
  pub gives : at_end_inet6 state ≡ fields_of front fields

last_runs : (front : Option (List ℕ)) (fields : List ℕ) (token : Token) (values text : List ℕ) → Ready front fields token → (length values ≡ 2 → quad_fits front fields ≡ true) → IsLast values text
    → Ends front (fields ++ values) (reading front fields token) text
unfolding at_end_inet6
last_runs front fields token [] text ready fits is = absurd is
last_runs front fields token (v ∷ []) text ready fits is =
    let (n, runs) = field_runs front fields token v text [] ready is.some is.most is.number in
    record { state = reading front fields (Digits v n (started (quad_fits front fields) text)); runs = rw (append-nil text) at runs; gives = refl }
last_runs front fields token (high ∷ low ∷ []) text ready fits is =
    let four = is.is_text in
    record { state = reading front fields (Quad (begun (Three four.a four.b four.c) four.d)); runs = quad_runs front fields token is.octets text ready (fits refl) four; gives = rw (is.upper, is.lower, four.are) refl }
last_runs front fields token (a ∷ b ∷ c ∷ rest) text ready fits is = absurd is

-- there are not too many fields, and two for an IPv4 text are the last ones
record Holds (front : Option (List ℕ)) (fields : List ℕ) : Type 0 where
  pub room : length fields ≤ room front
  pub quad : (values : List ℕ) → length values + 2 ≡ length fields → quad_fits front values ≡ true

pub last_some : (values text : List ℕ) → IsLast values text → 1 ≤ length values
last_some [] text is = absurd is
last_some (v ∷ vs) text is = omega arith

ready_after : (front : Option (List ℕ)) (token : Token) (values : List ℕ) → Ready front [] token → Ready front values (after token values)
ready_after front token [] ready = ready
ready_after front token (v ∷ vs) ready = ready_colon front (v ∷ vs)

joined_runs : (front : Option (List ℕ)) (token : Token) (fields text : List ℕ) → Ready front [] token → Holds front fields → AreJoined fields text → Ends front fields (reading front [] token) text
joined_runs front token fields text ready holds is =
    let count : length fields ≡ length is.values + length is.last_values = simp length-append at (ap length is.parts) in
    let some = last_some is.last_values is.last is.is_last in
    let led = led_runs front [] token is.values is.led is.last ready (omega (arith, holds.room)) is.is_led in
    let end = last_runs front is.values (after token is.values) is.last_values is.last (ready_after front token is.values ready) (λ two. holds.quad is.values (omega arith)) is.is_last in
    record { state = end.state; runs = rw is.spelled (led ∙ end.runs); gives = end.gives ∙ ap (fields_of front) (sym is.parts) }

front_runs : (front text y : List ℕ) → length front ≤ 7 → IsFront front text → run step_inet6 start_inet6 (text ++ y) ≡ run step_inet6 (reading (Some front) [] Gap) y
unfolding step_inet6
front_runs [] text y le is = rw is refl
front_runs (v ∷ vs) text y le (led, is, spelled) =
    rw (spelled, append_assoc led (58 ∷ []) y) (led_runs None [] Start (v ∷ vs) led (58 ∷ y) (ready_start None []) (omega arith) is)

back_runs : (front back text : List ℕ) → length front + length back ≤ 7 → IsBack back text → Ends (Some front) back (reading (Some front) [] Gap) text
unfolding at_end_inet6
back_runs front [] text le is = record { state = reading (Some front) [] Gap; runs = rw is refl; gives = refl }
back_runs front (v ∷ vs) text le is =
    joined_runs (Some front) Gap (v ∷ vs) text (ready_gap (Some front) [] (omega arith)) (record { room = omega arith; quad = λ values two. grind (arith, nat_tests) }) is

pub eight_fields : (fields : List ℕ) → length fields ≡ 8 → fields_of None fields ≡ Some fields
eight_fields fields is = rw (let test : (length fields == 8) ≡ true = grind (arith, nat_tests) in test) refl

pub accepts : (fields text : List ℕ) → IsInet6Text fields text → Accepts step_inet6 at_end_inet6 start_inet6 text fields
accepts fields text (inl (count, joined)) =
    let end = joined_runs None Start fields text (ready_start None []) (record { room = omega arith; quad = λ values two. grind (arith, nat_tests) }) joined in
    (end.state, end.runs, end.gives ∙ eight_fields fields count)
accepts fields text (inr short) =
    let front = front_runs short.front short.front_text short.back_text (omega (arith, short.zeros)) short.is_front in
    let end = back_runs short.front short.back short.back_text short.zeros short.is_back in
    (end.state, rw short.spelled (front ∙ end.runs), end.gives ∙ ap (λ (f : List ℕ). Some f) (sym short.parts))

-- An IPv4 text is none of an IPv6 address.

not_inet4_on : (v count : ℕ) (y : List ℕ) → run step_inet6 (reading None [] (Digits v count None)) (46 ∷ y) ≡ None
unfolding step_inet6
not_inet4_on v count y = refl

-- no IPv4 text is one of an IPv6 address
pub not_inet4 : (octets text : List ℕ) → IsInet4Text octets text → run step_inet6 start_inet6 text ≡ None
not_inet4 octets text is =
    let small : is.a < 2 ^ 64 = omega (arith, is.a_fits) in
    let (v, hex) = also_hex is.a small in
    let rest = decimal is.b ++ 46 ∷ (decimal is.c ++ 46 ∷ decimal is.d) in
    let (n, runs) = field_runs None [] Start v (decimal is.a) (46 ∷ rest) (ready_start None []) (omega (arith, decimal_nonempty is.a small)) (omega (arith, length-decimal-le 3 is.a (lit< tt) (omega (arith, is.a_fits)) small)) hex in
    rw is.spelled (runs ∙ not_inet4_on v n rest)
