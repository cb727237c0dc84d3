-- What the machine for IPv6 addresses reads to its end is a text of their grammar.
use Rattle.std.proofs.Common.{◌≡◌, ◌<◌, ◌≤◌, ℕ, ◌+◌, ◌*◌, ◌==◌, List, [], ◌∷◌, ◌++◌, length, Option, Some, None, IsSome, Bool, true, false, cond, nat_lt, refl, sym, ◌∙◌, inl, inr, arith, append_assoc, lit<, lit≤, length-append}
use Rattle.std.specs.Option.{option_and_then, option_map, IfSome}
use Rattle.std.specs.Fmt.{decimal}
use Rattle.std.proofs.lemmas.Option.{cond_some}
use Rattle.std.proofs.lemmas.Bool.{cases_Bool}
use Rattle.std.proofs.lemmas.Bool.Decides.{nat_tests}
use Rattle.std.proofs.lemmas.List.{append-nil}
use Rattle.taps_base.proofs.Results.{map_some}
use Rattle.taps_endpoint.specs.declared.inet6.Inet6State.{Inet6State}
use Rattle.taps_endpoint.specs.declared.inet6.Token.{Token}
use Rattle.taps_endpoint.specs.declared.inet6.Token.TheVariants.{Start, FirstColon, Gap, Colon, Digits, Quad}
use Rattle.taps_endpoint.specs.declared.inet4.Inet4State.{Inet4State}
use Rattle.taps_endpoint.specs.declared.inet4.Before.{Before}
use Rattle.taps_endpoint.specs.declared.inet4.Before.TheVariants.{Zero, One, Two, Three}
use Rattle.taps_endpoint.specs.Machines.{run, Accepts}
use Rattle.taps_endpoint.specs.Inet4Machine.{begun, fresh, step_inet4}
use Rattle.taps_endpoint.specs.Inet6Machine.{room, quad_fits, reading, begin, open_gap, after_field, next, step_inet6, fields_of, quad_fields, quad_of, end_of, at_end_inet6, start_inet6}
use Rattle.taps_endpoint.specs.Inet6Texts.{hex_digit, hex_from, IsField, AreLed, IsLast, AreJoined, spread, IsFront, IsBack, IsInet6Text}
use Rattle.taps_endpoint.proofs.MachineRuns.{run_on, run_first, run_one, then_some}
use Rattle.taps_endpoint.proofs.Inet6Accepts.{hex_append, last_some}
use Rattle.taps_endpoint.proofs.Inet4Reads.{read_so}

-- What runs is the beginning of a text: an opening up to the `::`, fields with a `:` behind each, and what is read now.

abbrev pub Opening : Option (List ℕ) → List ℕ → Type 0
Opening None text = text ≡ []
Opening (Some front) text = (length front ≤ 7) × IsFront front text

pub record InQuad (front : Option (List ℕ)) (fields : List ℕ) (s : Inet4State) (now : List ℕ) : Type 0 where
  pub runs : run step_inet4 (fresh Zero) now ≡ Some s
  pub fits : quad_fits front fields ≡ true

pub record InDigits (front : Option (List ℕ)) (fields : List ℕ) (v count : ℕ) (quad : Option Inet4State) (now : List ℕ) : Type 0 where
  pub some : 1 ≤ count
  pub most : count ≤ 4
  pub long : length now ≡ count
  pub number : hex_from 0 now ≡ Some v
  pub room : length fields < room front
  pub as_quad : IfSome quad (λ s. InQuad front fields s now)

abbrev pub Now : Option (List ℕ) → List ℕ → Token → List ℕ → Type 0
Now front fields Start now = (now ≡ []) × (front ≡ None) × (fields ≡ [])
Now front fields FirstColon now = (now ≡ 58 ∷ []) × (front ≡ None) × (fields ≡ [])
Now front fields Gap now = (now ≡ []) × (fields ≡ []) × IsSome front
Now front fields Colon now = (now ≡ []) × (0 < length fields) × (length fields < room front)
Now front fields (Digits v count quad) now = InDigits front fields v count quad now
Now front fields (Quad s) now = InQuad front fields s now

pub record Read (front : Option (List ℕ)) (fields : List ℕ) (token : Token) (text : List ℕ) : Type 0 where
  pub opening : List ℕ
  pub led : List ℕ
  pub now : List ℕ
  pub spelled : text ≡ opening ++ (led ++ now)
  pub is_opening : Opening front opening
  pub is_led : AreLed fields led
  pub is_now : Now front fields token now

abbrev pub ReadSo : Inet6State → List ℕ → Type 0
ReadSo s text = Read s.front s.fields s.token text

-- the fields stay, and a byte more is read
stay : (front : Option (List ℕ)) (fields : List ℕ) (token after : Token) (text : List ℕ) (b : ℕ) → (read : Read front fields token text) → Now front fields after (read.now ++ b ∷ []) → Read front fields after (text ++ b ∷ [])
stay front fields token after text b read is = record {
  opening = read.opening;
  led = read.led;
  now = read.now ++ b ∷ [];
  spelled = rw (read.spelled, append_assoc read.opening (read.led ++ read.now) (b ∷ []), append_assoc read.led read.now (b ∷ [])) refl;
  is_opening = read.is_opening;
  is_led = read.is_led;
  is_now = is;
}

hex_one : (b d : ℕ) → hex_digit b ≡ Some d → hex_from 0 (b ∷ []) ≡ Some d
hex_one b d e = rw (e, let value : 16 * 0 + d ≡ d = omega arith in value) refl

hex_push : (x : List ℕ) (v b d : ℕ) → hex_from 0 x ≡ Some v → hex_digit b ≡ Some d → hex_from 0 (x ++ b ∷ []) ≡ Some (16 * v + d)
hex_push x v b d e digit = rw (hex_append 0 x (b ∷ []), e, digit) refl

quad_first : (front : Option (List ℕ)) (fields : List ℕ) (b : ℕ) (ok : Bool) (o : Option Inet4State) → quad_fits front fields ≡ ok → step_inet4 (fresh Zero) b ≡ o → IfSome (cond ok o None) (λ s. InQuad front fields s (b ∷ []))
quad_first front fields b false o fits e = tt
quad_first front fields b true None fits e = tt
quad_first front fields b true (Some s) fits e = record { runs = run_one step_inet4 (fresh Zero) b ∙ e; fits = fits }

begun_read : (front : Option (List ℕ)) (fields : List ℕ) (token : Token) (text : List ℕ) (b : ℕ) (t : Inet6State) → (read : Read front fields token text) → read.now ≡ [] → length fields < room front → begin front fields b ≡ Some t → ReadSo t (text ++ b ∷ [])
begun_read front fields token text b t read none lt e =
    let (d, digit, is) = map_some (λ d. reading front fields (Digits d 1 (cond (quad_fits front fields) (step_inet4 (fresh Zero) b) None))) (hex_digit b) t e in
    let in_digits : InDigits front fields d 1 (cond (quad_fits front fields) (step_inet4 (fresh Zero) b) None) (b ∷ []) = record {
      some = lit≤ tt;
      most = lit≤ tt;
      long = refl;
      number = hex_one b d digit;
      room = lt;
      as_quad = quad_first front fields b (quad_fits front fields) (step_inet4 (fresh Zero) b) refl refl;
    } in
    rw (← is) (stay front fields token (Digits d 1 (cond (quad_fits front fields) (step_inet4 (fresh Zero) b) None)) text b read (rw none in_digits))

gap_read : (front : Option (List ℕ)) (fields : List ℕ) (text : List ℕ) (b : ℕ) (t : Inet6State) → Read front fields Colon text → b ≡ 58 → open_gap front fields ≡ Some t → ReadSo t (text ++ b ∷ [])
gap_read (Some front) fields text b t read is e = absurd (cc)
gap_read None [] text b t read is e = absurd (omega (arith, read.is_now.1))
gap_read None (v ∷ vs) text b t read is e =
    let same : reading (Some (v ∷ vs)) [] Gap ≡ t = cc in
    let spelled : text ≡ read.led = read.spelled ∙ rw (read.is_opening, read.is_now.0, append-nil) refl in
    rw (← same) (record {
      opening = read.led ++ 58 ∷ [];
      led = [];
      now = [];
      spelled = rw (spelled, is, append-nil) refl;
      is_opening = (omega (arith, read.is_now.2), (read.led, read.is_led, refl));
      is_led = refl;
      is_now = (refl, refl, refl);
    })

first_gap_read : (front : Option (List ℕ)) (fields : List ℕ) (text : List ℕ) (b : ℕ) (t : Inet6State) → Read front fields FirstColon text → b ≡ 58 → open_gap front fields ≡ Some t → ReadSo t (text ++ b ∷ [])
first_gap_read (Some front) fields text b t read is e = absurd (cc)
first_gap_read None (v ∷ vs) text b t read is e = let no_fields = read.is_now.2 in absurd (cc)
first_gap_read None [] text b t read is e =
    let same : reading (Some []) [] Gap ≡ t = cc in
    let spelled : text ≡ 58 ∷ [] = read.spelled ∙ rw (read.is_opening, read.is_led, read.is_now.0) refl in
    rw (← same) (record {
      opening = 58 ∷ 58 ∷ [];
      led = [];
      now = [];
      spelled = rw (spelled, is) refl;
      is_opening = (lit≤ tt, refl);
      is_led = refl;
      is_now = (refl, refl, refl);
    })

led_push : (fields led field : List ℕ) (v : ℕ) → AreLed fields led → IsField v field → AreLed (fields ++ v ∷ []) (led ++ (field ++ 58 ∷ []))
led_push [] led field v is field_is = (field, [], field_is, rw is refl, refl)
led_push (w ∷ ws) led field v (x, rest, x_is, spelled, more) field_is =
    (x, rest ++ (field ++ 58 ∷ []), x_is, rw spelled (append_assoc x (58 ∷ rest) (field ++ 58 ∷ [])), led_push ws rest field v more field_is)

quad_step : (front : Option (List ℕ)) (fields : List ℕ) (s t : Inet4State) (now : List ℕ) (b : ℕ) → InQuad front fields s now → step_inet4 s b ≡ Some t → InQuad front fields t (now ++ b ∷ [])
quad_step front fields s t now b read e = record {
  runs = run_on step_inet4 (fresh Zero) s now (b ∷ []) read.runs ∙ (run_one step_inet4 s b ∙ e);
  fits = read.fits;
}

quad_beside : (front : Option (List ℕ)) (fields : List ℕ) (quad : Option Inet4State) (now : List ℕ) (b : ℕ) (o : Option Inet4State) → IfSome quad (λ s. InQuad front fields s now) → option_and_then (λ s. step_inet4 s b) quad ≡ o
    → IfSome o (λ s. InQuad front fields s (now ++ b ∷ []))
quad_beside front fields quad now b None read e = tt
quad_beside front fields None now b (Some t) read e = absurd (cc)
quad_beside front fields (Some s) now b (Some t) read e = quad_step front fields s t now b read e

field_of : (front : Option (List ℕ)) (fields : List ℕ) (v count : ℕ) (quad : Option Inet4State) (now : List ℕ) → InDigits front fields v count quad now → IsField v now
field_of front fields v count quad now read = record { some = omega (arith, read.some, read.long); most = omega (arith, read.most, read.long); number = read.number }

field_read : (front : Option (List ℕ)) (fields : List ℕ) (v count : ℕ) (quad : Option Inet4State) (text : List ℕ) (b : ℕ) (t : Inet6State) → Read front fields (Digits v count quad) text → b ≡ 58 → after_field front fields v ≡ Some t → ReadSo t (text ++ b ∷ [])
field_read front fields v count quad text b t read is e =
    let (test, same) = cond_some (nat_lt (length fields + 1) (room front)) (reading front (fields ++ v ∷ []) Colon) t e in
    let lt : length fields + 1 < room front = grind (arith, nat_tests) in
    rw (← same) (record {
      opening = read.opening;
      led = read.led ++ (read.now ++ 58 ∷ []);
      now = [];
      spelled = rw (read.spelled, is, append-nil, append_assoc read.opening (read.led ++ read.now) (58 ∷ []), append_assoc read.led read.now (58 ∷ [])) refl;
      is_opening = read.is_opening;
      is_led = led_push fields read.led read.now v read.is_led (field_of front fields v count quad read.now read.is_now);
      is_now = (refl, simp length-append (omega arith), simp length-append (omega arith));
    })

digit_read : (front : Option (List ℕ)) (fields : List ℕ) (v count : ℕ) (quad : Option Inet4State) (text : List ℕ) (b d : ℕ) → Read front fields (Digits v count quad) text → count < 4 → hex_digit b ≡ Some d
    → Read front fields (Digits (16 * v + d) (count + 1) (option_and_then (λ s. step_inet4 s b) quad)) (text ++ b ∷ [])
digit_read front fields v count quad text b d read lt e =
    stay front fields (Digits v count quad) (Digits (16 * v + d) (count + 1) (option_and_then (λ s. step_inet4 s b) quad)) text b read (record {
      some = omega arith;
      most = omega arith;
      long = simp length-append (omega (arith, read.is_now.long));
      number = hex_push read.now v b d read.is_now.number e;
      room = read.is_now.room;
      as_quad = quad_beside front fields quad read.now b (option_and_then (λ s. step_inet4 s b) quad) read.is_now.as_quad refl;
    })

quad_read : (front : Option (List ℕ)) (fields : List ℕ) (token : Token) (text : List ℕ) (b : ℕ) (s : Inet4State) → (read : Read front fields token text) → InQuad front fields s (read.now ++ b ∷ []) → Read front fields (Quad s) (text ++ b ∷ [])
quad_read front fields token text b s read is = stay front fields token (Quad s) text b read is

start_read : (front : Option (List ℕ)) (fields : List ℕ) (text : List ℕ) (b : ℕ) → Read front fields Start text → b ≡ 58 → Read front fields FirstColon (text ++ b ∷ [])
start_read front fields text b read is = stay front fields Start FirstColon text b read (rw (read.is_now.0, is) refl, read.is_now.1, read.is_now.2)

start_room : (front : Option (List ℕ)) (fields : List ℕ) → front ≡ None → fields ≡ [] → length fields < room front
start_room front fields none empty = rw (none, empty) (lit< tt)

digits_read : (front : Option (List ℕ)) (fields : List ℕ) (v count : ℕ) (quad : Option Inet4State) (text : List ℕ) (b : ℕ) (t : Inet6State) → Read front fields (Digits v count quad) text → (b == 58) ≡ false
    → cond (b == 46) (option_map (λ s. reading front fields (Quad s)) (option_and_then (λ s. step_inet4 s b) quad))
    (cond (nat_lt count 4) (option_map (λ d. reading front fields (Digits (16 * v + d) (count + 1) (option_and_then (λ s. step_inet4 s b) quad))) (hex_digit b)) None) ≡ Some t
    → ReadSo t (text ++ b ∷ [])
digits_read front fields v count quad text b t read other e = elim (cases_Bool (b == 46)) [
  | inl dot ↦
      let (s, found, same) = map_some (λ s. reading front fields (Quad s)) (option_and_then (λ s. step_inet4 s b) quad) t (rw dot at e) in
      rw (← same) (quad_read front fields (Digits v count quad) text b s read (quad_beside front fields quad read.now b (Some s) read.is_now.as_quad found))
  | inr no_dot ↦ elim (cases_Bool (nat_lt count 4)) [
    | inl lt ↦
        let (d, digit, same) = map_some (λ d. reading front fields (Digits (16 * v + d) (count + 1) (option_and_then (λ s. step_inet4 s b) quad))) (hex_digit b) t (rw (no_dot, lt) at e) in
        rw (← same) (digit_read front fields v count quad text b d read (grind (arith, nat_tests)) digit)
    | inr full ↦ let h = rw (no_dot, full) at e in absurd (cc)
  ]
]

next_read : (front : Option (List ℕ)) (fields : List ℕ) (token : Token) (text : List ℕ) (b : ℕ) (t : Inet6State) → Read front fields token text → next front fields token b ≡ Some t → ReadSo t (text ++ b ∷ [])
next_read front fields Start text b t read e = elim (cases_Bool (b == 58)) [
  | inl colon ↦
      let h = rw colon at e in
      let same : reading front fields FirstColon ≡ t = cc in
      rw (← same) (start_read front fields text b read (grind (arith, nat_tests)))
  | inr other ↦ begun_read front fields Start text b t read read.is_now.0 (start_room front fields read.is_now.1 read.is_now.2) (rw other at e)
]
next_read front fields FirstColon text b t read e = elim (cases_Bool (b == 58)) [
  | inl colon ↦ first_gap_read front fields text b t read (grind (arith, nat_tests)) (rw colon at e)
  | inr other ↦ let h = rw other at e in absurd (cc)
]
next_read front fields Gap text b t read e = elim (cases_Bool (nat_lt (length fields) (room front))) [
  | inl lt ↦ begun_read front fields Gap text b t read read.is_now.0 (grind (arith, nat_tests)) (rw lt at e)
  | inr full ↦ let h = rw full at e in absurd (cc)
]
next_read front fields Colon text b t read e = elim (cases_Bool (b == 58)) [
  | inl colon ↦ gap_read front fields text b t read (grind (arith, nat_tests)) (rw colon at e)
  | inr other ↦ begun_read front fields Colon text b t read read.is_now.0 read.is_now.2 (rw other at e)
]
next_read front fields (Digits v count quad) text b t read e = elim (cases_Bool (b == 58)) [
  | inl colon ↦ field_read front fields v count quad text b t read (grind (arith, nat_tests)) (rw colon at e)
  | inr other ↦ digits_read front fields v count quad text b t read other (rw other at e)
]
next_read front fields (Quad s) text b t read e =
    let (u, found, same) = map_some (λ t. reading front fields (Quad t)) (step_inet4 s b) t e in
    rw (← same) (quad_read front fields (Quad s) text b u read (quad_step front fields s u read.now b read.is_now found))

run_read : (s t : Inet6State) (text x : List ℕ) → ReadSo s text → run step_inet6 s x ≡ Some t → ReadSo t (text ++ x)
unfolding step_inet6
run_read s t text [] read e = let same : s ≡ t = cc in rw (← same, append-nil text) read
run_read s t text (b ∷ x) read e =
    let (u, first, rest) = run_first step_inet6 s t b x e in
    rw (← append_assoc text (b ∷ []) x) (run_read u t (text ++ b ∷ []) x (next_read s.front s.fields s.token text b u read first) rest)

pub read_all : (t : Inet6State) (x : List ℕ) → run step_inet6 start_inet6 x ≡ Some t → ReadSo t x
read_all t x e = run_read start_inet6 t [] x (record { opening = []; led = []; now = []; spelled = refl; is_opening = refl; is_led = refl; is_now = (refl, refl, refl) }) e

-- A text that is read to its end is one of the grammar.

back_joined : (fields text : List ℕ) → 1 ≤ length fields → AreJoined fields text → IsBack fields text
back_joined [] text some is = absurd (omega arith)
back_joined (v ∷ vs) text some is = is

text_at : (front : Option (List ℕ)) (fields text opening rest address : List ℕ) → text ≡ opening ++ rest → Opening front opening → AreJoined fields rest → 1 ≤ length fields → length fields ≤ room front
    → fields_of front fields ≡ Some address → IsInet6Text address text
text_at None fields text opening rest address spelled is_opening joined some le e =
    let (test, same) = cond_some (length fields == 8) fields address e in
    let count : length fields ≡ 8 = grind (arith, nat_tests) in
    let text_is : rest ≡ text = sym (rw is_opening at spelled) in
    rw (← same, ← text_is) (inl (count, joined))
text_at (Some front) fields text opening rest address spelled is_opening joined some le e = inr (record {
  front = front;
  back = fields;
  front_text = opening;
  back_text = rest;
  parts = (let same : spread front fields ≡ address = cc in sym same);
  spelled = spelled;
  zeros = omega (arith, is_opening.0);
  is_front = is_opening.1;
  is_back = back_joined fields rest some joined;
})

gap_end : (front : Option (List ℕ)) (fields text address : List ℕ) → Read front fields Gap text → fields_of front fields ≡ Some address → IsInet6Text address text
gap_end None fields text address read e = let none = read.is_now.2 in absurd (cc)
gap_end (Some front) [] text address read e = inr (record {
  front = front;
  back = [];
  front_text = read.opening;
  back_text = [];
  parts = (let same : spread front [] ≡ address = cc in sym same);
  spelled = rw (read.spelled, read.is_led, read.is_now.0) refl;
  zeros = omega (arith, read.is_opening.0);
  is_front = read.is_opening.1;
  is_back = refl;
})
gap_end (Some front) (v ∷ vs) text address read e = let none = read.is_now.1 in absurd (cc)

quad_room : (front : Option (List ℕ)) (fields two : List ℕ) → length two ≡ 2 → quad_fits front fields ≡ true → length fields + length two ≤ room front
quad_room None fields two count fits = grind (arith, nat_tests)
quad_room (Some front) fields two count fits = grind (arith, nat_tests)

text_of : (front : Option (List ℕ)) (fields values text : List ℕ) (token : Token) (address : List ℕ) → (read : Read front fields token text) → IsLast values read.now → length fields + length values ≤ room front
    → fields_of front (fields ++ values) ≡ Some address → IsInet6Text address text
text_of front fields values text token address read last le e =
    let some = last_some values read.now last in
    let joined : AreJoined (fields ++ values) (read.led ++ read.now) = record { values = fields; last_values = values; led = read.led; last = read.now; parts = refl; spelled = refl; is_led = read.is_led; is_last = last } in
    text_at front (fields ++ values) text read.opening (read.led ++ read.now) address read.spelled read.is_opening joined (simp length-append (omega arith)) (simp length-append (omega arith)) e

quad_is : (before : Before) (number : Option ℕ) (text two : List ℕ) → run step_inet4 (fresh Zero) text ≡ Some (record { before = before; number = number }) → option_and_then (quad_fields before) number ≡ Some two → (length two ≡ 2) × IsLast two text
quad_is before None text two runs e = absurd (cc)
quad_is Zero (Some n) text two runs e = absurd (cc)
quad_is (One a) (Some n) text two runs e = absurd (cc)
quad_is (Two a b) (Some n) text two runs e = absurd (cc)
quad_is (Three a b c) (Some d) text two runs e =
    let (same, small) = read_so (begun (Three a b c) d) text runs in
    let is : (256 * a + b) ∷ (256 * c + d) ∷ [] ≡ two = cc in
    rw (← is) (
      refl,
      record {
        octets = a ∷ b ∷ c ∷ d ∷ [];
        is_text = record {
          a = a;
          b = b;
          c = c;
          d = d;
          are = refl;
          a_fits = small.before.0;
          b_fits = small.before.1;
          c_fits = small.before.2;
          d_fits = small.number;
          spelled = rw (same, append-nil (decimal d)) refl;
        };
        upper = refl;
        lower = refl;
      },
    )

end_read : (front : Option (List ℕ)) (fields : List ℕ) (token : Token) (text address : List ℕ) → Read front fields token text → end_of front fields token ≡ Some address → IsInet6Text address text
end_read front fields Start text address read e = absurd (cc)
end_read front fields FirstColon text address read e = absurd (cc)
end_read front fields Colon text address read e = absurd (cc)
end_read front fields Gap text address read e = gap_end front fields text address read e
end_read front fields (Digits v count quad) text address read e =
    text_of front fields (v ∷ []) text (Digits v count quad) address read (field_of front fields v count quad read.now read.is_now) (omega (arith, read.is_now.room)) e
end_read front fields (Quad s) text address read e =
    let (two, found, same) = then_some (λ two. fields_of front (fields ++ two)) (quad_of s) address e in
    let (count, last) = quad_is s.before s.number read.now two read.is_now.runs found in
    text_of front fields two text (Quad s) address read last (quad_room front fields two count read.is_now.fits) same

pub sound : (address text : List ℕ) → Accepts step_inet6 at_end_inet6 start_inet6 text address → IsInet6Text address text
unfolding at_end_inet6
sound address text (s, runs, is) = end_read s.front s.fields s.token text address (read_all s text runs) is
