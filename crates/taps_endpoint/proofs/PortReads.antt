-- A machine with a port reads the grammar of the machine inside, with a port.
use Rattle.std.proofs.Common.{◌≡◌, ◌≤◌, ℕ, ◌-◌, ◌==◌, List, [], ◌∷◌, ◌++◌, ◌&&◌, Option, Some, None, is_some, cond, refl, sym, ap, ◌∙◌, inl, inr, arith, append_assoc, lit≤}
use Rattle.std.specs.Option.{option_map, IfSome}
use Rattle.std.specs.Fmt.{decimal}
use Rattle.std.proofs.lemmas.Bool.{cases_Bool}
use Rattle.std.proofs.lemmas.Bool.Decides.{nat_tests}
use Rattle.std.proofs.lemmas.List.{append-nil}
use Rattle.taps_base.proofs.Results.{map_some}
use Rattle.taps_endpoint.specs.declared.with_port.WithPort.{WithPort}
use Rattle.taps_endpoint.specs.declared.with_port.WithPort.TheVariants.{Inside, Port}
use Rattle.taps_endpoint.specs.Machines.{run, Accepts, Reads}
use Rattle.taps_endpoint.specs.Numbers.{is_digit, with_digit}
use Rattle.taps_endpoint.specs.PortMachine.{step_with_port, value_with_port}
use Rattle.taps_endpoint.specs.Ports.{HasPort}
use Rattle.taps_endpoint.proofs.MachineRuns.{run_on, run_first, run_one}
use Rattle.taps_endpoint.proofs.NumberRuns.{IsRange, Holds, number_runs_out, number_and, Grows, grows}

-- the machine inside does not go on with a `:` where a text may end
pub Stops : {S A : Type 0} → (S → ℕ → Option S) → (S → Option A) → Type 0
Stops {S} {A} step at_end = (s : S) (a : A) → at_end s ≡ Some a → step s 58 ≡ None

pub stops_before : {S A : Type 0} (step : S → ℕ → Option S) (at_end : S → Option A) → ((s : S) (a : A) → at_end s ≡ Some a → step s 58 ≡ None) → Stops step at_end
unfolding Stops
stops_before step at_end all = all

colon_inside : {S A : Type 0} (step : S → ℕ → Option S) (at_end : S → Option A) (s t : S) (o : Option A) → at_end s ≡ o → Stops step at_end → step s 58 ≡ Some t
    → cond (is_some o) (option_map {U = WithPort S A} (λ a. Port a None) o) (option_map Inside (step s 58)) ≡ Some (Inside t)
unfolding Stops
colon_inside step at_end s t None e stops on = rw on refl
colon_inside step at_end s t (Some a) e stops on = let none = stops s a e in absurd (cc)

inside_step : {S A : Type 0} (step : S → ℕ → Option S) (at_end : S → Option A) (s t : S) (b : ℕ) → Stops step at_end → step s b ≡ Some t → step_with_port step at_end (Inside s) b ≡ Some (Inside t)
inside_step step at_end s t b stops e = elim (cases_Bool (b == 58)) [
  | inl colon ↦
      let is : b ≡ 58 = grind (arith, nat_tests) in
      rw is (colon_inside step at_end s t (at_end s) refl stops (rw is at e))
  | inr other ↦ rw (other, e) refl
]

inside_runs : {S A : Type 0} (step : S → ℕ → Option S) (at_end : S → Option A) (s t : S) (x y : List ℕ) → Stops step at_end → run step s x ≡ Some t → run (step_with_port step at_end) (Inside s) (x ++ y) ≡ run (step_with_port step at_end) (Inside t) y
inside_runs step at_end s t [] y stops e = let same : s ≡ t = cc in rw same refl
inside_runs step at_end s t (b ∷ x) y stops e =
    let (u, first, rest) = run_first step s t b x e in
    rw (inside_step step at_end s u b stops first) (inside_runs step at_end u t x y stops rest)

range : IsRange 1 65535
range = record { low = lit≤ tt; some = lit≤ tt; high = lit≤ tt }

holds : {S A : Type 0} (step : S → ℕ → Option S) (at_end : S → Option A) (a : A) → Holds (step_with_port step at_end) 1 65535 (λ m. Port a m)
holds step at_end a = record { digit = λ m n b digit e. rw (digit, e) refl }

close : {S A : Type 0} (step : S → ℕ → Option S) (at_end : S → Option A) (s : S) (a : A) (y : List ℕ) → at_end s ≡ Some a → run (step_with_port step at_end) (Inside s) (58 ∷ y) ≡ run (step_with_port step at_end) (Port a None) y
close step at_end s a y e = rw e refl

accepts : {S A : Type 0} (IsText : A → List ℕ → Type 0) (step : S → ℕ → Option S) (at_end : S → Option A) (start : S) → Reads IsText step at_end start → Stops step at_end
    → (value : A × ℕ) (text : List ℕ) → HasPort IsText value text → Accepts (step_with_port step at_end) value_with_port (Inside start) text value
accepts IsText step at_end start reads stops value text is =
    let (s, runs, gives) = reads.accepts value.0 is.inside is.is_inside in (
      Port value.0 (Some value.1),
      rw is.spelled (inside_runs step at_end start s is.inside (58 ∷ decimal value.1) stops runs ∙ (close step at_end s value.0 (decimal value.1) gives
          ∙ number_runs_out (step_with_port step at_end) 1 65535 (λ m. Port value.0 m) range (holds step at_end value.0) value.1 (omega (arith, is.port_fits)) is.port_some is.port_fits)),
      refl,
    )

-- What runs is the beginning of a text.

abbrev ReadSo : {S A : Type 0} → (A → List ℕ → Type 0) → (S → ℕ → Option S) → S → WithPort S A → List ℕ → Type 0
ReadSo IsText step start (Inside s) text = run step start text ≡ Some s
ReadSo IsText step start (Port a number) text = (x : List ℕ) × IsText a x × IfSome number (λ n. 1 ≤ n) × IfSome number (λ n. n ≤ 65535) × (text ≡ x ++ 58 ∷ number_and number [])

port_and : (number : Option ℕ) (b n : ℕ) → Grows 1 65535 number b n → number_and number [] ++ b ∷ [] ≡ number_and (Some n) []
port_and None b n more = more.same []
port_and (Some m) b n more = append_assoc (decimal m) [] (b ∷ []) ∙ more.same []

next_read : {S A : Type 0} (IsText : A → List ℕ → Type 0) (step : S → ℕ → Option S) (at_end : S → Option A) (start : S) → Reads IsText step at_end start
    → (r t : WithPort S A) (text : List ℕ) (b : ℕ) → ReadSo IsText step start r text → step_with_port step at_end r b ≡ Some t → ReadSo IsText step start t (text ++ b ∷ [])
next_read IsText step at_end start reads (Inside s) t text b runs e = elim (cases_Bool ((b == 58) && is_some (at_end s))) [
  | inl colon ↦
      let (a, gives, same) = map_some (λ a. Port a None) (at_end s) t (rw colon at e) in
      let is : b ≡ 58 = grind (arith, nat_tests) in
      rw (← same) (text, reads.sound a text (s, runs, gives), tt, tt, rw is refl)
  | inr other ↦
      let (u, first, same) = map_some Inside (step s b) t (rw other at e) in
      rw (← same) (run_on step start s text (b ∷ []) runs ∙ (run_one step s b ∙ first))
]
next_read IsText step at_end start reads (Port a number) t text b (x, is_text, low, high, spelled) e = elim (cases_Bool (is_digit b)) [
  | inl digit ↦
      let (n, found, same) = map_some (λ n. Port a (Some n)) (with_digit 1 65535 number (b - 48)) t (rw digit at e) in
      let more = grows 1 65535 number b n range digit low found in
      rw (← same) (x, is_text, more.low, more.high, rw spelled (append_assoc x (58 ∷ number_and number []) (b ∷ []) ∙ ap (λ (y : List ℕ). x ++ 58 ∷ y) (port_and number b n more)))
  | inr no_digit ↦ let h = rw no_digit at e in absurd (cc)
]

run_read : {S A : Type 0} (IsText : A → List ℕ → Type 0) (step : S → ℕ → Option S) (at_end : S → Option A) (start : S) → Reads IsText step at_end start
    → (r t : WithPort S A) (text x : List ℕ) → ReadSo IsText step start r text → run (step_with_port step at_end) r x ≡ Some t → ReadSo IsText step start t (text ++ x)
run_read IsText step at_end start reads r t text [] read e = let same : r ≡ t = cc in rw (← same, append-nil text) read
run_read IsText step at_end start reads r t text (b ∷ x) read e =
    let (u, first, rest) = run_first (step_with_port step at_end) r t b x e in
    rw (← append_assoc text (b ∷ []) x) (run_read IsText step at_end start reads u t (text ++ b ∷ []) x (next_read IsText step at_end start reads r u text b read first) rest)

end_read : {S A : Type 0} (IsText : A → List ℕ → Type 0) (step : S → ℕ → Option S) (start : S) (r : WithPort S A) (value : A × ℕ) (text : List ℕ) → ReadSo IsText step start r text → value_with_port r ≡ Some value → HasPort IsText value text
end_read IsText step start (Inside s) value text read e = absurd (cc)
end_read IsText step start (Port a None) value text (x, is_text, low, high, spelled) e = absurd (cc)
end_read IsText step start (Port a (Some n)) value text (x, is_text, low, high, spelled) e =
    let is : ◌≡◌ {A = _ × ℕ} (a, n) value = cc in
    rw (← is) (record { inside = x; is_inside = is_text; port_some = low; port_fits = high; spelled = rw (spelled, append-nil (decimal n)) refl })

completes : {S A : Type 0} (IsText : A → List ℕ → Type 0) (step : S → ℕ → Option S) (at_end : S → Option A) (start : S) → Reads IsText step at_end start
    → (text : List ℕ) (r : WithPort S A) → ReadSo IsText step start r text → (value : A × ℕ) × (rest : List ℕ) × HasPort IsText value (text ++ rest)
completes IsText step at_end start reads text (Inside s) runs =
    let (a, rest, all) = reads.completes text s runs in
    ((a, 1), rest ++ 58 ∷ decimal 1, record { inside = text ++ rest; is_inside = reads.sound a (text ++ rest) all; port_some = lit≤ tt; port_fits = lit≤ tt; spelled = sym (append_assoc text rest (58 ∷ decimal 1)) })
completes IsText step at_end start reads text (Port a None) (x, is_text, low, high, spelled) =
    ((a, 1), decimal 1, record { inside = x; is_inside = is_text; port_some = lit≤ tt; port_fits = lit≤ tt; spelled = rw spelled (append_assoc x (58 ∷ []) (decimal 1)) })
completes IsText step at_end start reads text (Port a (Some n)) (x, is_text, low, high, spelled) =
    ((a, n), [], record { inside = x; is_inside = is_text; port_some = low; port_fits = high; spelled = append-nil text ∙ (spelled ∙ rw (append-nil (decimal n)) refl) })

pub reads_with_port : {S A : Type 0} (IsText : A → List ℕ → Type 0) (step : S → ℕ → Option S) (at_end : S → Option A) (start : S) → Reads IsText step at_end start → Stops step at_end
    → Reads (HasPort IsText) (step_with_port step at_end) value_with_port (Inside start)
reads_with_port IsText step at_end start reads stops = record {
  accepts = accepts IsText step at_end start reads stops;
  sound = λ value text (r, runs, gives). end_read IsText step start r value text (run_read IsText step at_end start reads (Inside start) r [] text refl runs) gives;
  completes = λ text r runs.
      let (value, rest, is) = completes IsText step at_end start reads text r (run_read IsText step at_end start reads (Inside start) r [] text refl runs) in
      (value, rest, accepts IsText step at_end start reads stops value (text ++ rest) is);
}
