-- A machine in brackets reads the grammar of the machine inside, in brackets.
use Rattle.std.proofs.Common.{◌≡◌, ℕ, ◌==◌, List, [], ◌∷◌, ◌++◌, Option, Some, None, refl, ◌∙◌, inl, inr, arith, append_assoc}
use Rattle.std.proofs.lemmas.Option.{cond_some}
use Rattle.std.proofs.lemmas.Bool.{cases_Bool}
use Rattle.std.proofs.lemmas.Bool.Decides.{nat_tests}
use Rattle.std.proofs.lemmas.List.{append-nil}
use Rattle.taps_base.proofs.Results.{map_some}
use Rattle.taps_endpoint.specs.declared.bracketed.Bracketed.{Bracketed}
use Rattle.taps_endpoint.specs.declared.bracketed.Bracketed.TheVariants.{Outside, Inside, Closed}
use Rattle.taps_endpoint.specs.Machines.{run, Accepts, Reads}
use Rattle.taps_endpoint.specs.BracketMachine.{step_bracketed, value_bracketed}
use Rattle.taps_endpoint.specs.Ports.{IsBracketed}
use Rattle.taps_endpoint.proofs.MachineRuns.{run_on, run_first, run_one}

-- the machine inside does not go on with a `]`
pub Stops : {S : Type 0} → (S → ℕ → Option S) → Type 0
Stops {S} step = (s : S) → step s 93 ≡ None

pub stops_from : {S : Type 0} (step : S → ℕ → Option S) → ((s : S) → step s 93 ≡ None) → Stops step
unfolding Stops
stops_from step all = all

inside_step : {S A : Type 0} (step : S → ℕ → Option S) (at_end : S → Option A) (start s t : S) (b : ℕ) → Stops step → step s b ≡ Some t → step_bracketed step at_end start (Inside s) b ≡ Some (Inside t)
unfolding Stops
inside_step step at_end start s t b stops e = elim (cases_Bool (b == 93)) [
  | inl bracket ↦
      let is : b ≡ 93 = grind (arith, nat_tests) in
      let none = stops s in
      let h = rw is at e in absurd (cc)
  | inr other ↦ rw (other, e) refl
]

inside_runs : {S A : Type 0} (step : S → ℕ → Option S) (at_end : S → Option A) (start s t : S) (x y : List ℕ) → Stops step → run step s x ≡ Some t
    → run (step_bracketed step at_end start) (Inside s) (x ++ y) ≡ run (step_bracketed step at_end start) (Inside t) y
inside_runs step at_end start s t [] y stops e = let same : s ≡ t = cc in rw same refl
inside_runs step at_end start s t (b ∷ x) y stops e =
    let (u, first, rest) = run_first step s t b x e in
    rw (inside_step step at_end start s u b stops first) (inside_runs step at_end start u t x y stops rest)

close : {S A : Type 0} (step : S → ℕ → Option S) (at_end : S → Option A) (start s : S) (a : A) → at_end s ≡ Some a → run (step_bracketed step at_end start) (Inside s) (93 ∷ []) ≡ Some (Closed a)
close step at_end start s a e = rw e refl

accepts : {S A : Type 0} (IsText : A → List ℕ → Type 0) (step : S → ℕ → Option S) (at_end : S → Option A) (start : S) → Reads IsText step at_end start → Stops step
    → (value : A) (text : List ℕ) → IsBracketed IsText value text → Accepts (step_bracketed step at_end start) value_bracketed Outside text value
accepts IsText step at_end start reads stops value text is =
    let (s, runs, gives) = reads.accepts value is.inside is.is_inside in
    (Closed value, rw is.spelled (inside_runs step at_end start start s is.inside (93 ∷ []) stops runs ∙ close step at_end start s value gives), refl)

abbrev ReadSo : {S A : Type 0} → (A → List ℕ → Type 0) → (S → ℕ → Option S) → S → Bracketed S A → List ℕ → Type 0
ReadSo IsText step start Outside text = text ≡ []
ReadSo IsText step start (Inside s) text = (x : List ℕ) × (run step start x ≡ Some s) × (text ≡ 91 ∷ x)
ReadSo IsText step start (Closed a) text = IsBracketed IsText a text

next_read : {S A : Type 0} (IsText : A → List ℕ → Type 0) (step : S → ℕ → Option S) (at_end : S → Option A) (start : S) → Reads IsText step at_end start
    → (r t : Bracketed S A) (text : List ℕ) (b : ℕ) → ReadSo IsText step start r text → step_bracketed step at_end start r b ≡ Some t → ReadSo IsText step start t (text ++ b ∷ [])
next_read IsText step at_end start reads Outside t text b read e =
    let (test, same) = cond_some (b == 91) (Inside start) t e in
    let is : b ≡ 91 = grind (arith, nat_tests) in
    rw (← same) ([], refl, rw (read, is) refl)
next_read IsText step at_end start reads (Inside s) t text b (x, runs, spelled) e = elim (cases_Bool (b == 93)) [
  | inl bracket ↦
      let (a, gives, same) = map_some Closed (at_end s) t (rw bracket at e) in
      let is : b ≡ 93 = grind (arith, nat_tests) in
      rw (← same) (record { inside = x; is_inside = reads.sound a x (s, runs, gives); spelled = rw (spelled, is) refl })
  | inr other ↦
      let (u, first, same) = map_some Inside (step s b) t (rw other at e) in
      rw (← same) (x ++ b ∷ [], run_on step start s x (b ∷ []) runs ∙ (run_one step s b ∙ first), rw spelled refl)
]
next_read IsText step at_end start reads (Closed a) t text b read e = absurd (cc)

run_read : {S A : Type 0} (IsText : A → List ℕ → Type 0) (step : S → ℕ → Option S) (at_end : S → Option A) (start : S) → Reads IsText step at_end start
    → (r t : Bracketed S A) (text x : List ℕ) → ReadSo IsText step start r text → run (step_bracketed step at_end start) r x ≡ Some t → ReadSo IsText step start t (text ++ x)
run_read IsText step at_end start reads r t text [] read e = let same : r ≡ t = cc in rw (← same, append-nil text) read
run_read IsText step at_end start reads r t text (b ∷ x) read e =
    let (u, first, rest) = run_first (step_bracketed step at_end start) r t b x e in
    rw (← append_assoc text (b ∷ []) x) (run_read IsText step at_end start reads u t (text ++ b ∷ []) x (next_read IsText step at_end start reads r u text b read first) rest)

end_read : {S A : Type 0} (IsText : A → List ℕ → Type 0) (step : S → ℕ → Option S) (start : S) (r : Bracketed S A) (value : A) (text : List ℕ) → ReadSo IsText step start r text → value_bracketed r ≡ Some value → IsBracketed IsText value text
end_read IsText step start Outside value text read e = absurd (cc)
end_read IsText step start (Inside s) value text read e = absurd (cc)
end_read IsText step start (Closed a) value text read e = let is : a ≡ value = cc in rw (← is) read

completes : {S A : Type 0} (IsText : A → List ℕ → Type 0) (step : S → ℕ → Option S) (at_end : S → Option A) (start : S) → Reads IsText step at_end start
    → (text : List ℕ) (r : Bracketed S A) → ReadSo IsText step start r text → (value : A) × (rest : List ℕ) × IsBracketed IsText value (text ++ rest)
completes IsText step at_end start reads text Outside read =
    let (a, x, all) = reads.completes [] start refl in
    (a, 91 ∷ (x ++ 93 ∷ []), record { inside = x; is_inside = reads.sound a x all; spelled = rw read refl })
completes IsText step at_end start reads text (Inside s) (x, runs, spelled) =
    let (a, rest, all) = reads.completes x s runs in
    (a, rest ++ 93 ∷ [], record { inside = x ++ rest; is_inside = reads.sound a (x ++ rest) all; spelled = rw (spelled, append_assoc x rest (93 ∷ [])) refl })
completes IsText step at_end start reads text (Closed a) read = (a, [], rw (append-nil text) read)

pub reads_bracketed : {S A : Type 0} (IsText : A → List ℕ → Type 0) (step : S → ℕ → Option S) (at_end : S → Option A) (start : S) → Reads IsText step at_end start → Stops step
    → Reads (IsBracketed IsText) (step_bracketed step at_end start) value_bracketed Outside
reads_bracketed IsText step at_end start reads stops = record {
  accepts = accepts IsText step at_end start reads stops;
  sound = λ value text (r, runs, gives). end_read IsText step start r value text (run_read IsText step at_end start reads Outside r [] text refl runs) gives;
  completes = λ text r runs.
      let (value, rest, is) = completes IsText step at_end start reads text r (run_read IsText step at_end start reads Outside r [] text refl runs) in
      (value, rest, accepts IsText step at_end start reads stops value (text ++ rest) is);
}
