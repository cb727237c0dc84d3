-- What a machine that reads a grammar answers: the value of a text, or the place where it stops being one.
use Rattle.std.proofs.Common.{◌≡◌, ◌<◌, ◌≤◌, ℕ, ◌+◌, ◌-◌, List, [], ◌++◌, length, take, drop, get_or, Option, Some, None, nat_le, refl, ap, ◌∙◌, inl, inr, arith, append_assoc}
use Rattle.std.proofs.lemmas.Bool.{cases_Bool}
use Rattle.std.proofs.lemmas.Bool.Decides.{nat_tests}
use Rattle.std.proofs.lemmas.List.{take_all, append-nil}
use Rattle.std.proofs.Math.Seq.{take-add}
use Rattle.std.specs.Prelude.{Result, Ok, Err}
use Rattle.taps_endpoint.specs.Machines.{Reads, run, Accepts, Refuses, answer_of}
use Rattle.taps_endpoint.specs.Places.{IsPlace}
use Rattle.taps_endpoint.proofs.AnswerLaws.{IsAnswer}
use Rattle.taps_endpoint.proofs.MachineRuns.{run_append, run_more, Tells, tells}

-- past a stuck place no run goes on, whatever follows
stuck : {S : Type 0} (step : S → ℕ → Option S) (start s : S) (text rest : List ℕ) (place n : ℕ) → place < length text → place + 1 ≤ n
    → run step start (take place text) ≡ Some s → step s (get_or text place 0) ≡ None → run step start (take n text ++ rest) ≡ None
stuck step start s text rest place n lt past so_far none =
    let e : n ≡ (place + 1) + (n - (place + 1)) = omega arith in
    let parts : take n text ≡ take (place + 1) text ++ take (n - (place + 1)) (drop (place + 1) text) = ap (λ (k : ℕ). take k text) e ∙ take-add (place + 1) (n - (place + 1)) text in
    let stop : run step start (take (place + 1) text) ≡ None = run_more step start s text place lt so_far ∙ none in
    rw (parts, append_assoc, run_append step start (take (place + 1) text) _, stop) refl

same : {S A : Type 0} (step : S → ℕ → Option S) (at_end : S → Option A) (start : S) (text : List ℕ) (a b : A) → Accepts step at_end start text a → Accepts step at_end start text b → a ≡ b
same step at_end start text a b (s, runs, is) (t, also, it) =
    let one : s ≡ t = cc in
    let value : at_end s ≡ at_end t = ap at_end one in cc

-- a text of the grammar is not refused
refused : {S A : Type 0} (step : S → ℕ → Option S) (at_end : S → Option A) (start : S) (text : List ℕ) (place : ℕ) (a : A) → Refuses step at_end start text place → Accepts step at_end start text a → ⊥
refused step at_end start text place a stop (t, runs, is) = elim stop.no_more [
  | inl (lt, none) ↦
      let over : run step start (take (length text) text ++ []) ≡ None = stuck step start stop.state text [] place (length text) lt (omega arith) stop.so_far none in
      let whole : run step start text ≡ None = rw (append-nil, take_all (length text) text (omega arith)) at over in cc
  | inr (end, none) ↦
      let all : run step start text ≡ Some stop.state = rw (take_all place text (omega arith)) at stop.so_far in
      let one : stop.state ≡ t = cc in
      let value : at_end stop.state ≡ at_end t = ap at_end one in cc
]

-- no text of the grammar begins with more of a refused text
no_longer : {S A : Type 0} (step : S → ℕ → Option S) (at_end : S → Option A) (start : S) (text rest : List ℕ) (place n : ℕ) (a : A)
    → Refuses step at_end start text place → n ≤ length text → Accepts step at_end start (take n text ++ rest) a → n ≤ place
no_longer step at_end start text rest place n a stop le (t, runs, is) = elim stop.no_more [
  | inl (lt, none) ↦ elim (cases_Bool (nat_le n place)) [
    | inl le_place ↦ grind (arith, nat_tests)
    | inr more ↦
        let past : place + 1 ≤ n = grind (arith, nat_tests) in
        let over : run step start (take n text ++ rest) ≡ None = stuck step start stop.state text rest place n lt past stop.so_far none in absurd (cc)
  ]
  | inr (end, none) ↦ omega arith
]

place_of : {S A : Type 0} (IsText : A → List ℕ → Type 0) (step : S → ℕ → Option S) (at_end : S → Option A) (start : S) (text : List ℕ) (place : ℕ)
    → Reads IsText step at_end start → Refuses step at_end start text place → IsPlace IsText text place
place_of IsText step at_end start text place reads stop = record {
  within = elim stop.no_more [ inl (lt, none) ↦ omega arith | inr (end, none) ↦ omega arith ];
  begins = let (a, rest, all) = reads.completes (take place text) stop.state stop.so_far in (a, rest, reads.sound a (take place text ++ rest) all);
  longest = λ n le (a, rest, is). no_longer step at_end start text rest place n a stop le (reads.accepts a (take n text ++ rest) is);
}

is_answer : {S A : Type 0} (IsText : A → List ℕ → Type 0) (step : S → ℕ → Option S) (at_end : S → Option A) (start : S) (text : List ℕ) (r : Result A ℕ)
    → Reads IsText step at_end start → Tells step at_end 0 start text r → IsAnswer IsText text r
is_answer IsText step at_end start text (Ok b) reads h = record {
  found = reads.sound b text h;
  only = λ a is. ap (λ (x : _). Ok x) (same step at_end start text b a h (reads.accepts a text is));
  place = tt;
}
is_answer IsText step at_end start text (Err place) reads (more, is_more, stop) = record {
  found = tt;
  only = λ a is. absurd (refused step at_end start text more a stop (reads.accepts a text is));
  place = rw (let e : place ≡ more = omega (arith, is_more) in e) (place_of IsText step at_end start text more reads stop);
}

pub answers : {S A : Type 0} (IsText : A → List ℕ → Type 0) (step : S → ℕ → Option S) (at_end : S → Option A) (start : S) (text : List ℕ) → Reads IsText step at_end start → IsAnswer IsText text (answer_of step at_end start text)
answers IsText step at_end start text reads = is_answer IsText step at_end start text (answer_of step at_end start text) reads (tells step at_end 0 start text)
