-- Runs of a machine over a text and its fronts.
use Rattle.std.proofs.Common.{◌≡◌, ◌<◌, ◌≤◌, ℕ, suc, ◌+◌, List, [], ◌∷◌, ◌++◌, length, take, drop, get_or, Option, Some, None, Result, Ok, Err, refl, ap, inl, inr, arith}
use Rattle.std.specs.Option.{option_and_then, ok_or}
use Rattle.std.proofs.lemmas.List.{take_more, drop_more, drop_all}
use Rattle.taps_endpoint.specs.Machines.{run, Accepts, Refuses, answer_on, answer_from}

under : {S : Type 0} (step : S → ℕ → Option S) (p q : List ℕ) (o : Option S) → ((t : S) → run step t (p ++ q) ≡ option_and_then (λ u. run step u q) (run step t p))
    → option_and_then (λ t. run step t (p ++ q)) o ≡ option_and_then (λ u. run step u q) (option_and_then (λ t. run step t p) o)
under step p q None ih = refl
under step p q (Some t) ih = ih t

-- a run over two parts
pub run_append : {S : Type 0} (step : S → ℕ → Option S) (s : S) (p q : List ℕ) → run step s (p ++ q) ≡ option_and_then (λ t. run step t q) (run step s p)
run_append step s [] q = refl
run_append step s (b ∷ p) q = under step p q (step s b) (λ t. run_append step t p q)

-- a run goes on from where it has come
pub run_on : {S : Type 0} (step : S → ℕ → Option S) (s t : S) (p q : List ℕ) → run step s p ≡ Some t → run step s (p ++ q) ≡ run step t q
run_on step s t p q so_far = rw (run_append step s p q, so_far) refl

and_some : {S : Type 0} (o : Option S) → option_and_then (λ t. Some t) o ≡ o
and_some None = refl
and_some (Some t) = refl

pub run_one : {S : Type 0} (step : S → ℕ → Option S) (s : S) (b : ℕ) → run step s (b ∷ []) ≡ step s b
run_one step s b = and_some (step s b)

pub run_more : {S : Type 0} (step : S → ℕ → Option S) (start s : S) (text : List ℕ) (i : ℕ) → i < length text → run step start (take i text) ≡ Some s → run step start (take (i + 1) text) ≡ step s (get_or text i 0)
run_more step start s text i lt so_far = rw (take_more text i 0 lt, run_on step start s (take i text) (get_or text i 0 ∷ []) so_far) (run_one step s (get_or text i 0))

-- a step that succeeded after another: both succeeded
pub then_some : {A B : Type 0} (f : A → Option B) (o : Option A) (y : B) → option_and_then f o ≡ Some y → (x : A) × (o ≡ Some x) × (f x ≡ Some y)
then_some f None y e = absurd (cc)
then_some f (Some x) y e = (x, refl, e)

-- the first step of a run
pub run_first : {S : Type 0} (step : S → ℕ → Option S) (s t : S) (b : ℕ) (x : List ℕ) → run step s (b ∷ x) ≡ Some t → (u : S) × (step s b ≡ Some u) × (run step u x ≡ Some t)
run_first step s t b x e = then_some (λ u. run step u x) (step s b) t e

-- What a machine answers, byte by byte.

-- the answer over the rest of a text, at one more byte of it or at its end
pub record AnswerSteps {S A : Type 0} (step : S → ℕ → Option S) (at_end : S → Option A) (s : S) (text : List ℕ) (i : ℕ) : Type 0 where
  pub more : (t : S) → i < length text → step s (get_or text i 0) ≡ Some t → answer_from step at_end i s (drop i text) ≡ answer_from step at_end (i + 1) t (drop (i + 1) text)
  pub stops : i < length text → step s (get_or text i 0) ≡ None → answer_from step at_end i s (drop i text) ≡ Err i
  pub ends : length text ≤ i → answer_from step at_end i s (drop i text) ≡ ok_or (at_end s) i

pub answer_steps : {S A : Type 0} (step : S → ℕ → Option S) (at_end : S → Option A) (s : S) (text : List ℕ) (i : ℕ) → AnswerSteps step at_end s text i
unfolding answer_from
answer_steps step at_end s text i = record {
  more = λ t lt h. rw (drop_more text i 0 lt, h) refl;
  stops = λ lt h. rw (drop_more text i 0 lt, h) refl;
  ends = λ le. rw (drop_all i text le) refl;
}

-- what an answer says of the rest of a text, of which so many bytes were read
abbrev pub Tells : {S A : Type 0} → (S → ℕ → Option S) → (S → Option A) → ℕ → S → List ℕ → Result A ℕ → Type 0
Tells step at_end i s text (Ok value) = Accepts step at_end s text value
Tells step at_end i s text (Err place) = (more : ℕ) × (place ≡ i + more) × Refuses step at_end s text more

tells_at_end : {S A : Type 0} (step : S → ℕ → Option S) (at_end : S → Option A) (i : ℕ) (s : S) (o : Option A) → at_end s ≡ o → Tells step at_end i s [] (ok_or o i)
tells_at_end step at_end i s None e = (0, omega arith, record { state = s; so_far = refl; no_more = inr (refl, e) })
tells_at_end step at_end i s (Some a) e = (s, refl, e)

tells_behind : {S A : Type 0} (step : S → ℕ → Option S) (at_end : S → Option A) (i : ℕ) (s t : S) (b : ℕ) (x : List ℕ) (r : Result A ℕ) → step s b ≡ Some t → Tells step at_end (i + 1) t x r → Tells step at_end i s (b ∷ x) r
tells_behind step at_end i s t b x (Ok value) e (u, runs, is) = (u, rw e runs, is)
tells_behind step at_end i s t b x (Err place) e (more, same, stop) = (
  suc more,
  omega (arith, same),
  record {
    state = stop.state;
    so_far = rw e stop.so_far;
    no_more = elim stop.no_more [ inl (lt, none) ↦ inl (omega arith, none) | inr (end, none) ↦ inr (ap suc end, none) ];
  },
)

tells_step : {S A : Type 0} (step : S → ℕ → Option S) (at_end : S → Option A) (i : ℕ) (s : S) (b : ℕ) (x : List ℕ) (o : Option S) → step s b ≡ o → ((t : S) → Tells step at_end (i + 1) t x (answer_from step at_end (i + 1) t x))
    → Tells step at_end i s (b ∷ x) (answer_on (λ t. answer_from step at_end (i + 1) t x) i o)
tells_step step at_end i s b x None e ih = (0, omega arith, record { state = s; so_far = refl; no_more = inl (omega arith, e) })
tells_step step at_end i s b x (Some t) e ih = tells_behind step at_end i s t b x (answer_from step at_end (i + 1) t x) e (ih t)

pub tells : {S A : Type 0} (step : S → ℕ → Option S) (at_end : S → Option A) (i : ℕ) (s : S) (text : List ℕ) → Tells step at_end i s text (answer_from step at_end i s text)
unfolding answer_from
tells step at_end i s [] = tells_at_end step at_end i s (at_end s) refl
tells step at_end i s (b ∷ x) = tells_step step at_end i s b x (step s b) refl (λ t. tells step at_end (i + 1) t x)
