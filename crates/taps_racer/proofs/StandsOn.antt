-- A racer that stands for a trace stands after a used event for the trace with its item.
use Rattle.std.proofs.Common.{◌≡◌, ℕ, ◌+◌, ◌≤◌, Bool, true, false, not, ◌||◌, List, [], ◌∷◌, ◌++◌, map, refl, ap, sym, ◌∙◌, subst, arith, if◌then◌else◌}
use Rattle.std.specs.Prelude.{◌==◌, Option, None, Some}
use Rattle.std.proofs.lemmas.Bool.{eqb-true, leb-true, not-true}
use Rattle.std.proofs.lemmas.List.{map-append}
use Rattle.std.proofs.lemmas.List.Folds.{list_any-append}
use Rattle.taps_stack.specs.declared.target.Target.{Target}
use Rattle.taps_socket.specs.declared.cause.Cause.{Cause}
use Rattle.taps_socket.specs.declared.item.How.TheVariants as how
use Rattle.taps_socket.specs.declared.item.Item.{Item}
use Rattle.taps_socket.specs.declared.item.Item.TheVariants as item
use Rattle.taps_socket.specs.RaceTrace as traces
use Rattle.taps_socket.specs.RaceTrace.{tries}
use Rattle.taps_socket.specs.RaceSockets.{has, started, closed, broke, completed, open_sockets, pending_sockets, broken_sockets}
use Rattle.taps_socket.specs.Standing.{Standing, standing, losers}
use Rattle.taps_socket.specs.Rules.{Rules}
use Rattle.taps_socket.specs.LawfulRace.{Each, HasLeaf}
use Rattle.taps_racer.specs.declared.attempt.State.{State}
use Rattle.taps_racer.specs.declared.attempt.State.TheVariants as state
use Rattle.taps_racer.specs.declared.attempt.Attempt.TheVariants as attempt
use Rattle.taps_racer.specs.declared.command.Command.{Command}
use Rattle.taps_racer.specs.declared.command.Command.TheVariants.{Start, Wait, Close}
use Rattle.taps_racer.specs.declared.event.Told.{Told}
use Rattle.taps_racer.specs.declared.event.Told.TheVariants as told
use Rattle.taps_racer.specs.Attempts.{marked}
use Rattle.taps_racer.specs.Kept.{Kept}
use Rattle.taps_racer.specs.Commands.{command}
use Rattle.taps_racer.specs.Events.{answers, item_of}
use Rattle.taps_racer.specs.Steps.{is_used, after}
use Rattle.taps_racer.specs.Stands.{state_by, state_of, attempt_in, IsToldRightly, StandsFor}
use Rattle.taps_socket.proofs.Lists.{both, or_left, false_by, kept}
use Rattle.taps_racer.proofs.Lists.{least_has}
use Rattle.taps_racer.proofs.Choices.{says_of, closes_by}
use Rattle.taps_racer.proofs.StandsAlike.{tried, stands_alike}

-- a socket that is pending was started, and was not closed, nor completed, nor broke
pub record WasPending (t : List Item) (s : ℕ) : Type 0 where
  pub started : has (started t) s ≡ true
  pub closed : has (closed t) s ≡ false
  pub completed : has (completed t) s ≡ false
  pub broke : has (broke t) s ≡ false

not_or : (a b : Bool) → not (a || b) ≡ true → (a ≡ false) × (b ≡ false)
not_or false false h = (refl, refl)
not_or true b h = cc
not_or false true h = cc

pub was_pending : (t : List Item) (s : ℕ) → has (pending_sockets t) s ≡ true → WasPending t s
was_pending t s h =
    let k = kept (λ s. not (has (completed t) s || has (broke t) s)) (open_sockets t) s h in
    let l = kept (λ s. not (has (closed t) s)) (started t) s k.1 in
    let n = not_or _ _ k.0 in
    record { started = l.1; closed = not-true _ l.0; completed = n.0; broke = n.1 }

-- a socket that was never started is named nowhere
pub record IsUnnamed (t : List Item) (s : ℕ) : Type 0 where
  pub closed : has (closed t) s ≡ false
  pub completed : has (completed t) s ≡ false
  pub broke : has (broke t) s ≡ false

neither_of : (q b : Bool) → (q ≡ true → ⊥) → b ≡ false → (q || b) ≡ false
neither_of true b h e = absurd (h refl)
neither_of false b h e = e

unlike : (xs more : List ℕ) (x s : ℕ) → has xs s ≡ false → has xs x ≡ true → has more s ≡ false → ((x == s) || has more s) ≡ false
unlike xs more x s fresh is rest = neither_of (x == s) (has more s) (λ same. (let e : has xs s ≡ true = subst (λ v. has xs v ≡ true) (eqb-true _ _ same) is in cc)) rest

pub unnamed : (t : List Item) (s : ℕ) → Each IsToldRightly t → has (started t) s ≡ false → IsUnnamed t s
unnamed [] s h fresh = record { closed = refl; completed = refl; broke = refl }
unnamed (item.Started leaf target x at ∷ r) s h fresh =
    let n : has (started r) s ≡ false = false_by _ (λ is. (let e : has (started r ++ x ∷ []) s ≡ true = rw list_any-append (or_left _ _ is) in cc)) in
    let u = unnamed r s h.1 n in
    record { closed = u.closed; completed = u.completed; broke = u.broke }
unnamed (item.Waited until at (how.Completed x) ∷ r) s h fresh =
    let u = unnamed r s h.1 fresh in
    record { closed = u.closed; completed = unlike (started r) (completed r) x s fresh (was_pending r x h.0).started u.completed; broke = u.broke }
unnamed (item.Waited until at (how.Broke x cause) ∷ r) s h fresh =
    let u = unnamed r s h.1 fresh in
    record { closed = u.closed; completed = u.completed; broke = unlike (started r) (broke r) x s fresh (was_pending r x h.0).started u.broke }
unnamed (item.Closed x ∷ r) s h fresh =
    let u = unnamed r s h.1 fresh in
    record { closed = unlike (started r) (closed r) x s fresh (kept (λ s. not (has (closed r) s)) (started r) x h.0).1 u.closed; completed = u.completed; broke = u.broke }
unnamed (_ ∷ r) s h fresh = let u = unnamed r s h.1 fresh in record { closed = u.closed; completed = u.completed; broke = u.broke }

-- what is told of a socket changes its state alone
by_completed : (q c b d : Bool) → (q ≡ true → (c ≡ false) × (b ≡ false)) → state_by c b (q || d) ≡ (if q then state.Completed else state_by c b d)
by_completed false c b d h = refl
by_completed true c b d h = let x = h refl in rw (x.0, x.1) refl

by_broke : (q c b d : Bool) → (q ≡ true → c ≡ false) → state_by c (q || b) d ≡ (if q then state.Broken else state_by c b d)
by_broke false c b d h = refl
by_broke true c b d h = rw (h refl) refl

by_closed : (q c b d : Bool) → state_by (q || c) b d ≡ (if q then state.Closed else state_by c b d)
by_closed false c b d = refl
by_closed true c b d = refl

marks : (t t' : List Item) (s : ℕ) (new : State) → ((o : ℕ) → state_of t' o ≡ (if s == o then new else state_of t o)) → (os : List (Option ℕ)) → map (marked s new) (map (attempt_in t) os) ≡ map (attempt_in t') os
marks t t' s new e [] = refl
marks t t' s new e (None ∷ os) = ap (λ r. attempt_in t' None ∷ r) (marks t t' s new e os)
marks t t' s new e (Some o ∷ os) = rw (e o) (ap (λ r. marked s new (attempt_in t (Some o)) ∷ r) (marks t t' s new e os))

completes : (t : List Item) (until at s : ℕ) → has (pending_sockets t) s ≡ true → map (marked s state.Completed) (map (attempt_in t) (tries t)) ≡ map (attempt_in (item.Waited until at (how.Completed s) ∷ t)) (tries t)
completes t until at s pending =
    let w = was_pending t s pending in
    marks t (item.Waited until at (how.Completed s) ∷ t) s state.Completed (λ o. by_completed (s == o) (has (closed t) o) (has (broke t) o) (has (completed t) o) (λ q. subst (λ v. (has (closed t) v ≡ false) × (has (broke t) v ≡ false)) (eqb-true _ _ q) (w.closed, w.broke))) (tries t)

breaks : (t : List Item) (until at s : ℕ) (cause : Cause) → has (pending_sockets t) s ≡ true → map (marked s state.Broken) (map (attempt_in t) (tries t)) ≡ map (attempt_in (item.Waited until at (how.Broke s cause) ∷ t)) (tries t)
breaks t until at s cause pending =
    let w = was_pending t s pending in
    marks t (item.Waited until at (how.Broke s cause) ∷ t) s state.Broken (λ o. by_broke (s == o) (has (closed t) o) (has (broke t) o) (has (completed t) o) (λ q. subst (λ v. has (closed t) v ≡ false) (eqb-true _ _ q) w.closed)) (tries t)

closes : (t : List Item) (s : ℕ) → map (marked s state.Closed) (map (attempt_in t) (tries t)) ≡ map (attempt_in (item.Closed s ∷ t)) (tries t)
closes t s = marks t (item.Closed s ∷ t) s state.Closed (λ o. by_closed (s == o) (has (closed t) o) (has (broke t) o) (has (completed t) o)) (tries t)

starts : (t : List Item) (leaf : ℕ) (target : Target) (s at : ℕ) → Each IsToldRightly t → has (started t) s ≡ false → attempt_in (item.Started leaf target s at ∷ t) (Some s) ≡ attempt.Started s state.Pending
starts t leaf target s at h new = let u = unnamed t s h new in rw (u.closed, u.completed, u.broke) refl

-- an event that answers a command is told rightly, later, and carries the command's leaf
rightly : (first : ℕ) (target : ℕ → Target) (race : Standing) (c : Command) (event : Told) → answers race c event ≡ true → ((s : ℕ) → c ≡ Close s → has race.still_open s ≡ true) → IsToldRightly (item_of first target event) race
rightly first target race (Start n) (told.Started leaf s at) h opens = not-true _ (both _ _ (both _ _ h).0).1
rightly first target race (Start n) (told.Refused leaf cause at) h opens = tt
rightly first target race (Wait end) (told.Waited until at how.Reached) h opens = leb-true _ _ (both _ _ h).1
rightly first target race (Wait end) (told.Waited until at (how.Completed s)) h opens = (both _ _ h).1
rightly first target race (Wait end) (told.Waited until at (how.Broke s cause)) h opens = (both _ _ h).1
rightly first target race (Wait end) (told.Waited until at how.Faulted) h opens = tt
rightly first target race (Close x) (told.Closed s) h opens = opens s (ap Close (sym (eqb-true _ _ h)))
rightly first target race c event h opens = cc

abbrev IsLater : Standing → Told → Type 0
IsLater race (told.Started leaf s at) = race.last ≤ at
IsLater race (told.Refused leaf cause at) = race.last ≤ at
IsLater race (told.Waited until at how) = race.last ≤ at
IsLater race (told.Closed s) = Unit {0}

later : (race : Standing) (c : Command) (event : Told) → answers race c event ≡ true → IsLater race event
later race (Start n) (told.Started leaf s at) h = leb-true _ _ (both _ _ (both _ _ h).1).0
later race (Start n) (told.Refused leaf cause at) h = leb-true _ _ (both _ _ (both _ _ h).1).0
later race (Wait end) (told.Waited until at how) h = leb-true _ _ (both _ _ (both _ _ (both _ _ h).0).1).0
later race (Close x) (told.Closed s) h = tt
later race c event h = cc

numbered : (first : ℕ) (target : ℕ → Target) (race : Standing) (c : Command) (event : Told) → answers race c event ≡ true → ((n : ℕ) → c ≡ Start n → n ≡ race.attempts) → HasLeaf first (item_of first target event) race
numbered first target race (Start n) (told.Started leaf s at) h next = ap (λ v. first + v) (eqb-true _ _ (both _ _ (both _ _ h).0).0 ∙ next n refl)
numbered first target race (Start n) (told.Refused leaf cause at) h next = ap (λ v. first + v) (eqb-true _ _ (both _ _ h).0 ∙ next n refl)
numbered first target race (Wait end) (told.Waited until at how) h next = tt
numbered first target race (Close x) (told.Closed s) h next = tt
numbered first target race c event h next = cc

-- a socket that is to be closed is open
pub closes_open : (rules : Rules) (t : List Item) (s : ℕ) → command rules (standing t) ≡ Close s → has (open_sockets t) s ≡ true
closes_open rules t s e =
    closes_by _ _ _ _ _ _ s (says_of rules (standing t) (Close s) e)
    (λ b. (kept (has (broke t)) (open_sockets t) s (least_has (broken_sockets t) s b)).1)
    (λ l. (kept _ (open_sockets t) s (least_has (losers (standing t)) s l)).1)

-- what a used event is by the trace
pub used_there : (k : Kept) (first : ℕ) (t : List Item) (event : Told) → StandsFor k first t → is_used k event ≡ true → answers (standing t) (command k.rules (standing t)) event ≡ true
used_there k first t event h used = subst (λ race. answers race (command k.rules race) event ≡ true) (stands_alike k first t h) used

-- the parts that do not depend on what is kept
record TellsRightly (first : ℕ) (target : ℕ → Target) (t : List Item) (event : Told) : Type 0 where
  pub leaf : HasLeaf first (item_of first target event) (standing t)
  pub rightly : IsToldRightly (item_of first target event) (standing t)
  pub later : IsLater (standing t) event

tells_rightly : (k : Kept) (first : ℕ) (t : List Item) (target : ℕ → Target) (event : Told) → StandsFor k first t → is_used k event ≡ true → TellsRightly first target t event
tells_rightly k first t target event h used =
    let u = used_there k first t event h used in
    let race = standing t in
    let c = command k.rules race in
    record {
      leaf = numbered first target race c event u (λ n e. (says_of k.rules race (Start n) e).3);
      rightly = rightly first target race c event u (λ s e. closes_open k.rules t s e);
      later = later race c event u;
    }

pub stands_on : (k : Kept) (first : ℕ) (t : List Item) (target : ℕ → Target) (event : Told) → StandsFor k first t → is_used k event ≡ true → StandsFor (after k event) first (item_of first target event ∷ t)
stands_on k first t target (told.Started leaf s at) h used =
    let r = tells_rightly k first t target (told.Started leaf s at) h used in
    let l : traces.last_moment t ≤ at = r.later in
    record {
      begun = h.begun;
      last = omega arith;
      last_attempt = refl;
      faulted = h.faulted;
      ready = h.ready;
      attempts = rw (h.attempts, map-append, starts t (first + leaf) (target leaf) s at h.rightly r.rightly) refl;
      in_order = (r.leaf, h.in_order);
      rightly = (r.rightly, h.rightly);
    }
stands_on k first t target (told.Refused leaf cause at) h used =
    let r = tells_rightly k first t target (told.Refused leaf cause at) h used in
    let l : traces.last_moment t ≤ at = r.later in
    record {
      begun = h.begun;
      last = omega arith;
      last_attempt = refl;
      faulted = h.faulted;
      ready = h.ready;
      attempts = rw (h.attempts, map-append) refl;
      in_order = (r.leaf, h.in_order);
      rightly = (tt, h.rightly);
    }
stands_on k first t target (told.Closed s) h used =
    let r = tells_rightly k first t target (told.Closed s) h used in
    record {
      begun = h.begun;
      last = rw h.last (omega arith);
      last_attempt = h.last_attempt;
      faulted = h.faulted;
      ready = h.ready;
      attempts = rw h.attempts (closes t s);
      in_order = (tt, h.in_order);
      rightly = (r.rightly, h.rightly);
    }
stands_on k first t target (told.Waited until at how.Reached) h used =
    let r = tells_rightly k first t target (told.Waited until at how.Reached) h used in
    let l : traces.last_moment t ≤ at = r.later in
    record { begun = h.begun; last = omega arith; last_attempt = h.last_attempt; faulted = h.faulted; ready = h.ready; attempts = h.attempts; in_order = (tt, h.in_order); rightly = (r.rightly, h.rightly) }
stands_on k first t target (told.Waited until at how.Faulted) h used =
    let r = tells_rightly k first t target (told.Waited until at how.Faulted) h used in
    let l : traces.last_moment t ≤ at = r.later in
    record { begun = h.begun; last = omega arith; last_attempt = h.last_attempt; faulted = refl; ready = h.ready; attempts = h.attempts; in_order = (tt, h.in_order); rightly = (tt, h.rightly) }
stands_on k first t target (told.Waited until at (how.Completed s)) h used =
    let r = tells_rightly k first t target (told.Waited until at (how.Completed s)) h used in
    let l : traces.last_moment t ≤ at = r.later in
    record {
      begun = h.begun;
      last = omega arith;
      last_attempt = h.last_attempt;
      faulted = h.faulted;
      ready = rw (h.ready, h.attempts, tried t (tries t)) refl;
      attempts = rw h.attempts (completes t until at s r.rightly);
      in_order = (tt, h.in_order);
      rightly = (r.rightly, h.rightly);
    }
stands_on k first t target (told.Waited until at (how.Broke s cause)) h used =
    let r = tells_rightly k first t target (told.Waited until at (how.Broke s cause)) h used in
    let l : traces.last_moment t ≤ at = r.later in
    record {
      begun = h.begun;
      last = omega arith;
      last_attempt = h.last_attempt;
      faulted = h.faulted;
      ready = h.ready;
      attempts = rw h.attempts (breaks t until at s cause r.rightly);
      in_order = (tt, h.in_order);
      rightly = (r.rightly, h.rightly);
    }
