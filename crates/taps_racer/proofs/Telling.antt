-- A list of events that are told one after another.
use Rattle.std.proofs.Common.{◌≡◌, ℕ, ◌+◌, ◌*◌, ◌<◌, ◌≤◌, Bool, true, false, List, [], ◌∷◌, ◌++◌, length, drop, get_or, if◌then◌else◌, append_assoc, append-nil, drop-cons, add-one, refl, ap, ◌∙◌, subst, inl, inr, arith}
use Rattle.taps_stack.specs.declared.target.Target.{Target}
use Rattle.taps_socket.specs.declared.item.Item.{Item}
use Rattle.taps_socket.specs.declared.race_answer.RaceAnswer.{RaceAnswer}
use Rattle.taps_socket.specs.Standing.{standing}
use Rattle.taps_socket.specs.LawfulRace.{IsOver}
use Rattle.taps_racer.specs.declared.command.Command.TheVariants.{Finish}
use Rattle.taps_racer.specs.declared.event.Told.{Told}
use Rattle.taps_racer.specs.Kept.{Kept}
use Rattle.taps_racer.specs.Commands.{command}
use Rattle.taps_racer.specs.Events.{item_of}
use Rattle.taps_racer.specs.Steps.{is_used, after, heard, heard_all, used_of}
use Rattle.taps_racer.specs.Stands.{IsRun}
use Rattle.taps_racer.specs.Telling.{with_events, AnswersNext, AreUsed, GoesOn}
use Rattle.taps_racer.proofs.StandsOn.{used_there, closes_open}
use Rattle.taps_racer.proofs.Races.{goes}
use Rattle.taps_racer.proofs.Turns.{comes_next}
use Rattle.taps_racer.proofs.RunsOn.{runs_on, used_is, rules_heard}
use Rattle.taps_racer.proofs.Few.{few_items, full_is_over}
use Rattle.taps_racer.proofs.Onces.{closes_once, leaves_once}

-- the first of the events that are left
next_told : (xs : List Told) (i : ℕ) (d : Told) → i < length xs → drop i xs ≡ get_or xs i d ∷ drop (i + 1) xs
next_told xs i d h = rw (add-one, drop-cons xs i d)

pub heard_next : (k : Kept) (xs : List Told) (i : ℕ) (d : Told) → i < length xs → heard_all (heard k (get_or xs i d)) (drop (i + 1) xs) ≡ heard_all k (drop i xs)
heard_next k xs i d h = rw (next_told xs i d h) refl

used_cons : (b : Bool) (e : Told) (used more : List Told) → (if b then used ++ e ∷ [] else used) ++ more ≡ used ++ (if b then e ∷ more else more)
used_cons true e used more = append_assoc used (e ∷ []) more
used_cons false e used more = refl

pub used_next : (k : Kept) (xs : List Told) (i : ℕ) (d : Told) (used : List Told) → i < length xs → (if is_used k (get_or xs i d) then used ++ get_or xs i d ∷ [] else used) ++ used_of (heard k (get_or xs i d)) (drop (i + 1) xs) ≡ used ++ used_of k (drop i xs)
used_next k xs i d used h = rw (next_told xs i d h) (used_cons (is_used k (get_or xs i d)) (get_or xs i d) used (used_of (heard k (get_or xs i d)) (drop (i + 1) xs)))

rules_stay : (k : Kept) (events : List Told) → (heard_all k events).rules ≡ k.rules
rules_stay k [] = refl
rules_stay k (e ∷ es) = rules_stay (heard k e) es ∙ rules_heard (is_used k e) k e refl

-- the race goes on with those that are used
ran_on : (q : Bool) (k : Kept) (first : ℕ) (t : List Item) (target : ℕ → Target) (e : Told) (es : List Told) → is_used k e ≡ q → (is_used k e ≡ true → IsRun (heard_all (after k e) es) first (with_events first target (used_of (after k e) es) (item_of first target e ∷ t))) → IsRun (heard_all k es) first (with_events first target (used_of k es) t) → IsRun (heard_all k (e ∷ es)) first (with_events first target (used_of k (e ∷ es)) t)
ran_on true k first t target e es h more same = rw h (more h)
ran_on false k first t target e es h more same = rw h same

ran_all : (k : Kept) (first : ℕ) (t : List Item) (target : ℕ → Target) (events : List Told) → IsRun k first t → IsRun (heard_all k events) first (with_events first target (used_of k events) t)
ran_all k first t target [] run = run
ran_all k first t target (e ∷ es) run = ran_on (is_used k e) k first t target e es refl (λ used. ran_all (after k e) first (item_of first target e ∷ t) target es (runs_on k first t target e run used)) (ran_all k first t target es run)

-- and those are the ones that answer
are_on : (q : Bool) (k : Kept) (first : ℕ) (t : List Item) (target : ℕ → Target) (e : Told) (es : List Told) → IsRun k first t → is_used k e ≡ q → (is_used k e ≡ true → AreUsed (after k e).rules first target (item_of first target e ∷ t) es (used_of (after k e) es)) → AreUsed k.rules first target t es (used_of k es) → AreUsed k.rules first target t (e ∷ es) (used_of k (e ∷ es))
are_on true k first t target e es run h more same =
    let rules : (after k e).rules ≡ k.rules = (rw h at (rules_heard (is_used k e) k e refl)) in
    let answer : AnswersNext k.rules t e = (command k.rules (standing t), comes_next k first t run, used_there k first t e run.stands h) in
    rw h (inl (used_of (after k e) es, refl, answer, subst (λ r. AreUsed r first target (item_of first target e ∷ t) es (used_of (after k e) es)) rules (more h)))
are_on false k first t target e es run h more same = rw h (inr (λ a. (let u = used_is k first t e a.0 run a.1 in let yes_it_is = a.2 in cc), same))

are_used : (k : Kept) (first : ℕ) (t : List Item) (target : ℕ → Target) (events : List Told) → IsRun k first t → AreUsed k.rules first target t events (used_of k events)
are_used k first t target [] run = refl
are_used k first t target (e ∷ es) run = are_on (is_used k e) k first t target e es run refl (λ used. are_used (after k e) first (item_of first target e ∷ t) target es (runs_on k first t target e run used)) (are_used k first t target es run)

long : (first : ℕ) (target : ℕ → Target) (es : List Told) (t : List Item) → length (with_events first target es t) ≡ length es + length t
long first target [] t = omega arith
long first target (e ∷ es) t = let more = long first target es (item_of first target e ∷ t) in omega arith

pub goes_on : (k : Kept) (first : ℕ) (t : List Item) (target : ℕ → Target) (events : List Told) → IsRun k first t → GoesOn k.rules (heard_all k events) first target t events (used_of k events)
goes_on k first t target events run =
    let k' = heard_all k events in
    let t' = with_events first target (used_of k events) t in
    let run' : IsRun k' first t' = ran_all k first t target events run in
    let rules : k'.rules ≡ k.rules = rules_stay k events in
    let count : length k'.rules.gaps ≡ length k.rules.gaps = ap (λ r. length r.gaps) rules in
    let size : length t' ≡ length (used_of k events) + length t = long first target (used_of k events) t in
    let few : length t' ≤ 4 * length k'.rules.gaps + 1 = few_items k'.rules t' run'.race.race_trace (goes k' first t' run') in
    record {
      used = are_used k first t target events run;
      run = run';
      same_rules = rules;
      few = omega arith;
      full = λ all. subst (λ r. (a : RaceAnswer) × IsOver r (standing t') a) rules (full_is_over k'.rules t' (command k'.rules (standing t')) run'.race.race_trace (goes k' first t' run') (omega arith) (comes_next k' first t' run') (λ s e. closes_open k'.rules t' s e));
      closes_once = closes_once t' run'.stands.rightly;
      leaves_once = leaves_once first t' run'.stands.in_order;
    }

-- a race that is over goes on with nothing
finished : (k : Kept) (first : ℕ) (t : List Item) (a : RaceAnswer) (events : List Told) → IsRun k first t → IsOver k.rules (standing t) a → (heard_all k events ≡ k) × (used_of k events ≡ [])
finished k first t a [] run over = (refl, refl)
finished k first t a (e ∷ es) run over =
    let u : is_used k e ≡ false = used_is k first t e (Finish a) run over in
    rw u (finished k first t a es run over)

pub finished_told : (k k' : Kept) (events used used' : List Told) → k' ≡ heard_all k events → used' ≡ used ++ used_of k events → (first : ℕ) (t : List Item) (a : RaceAnswer) → IsRun k first t → IsOver k.rules (standing t) a → (k' ≡ k) × (used' ≡ used)
finished_told k k' events used used' e u first t a run over = let f = finished k first t a events run over in (e ∙ f.0, u ∙ (rw f.1 (append-nil used)))
