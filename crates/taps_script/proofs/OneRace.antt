-- A lawful race that follows a script goes one way: after the same items the same item comes, and none comes once the race has its answer.
use Rattle.std.proofs.Common.{◌≡◌, ◌⊎◌, ℕ, ◌≤◌, Bool, true, false, List, [], ◌∷◌, ◌++◌, ◌+◌, length, refl, ap, sym, ◌∙◌, subst, inl, inr, arith, if◌then◌else◌}
use Rattle.std.specs.Prelude.{◌==◌, min, map, slice_get, Option, None, Some}
use Rattle.std.specs.List.{reduce}
use Rattle.std.specs.Option.{option_or}
use Rattle.std.proofs.lemmas.Bool.{eq-eqb}
use Rattle.taps_stack.specs.declared.target.Target.{Target}
use Rattle.taps_socket.specs.declared.item.Item.{Item}
use Rattle.taps_socket.specs.declared.item.Item.TheVariants as item
use Rattle.taps_socket.specs.declared.race_answer.RaceAnswer.{RaceAnswer}
use Rattle.taps_socket.specs.declared.race_answer.RaceAnswer.TheVariants as answer
use Rattle.taps_socket.specs.RaceTrace.{IsRaceTrace}
use Rattle.taps_socket.specs.RaceSockets.{has}
use Rattle.taps_socket.specs.Standing.{Standing, standing, losers}
use Rattle.taps_socket.specs.Rules.{Rules}
use Rattle.taps_socket.specs.Over.{over, failure, is_cancelled, is_timed_out, has_failed}
use Rattle.taps_socket.specs.LawfulRace.{Each, HasLeaf, HasTarget, AttemptsWhenDue, WaitsWhenNothingDue, ClosesInOrder, MayAttempt, MayWait, MayClose, IsOver, IsLawfulRace}
use Rattle.taps_socket.specs.Calls.{Call, to_begin, to_start, to_wait, to_close, request_of, items_by}
use Rattle.taps_script.specs.declared.line.Line.{Line}
use Rattle.taps_script.specs.ScriptSteps.{Follows, answer as answer_to}
use Rattle.taps_script.specs.OneRace.{GoesOneWay}
use Rattle.taps_script.proofs.RaceCalls.{call_of, of_race, items_by_call, calls_are}
use Rattle.taps_script.proofs.OneBroken.{one_broken}

-- what is fixed before a race over sockets by a script
record Course : Type 0 where
  pub lines : List Line
  pub rules : Rules
  pub first : ℕ
  pub targets : List Target
  pub earlier : List Call

-- an item may come after these
record MayCome (c : Course) (i : Item) (e : List Item) : Type 0 where
  pub trace : IsRaceTrace (i ∷ e)
  pub leaf : HasLeaf c.first i (standing e)
  pub target : HasTarget c.targets i (standing e)
  pub attempt : AttemptsWhenDue c.rules i (standing e)
  pub wait : WaitsWhenNothingDue c.rules i (standing e)
  pub close : ClosesInOrder c.rules i (standing e)
  pub answer : call_of i ≡ answer_to c.lines (map call_of e ++ c.earlier) (request_of (call_of i))

-- each item of a trace, which may be empty, may come
abbrev Goes : Course → List Item → Type 0
Goes c [] = Unit {0}
Goes c (i ∷ e) = MayCome c i e × Goes c e

-- a lawful race goes so
record IsSoFar (c : Course) (t : List Item) : Type 0 where
  pub leaves : Each (HasLeaf c.first) t
  pub targets : Each (HasTarget c.targets) t
  pub attempts : Each (AttemptsWhenDue c.rules) t
  pub waits : Each (WaitsWhenNothingDue c.rules) t
  pub closes : Each (ClosesInOrder c.rules) t
  pub answers : Follows c.lines (map call_of t ++ c.earlier)

so_far : (c : Course) (t : List Item) → Follows c.lines c.earlier → Goes c t → IsSoFar c t
so_far c [] base h = record { leaves = tt; targets = tt; attempts = tt; waits = tt; closes = tt; answers = base }
so_far c (i ∷ e) base h =
    let s = so_far c e base h.1 in
    let m = h.0 in
    record {
      leaves = (m.leaf, s.leaves);
      targets = (m.target, s.targets);
      attempts = (m.attempt, s.attempts);
      waits = (m.wait, s.waits);
      closes = (m.close, s.closes);
      answers = (m.answer, s.answers);
    }

comes : (c : Course) (i : Item) (e : List Item) → IsRaceTrace (i ∷ e) → IsSoFar c (i ∷ e) → MayCome c i e
comes c i e t s =
    record { trace = t; leaf = s.leaves.0; target = s.targets.0; attempt = s.attempts.0; wait = s.waits.0; close = s.closes.0; answer = s.answers.0 }

before : (c : Course) (i : Item) (e : List Item) → IsSoFar c (i ∷ e) → IsSoFar c e
before c i e s = record { leaves = s.leaves.1; targets = s.targets.1; attempts = s.attempts.1; waits = s.waits.1; closes = s.closes.1; answers = s.answers.1 }

goes_from : (c : Course) (t : List Item) → IsRaceTrace t → IsSoFar c t → Goes c t
goes_from c [] t s = tt
goes_from c (item.Began at ∷ e) t s = (comes c (item.Began at) e t s, subst (Goes c) (sym t) tt)
goes_from c (item.Started leaf target socket at ∷ e) t s = (comes c (item.Started leaf target socket at) e t s, goes_from c e t (before c (item.Started leaf target socket at) e s))
goes_from c (item.Refused leaf target cause at ∷ e) t s = (comes c (item.Refused leaf target cause at) e t s, goes_from c e t (before c (item.Refused leaf target cause at) e s))
goes_from c (item.Waited until at how ∷ e) t s = (comes c (item.Waited until at how) e t s, goes_from c e t (before c (item.Waited until at how) e s))
goes_from c (item.Closed socket ∷ e) t s = (comes c (item.Closed socket) e t s, goes_from c e t (before c (item.Closed socket) e s))
goes_from c (i ∷ e) t s = absurd t

goes : (c : Course) (t : List Item) (a : RaceAnswer) → IsLawfulRace c.rules c.first c.targets t a → Follows c.lines (map call_of t ++ c.earlier) → Goes c t
goes c t a h f =
    let r = h.race in
    goes_from c t r.race_trace (record { leaves = r.attempts_in_order; targets = h.targets_in_order; attempts = r.attempts_when_due; waits = r.waits_when_nothing_due; closes = r.closes_in_order; answers = f })

-- what cannot come in one place
no_second : {P : Type 0} (e : List Item) → e ≡ [] → IsRaceTrace e → P
no_second e none trace = absurd (subst IsRaceTrace none trace)

no_turn : {P : Type 0} (rules : Rules) (race : Standing) (until : ℕ) → MayAttempt rules race → MayWait rules race until → P
no_turn rules race until a w = absurd (let x : true ≡ false = sym a.due ∙ w.not_due in cc)

no_close : {P : Type 0} (rules : Rules) (race : Standing) (s : ℕ) → over rules race ≡ None → race.broken ≡ [] → MayClose (over rules race) race s → P
no_close rules race s goes_on none may =
    let broke : has race.broken s ≡ true = rw goes_on at may in
    let z : has [] s ≡ true = rw none at broke in
    absurd cc

-- the same is asked after the same items
asks_start : (leaf l : ℕ) (target t : Target) → leaf ≡ l → target ≡ t → to_start leaf target ≡ to_start l t
asks_start leaf l target t e f = ap (λ v. to_start v target) e ∙ ap (to_start l) f

same_place : (c : Course) (e : List Item) (leaf l : ℕ) (target t : Target) → leaf ≡ c.first + (standing e).attempts → l ≡ c.first + (standing e).attempts → slice_get c.targets (standing e).attempts ≡ Some target → slice_get c.targets (standing e).attempts ≡ Some t → to_start leaf target ≡ to_start l t
same_place c e leaf l target t x y u v = asks_start leaf l target t (x ∙ sym y) (let z : Some target ≡ Some t = sym u ∙ v in cc)

asks_beginning : (c : Course) (at : ℕ) (e : List Item) (y : Item) → e ≡ [] → MayCome c y e → to_begin ≡ request_of (call_of y)
asks_beginning c at e (item.Began b) none g = refl
asks_beginning c at e (item.Started leaf target socket b) none g = no_second e none g.trace
asks_beginning c at e (item.Refused leaf target cause b) none g = no_second e none g.trace
asks_beginning c at e (item.Waited until b how) none g = no_second e none g.trace
asks_beginning c at e (item.Closed socket) none g = no_second e none g.trace
asks_beginning c at e y none g = absurd g.trace

asks_attempt : (c : Course) (leaf : ℕ) (target : Target) (e : List Item) (y : Item) → IsRaceTrace e → leaf ≡ c.first + (standing e).attempts → slice_get c.targets (standing e).attempts ≡ Some target → MayAttempt c.rules (standing e) → MayCome c y e → to_start leaf target ≡ request_of (call_of y)
asks_attempt c leaf target e (item.Began b) trace place aims h g = no_second e g.trace trace
asks_attempt c leaf target e (item.Started l t s b) trace place aims h g = same_place c e leaf l target t place g.leaf aims g.target
asks_attempt c leaf target e (item.Refused l t cause b) trace place aims h g = same_place c e leaf l target t place g.leaf aims g.target
asks_attempt c leaf target e (item.Waited until b how) trace place aims h g = no_turn c.rules (standing e) until h g.wait
asks_attempt c leaf target e (item.Closed s) trace place aims h g = no_close c.rules (standing e) s h.not_over h.none_broken g.close
asks_attempt c leaf target e y trace place aims h g = absurd g.trace

asks_wait : (c : Course) (until : ℕ) (e : List Item) (y : Item) → IsRaceTrace e → MayWait c.rules (standing e) until → MayCome c y e → to_wait until ≡ request_of (call_of y)
asks_wait c until e (item.Began b) trace h g = no_second e g.trace trace
asks_wait c until e (item.Started l t s b) trace h g = no_turn c.rules (standing e) until g.attempt h
asks_wait c until e (item.Refused l t cause b) trace h g = no_turn c.rules (standing e) until g.attempt h
asks_wait c until e (item.Waited other b how) trace h g = ap to_wait (h.end ∙ sym g.wait.end)
asks_wait c until e (item.Closed s) trace h g = no_close c.rules (standing e) s h.not_over h.none_broken g.close
asks_wait c until e y trace h g = absurd g.trace

closes_one : (o : Option RaceAnswer) (race : Standing) (s other : ℕ) → ((a b : ℕ) → has race.broken a ≡ true → has race.broken b ≡ true → a ≡ b) → MayClose o race s → MayClose o race other → s ≡ other
closes_one None race s other one h g = one s other h g
closes_one (Some a) race s other one h g = let x : Some s ≡ Some other = sym h ∙ g in cc

asks_close : (c : Course) (s : ℕ) (e : List Item) (y : Item) → Follows c.lines c.earlier → IsRaceTrace e → Goes c e → MayClose (over c.rules (standing e)) (standing e) s → MayCome c y e → to_close s ≡ request_of (call_of y)
asks_close c s e (item.Began b) base trace so h g = no_second e g.trace trace
asks_close c s e (item.Started l t socket b) base trace so h g = no_close c.rules (standing e) s g.attempt.not_over g.attempt.none_broken h
asks_close c s e (item.Refused l t cause b) base trace so h g = no_close c.rules (standing e) s g.attempt.not_over g.attempt.none_broken h
asks_close c s e (item.Waited until b how) base trace so h g = no_close c.rules (standing e) s g.wait.not_over g.wait.none_broken h
asks_close c s e (item.Closed other) base trace so h g =
    let f = so_far c e base so in
    ap to_close (closes_one (over c.rules (standing e)) (standing e) s other (one_broken c.lines c.earlier c.rules e trace f.answers f.attempts f.waits) h g.close)
asks_close c s e y base trace so h g = absurd g.trace

same_request : (c : Course) (x y : Item) (e : List Item) → Follows c.lines c.earlier → Goes c e → MayCome c x e → MayCome c y e → request_of (call_of x) ≡ request_of (call_of y)
same_request c (item.Began at) y e base so h g = asks_beginning c at e y h.trace g
same_request c (item.Started leaf target socket at) y e base so h g = asks_attempt c leaf target e y h.trace h.leaf h.target h.attempt g
same_request c (item.Refused leaf target cause at) y e base so h g = asks_attempt c leaf target e y h.trace h.leaf h.target h.attempt g
same_request c (item.Waited until at how) y e base so h g = asks_wait c until e y h.trace h.wait g
same_request c (item.Closed s) y e base so h g = asks_close c s e y base h.trace so h.close g
same_request c x y e base so h g = absurd h.trace

-- so the same item comes
same_next : (c : Course) (x y : Item) (e : List Item) → Follows c.lines c.earlier → Goes c e → MayCome c x e → MayCome c y e → x ≡ y
same_next c x y e base so h g =
    let before = map call_of e ++ c.earlier in
    let calls : call_of x ≡ call_of y = h.answer ∙ ap (answer_to c.lines before) (same_request c x y e base so h g) ∙ sym g.answer in
    let one : x ∷ [] ≡ y ∷ [] = sym (items_by_call x (of_race x e h.trace)) ∙ ap items_by calls ∙ items_by_call y (of_race y e g.trace) in
    cc

-- a race that has its answer does not go on: no loser is left
never_ready : (f d t z a : Bool) (leaf socket at : ℕ) → (if f then Some answer.SocketFault else if d then Some answer.Closed else if t then Some answer.Timeout else if z then Some answer.NoCandidate else if a then Some answer.AllFailed else None) ≡ Some (answer.Ready leaf socket at) → ⊥
never_ready true d t z a leaf socket at h = cc
never_ready false true t z a leaf socket at h = cc
never_ready false false true z a leaf socket at h = cc
never_ready false false false true a leaf socket at h = cc
never_ready false false false false true leaf socket at h = cc
never_ready false false false false false leaf socket at h = cc

was_ready : (w fail : Option RaceAnswer) (leaf socket at : ℕ) → (fail ≡ Some (answer.Ready leaf socket at) → ⊥) → option_or w fail ≡ Some (answer.Ready leaf socket at) → w ≡ Some (answer.Ready leaf socket at)
was_ready None fail leaf socket at never h = absurd (never h)
was_ready (Some a) fail leaf socket at never h = h

no_loser : (rules : Rules) (race : Standing) (a : RaceAnswer) → IsOver rules race a → losers race ≡ []
no_loser rules race (answer.Ready leaf socket at) h =
    let won = was_ready race.ready (failure rules race) leaf socket at (never_ready race.faulted (is_cancelled rules race) (is_timed_out rules race) (length rules.gaps == 0) (has_failed rules race) leaf socket at) h.over in
    let opens : race.still_open ≡ socket ∷ [] = h.winner_alone in
    rw (opens, won, eq-eqb socket socket refl) refl
no_loser rules race a h = let opens : race.still_open ≡ [] = h.winner_alone in rw opens refl

not_over_yet : {P : Type 0} (rules : Rules) (race : Standing) (a : RaceAnswer) → IsOver rules race a → over rules race ≡ None → P
not_over_yet rules race a h goes_on = absurd (let x : Some a ≡ None = sym h.over ∙ goes_on in cc)

no_more_close : (rules : Rules) (race : Standing) (a : RaceAnswer) (s : ℕ) → IsOver rules race a → MayClose (over rules race) race s → ⊥
no_more_close rules race a s h may =
    let least : reduce min (losers race) ≡ Some s = rw h.over at may in
    let none : reduce min [] ≡ Some s = rw (no_loser rules race a h) at least in
    cc

no_more : (c : Course) (x : Item) (e : List Item) (a : RaceAnswer) → IsRaceTrace e → IsOver c.rules (standing e) a → MayCome c x e → ⊥
no_more c (item.Began at) e a trace h g = no_second e g.trace trace
no_more c (item.Started leaf target socket at) e a trace h g = not_over_yet c.rules (standing e) a h g.attempt.not_over
no_more c (item.Refused leaf target cause at) e a trace h g = not_over_yet c.rules (standing e) a h g.attempt.not_over
no_more c (item.Waited until at how) e a trace h g = not_over_yet c.rules (standing e) a h g.wait.not_over
no_more c (item.Closed s) e a trace h g = no_more_close c.rules (standing e) a s h g.close
no_more c x e a trace h g = g.trace

-- a trace begins another
abbrev Begins : List Item → List Item → Type 0
Begins e [] = e ≡ []
Begins e (y ∷ t) = (e ≡ y ∷ t) ⊎ Begins e t

none_begins : (t : List Item) → Begins [] t
none_begins [] = refl
none_begins (y ∷ t) = inr (none_begins t)

goes_on : (c : Course) (x : Item) (e t : List Item) → Follows c.lines c.earlier → Goes c e → MayCome c x e → Goes c t → Begins e t → Begins (x ∷ e) t ⊎ (t ≡ e)
goes_on c x e [] base so h g begins = inr (sym begins)
goes_on c x e (y ∷ t) base so h g (inl same) = inr (sym same)
goes_on c x e (y ∷ t) base so h g (inr more) =
    elim (goes_on c x e t base so h g.1 more) as (λ _. Begins (x ∷ e) (y ∷ t) ⊎ (y ∷ t ≡ e)) [
      | inl further ↦ inl (inr further)
      | inr all ↦ inl (inl (ap (λ i. i ∷ e) (same_next c x y e base so h (subst (MayCome c y) all g.0)) ∙ ap (λ r. y ∷ r) (sym all)))
    ]

begins_finished : (c : Course) (t e : List Item) (a : RaceAnswer) → Follows c.lines c.earlier → IsRaceTrace t → IsOver c.rules (standing t) a → Goes c t → Goes c e → Begins e t
begins_finished c t [] a base trace done g h = none_begins t
begins_finished c t (x ∷ e) a base trace done g h =
    elim (goes_on c x e t base h.1 h.0 g (begins_finished c t e a base trace done g h.1)) as (λ _. Begins (x ∷ e) t) [
      | inl further ↦ further
      | inr all ↦ absurd (no_more c x t a trace done (subst (MayCome c x) (sym all) h.0))
    ]

shorter : (e t : List Item) → Begins e t → length e ≤ length t
shorter e [] h = rw h (omega arith)
shorter e (y ∷ t) (inl same) = rw same (omega arith)
shorter e (y ∷ t) (inr more) = let less = shorter e t more in omega arith

as_long : (e t : List Item) → Begins e t → length t ≤ length e → e ≡ t
as_long e [] h n = h
as_long e (y ∷ t) (inl same) n = same
as_long e (y ∷ t) (inr more) n = let less = shorter e t more in absurd (omega arith)

earlier_follow : (lines : List Line) (t : List Item) (earlier : List Call) → Follows lines (map call_of t ++ earlier) → Follows lines earlier
earlier_follow lines [] earlier f = f
earlier_follow lines (i ∷ e) earlier f = earlier_follow lines e earlier f.1

one_race : (c : Course) (t u : List Item) (a b : RaceAnswer) → IsLawfulRace c.rules c.first c.targets t a → Follows c.lines (map call_of t ++ c.earlier) → IsLawfulRace c.rules c.first c.targets u b → Follows c.lines (map call_of u ++ c.earlier) → u ≡ t
one_race c t u a b h f k g =
    let base = earlier_follow c.lines t c.earlier f in
    let goes_t = goes c t a h f in
    let goes_u = goes c u b k g in
    let there = begins_finished c t u a base h.race.race_trace h.over goes_t goes_u in
    let back = begins_finished c u t b base k.race.race_trace k.over goes_u goes_t in
    as_long u t there (shorter t u back)

one_answer : (rules : Rules) (t u : List Item) (a b : RaceAnswer) → u ≡ t → IsOver rules (standing t) a → IsOver rules (standing u) b → b ≡ a
one_answer rules t u a b same h k = let x : Some b ≡ Some a = sym k.over ∙ ap (λ r. over rules (standing r)) same ∙ h.over in cc

by_items : (lines : List Line) (earlier calls : List Call) (t : List Item) → calls ≡ map call_of t → Follows lines (calls ++ earlier) → Follows lines (map call_of t ++ earlier)
by_items lines earlier calls t e f = subst (λ v. Follows lines (v ++ earlier)) e f

pub goes_one_way : (lines : List Line) → GoesOneWay lines
goes_one_way lines rules first targets earlier calls others race other answer another h k =
    let c : Course = record { lines = lines; rules = rules; first = first; targets = targets; earlier = earlier } in
    let its = calls_are calls race h.lawful.race.race_trace h.each in
    let theirs = calls_are others other k.lawful.race.race_trace k.each in
    let same = one_race c race other answer another h.lawful (by_items lines earlier calls race its h.follows) k.lawful (by_items lines earlier others other theirs k.follows) in
    (theirs ∙ (ap (map call_of) same ∙ sym its), same, one_answer rules race other answer another same h.lawful.over k.lawful.over)
