-- A race over sockets begins with the moment, and what is under way is carried out where the racer is at its end.
use Rattle.std.proofs.Common.{◌≡◌, ℕ, zero, suc, ◌+◌, ◌-◌, ◌*◌, ◌<◌, ◌≤◌, Bool, true, false, ◌||◌, List, [], ◌∷◌, ◌++◌, length, add-one, refl, ap, sym, ◌∙◌, subst, inl, inr, arith, if◌then◌else◌}
use Rattle.std.specs.Prelude.{◌==◌, slice_get, Option, Some, None}
use Rattle.std.specs.List.{filter_map}
use Rattle.std.specs.Option.{option_or}
use Rattle.std.proofs.lemmas.Bool.{eqb-true, eq-eqb}
use Rattle.std.proofs.lemmas.Option.{slice_get_within}
use Rattle.std.proofs.lemmas.List.Folds.{list_any-append}
use Rattle.taps_stack.specs.declared.target.Target.{Target}
use Rattle.taps_socket.specs.declared.item.How.TheVariants as how
use Rattle.taps_socket.specs.declared.item.Item.{Item}
use Rattle.taps_socket.specs.declared.item.Item.TheVariants as item
use Rattle.taps_socket.specs.declared.race_answer.RaceAnswer.{RaceAnswer}
use Rattle.taps_socket.specs.declared.race_answer.RaceAnswer.TheVariants as answer
use Rattle.taps_socket.specs.RaceTrace.{IsRaceTrace, tries, has_fault}
use Rattle.taps_socket.specs.RaceSockets.{has, started, completed, closed, open_sockets, pending_sockets}
use Rattle.taps_socket.specs.LiveSockets.{live_sockets, named}
use Rattle.taps_socket.specs.Sides.{target_of, may_send, may_receive}
use Rattle.taps_socket.proofs.NamedSockets.{closed_named}
use Rattle.taps_socket.specs.Winner.{ready, place_of}
use Rattle.taps_socket.specs.Once.{IsOnce}
use Rattle.taps_socket.specs.Standing.{standing}
use Rattle.taps_socket.specs.Rules.{Rules}
use Rattle.taps_socket.specs.Over.{over, failure}
use Rattle.taps_socket.specs.LawfulRace.{Each, WinnerAlone, IsOver, IsLawfulRace}
use Rattle.taps_socket.specs.Net.{Net, with_item, with_spare, IsUnused}
use Rattle.taps_socket.proofs.Traffic.{by_item, by_spare, preserved_on}
use Rattle.taps_racer.specs.declared.command.Command.TheVariants.{Finish}
use Rattle.taps_racer.specs.Kept.{Kept, standing_of}
use Rattle.taps_racer.specs.Commands.{command_of}
use Rattle.taps_racer.specs.Stands.{IsToldRightly, IsRun}
use Rattle.taps_racer.specs.CarriedOut.{HasAnswer, NamesWinner, IsCarriedOut, HasCarriedOut}
use Rattle.taps_racer.specs.UnderWay.{IsUnderWay, UnderWay}
use Rattle.taps_socket.proofs.Lists.{either, or_left, or_right, false_by, kept}
use Rattle.taps_racer.proofs.Choices.{says_of}
use Rattle.taps_racer.proofs.StandsAlike.{tried_started}
use Rattle.taps_racer.proofs.StandsOn.{was_pending, unnamed}
use Rattle.taps_racer.proofs.Races.{before, goes, pending_open, open_parts, winner_open}
use Rattle.taps_racer.proofs.Few.{few_items, few_attempts}
use Rattle.taps_racer.proofs.Onces.{closes_once}
use Rattle.taps_racer.proofs.Stretches.{completed-append, closed-append, neither_in, opens_live, live_opens, same_bool}
use Rattle.taps_racer.proofs.Winners.{named_started, aimed, both_ways}
use Rattle.taps_racer.proofs.UnderWay.{next_is, pending_there}

pub begins : (k : Kept) (rules : Rules) (first : ℕ) (targets : List Target) (before now : Net) (at : ℕ) → ((first : ℕ) → IsRun k first (item.Began at ∷ [])) → k.rules ≡ rules → length rules.gaps ≡ length targets → pending_sockets before.trace ≡ [] → 4 * length targets + 1 ≤ before.spare → now ≡ with_item before (item.Began at) at → UnderWay k rules first targets before now
begins k rules first targets before now at run rules_are leaves idle room now_is =
    let lower : now.spare ≡ before.spare - 1 = ap (λ n. n.spare) now_is in
    let same : now.faults ≡ before.faults = ap (λ n. n.faults) now_is in
    let last = (run first).stands.last in (
      item.Began at ∷ [],
      record {
        items = ap (λ n. n.trace) now_is;
        run = run first;
        targets_in_order = (tt, tt);
        same_rules = rules_are;
        leaves = leaves;
        told_last = ap (λ n. n.told) now_is ∙ (let e : at ≡ k.last = omega arith in e);
        new_sockets = λ s h. (let z : false ≡ true = h in cc);
        unused = λ s h. (let z : false ≡ true = h in cc);
        preserved = by_item before now (item.Began at) at now_is;
        idle = idle;
        room = omega arith;
        lowered = omega arith;
        counted = omega arith;
        fault = λ h. (let z : false ≡ true = h in cc);
      },
    )

-- a race that did not complete is over with no winner, and with a fault only where a wait was faulted
abbrev Fails : Bool → RaceAnswer → Type 0
Fails faulted (answer.Ready leaf socket at) = ⊥
Fails faulted answer.SocketFault = faulted ≡ true
Fails faulted _ = Unit {0}

fails : (f c t z d : Bool) (a : RaceAnswer) → (if f then Some answer.SocketFault else if c then Some answer.Closed else if t then Some answer.Timeout else if z then Some answer.NoCandidate else if d then Some answer.AllFailed else None) ≡ Some a → Fails f a
fails true c t z d a e = let s : answer.SocketFault ≡ a = cc in subst (Fails true) s refl
fails false true t z d a e = let s : answer.Closed ≡ a = cc in subst (Fails false) s tt
fails false false true z d a e = let s : answer.Timeout ≡ a = cc in subst (Fails false) s tt
fails false false false true d a e = let s : answer.NoCandidate ≡ a = cc in subst (Fails false) s tt
fails false false false false true a e = let s : answer.AllFailed ≡ a = cc in subst (Fails false) s tt
fails false false false false false a e = cc

-- the answer is the first completion, or else why the race failed
ends_by : {P : Type 0} (w f : Option RaceAnswer) (a : RaceAnswer) → option_or w f ≡ Some a → (w ≡ Some a → P) → (w ≡ None → f ≡ Some a → P) → P
ends_by (Some b) f a e won failed = won e
ends_by None f a e won failed = failed refl e

-- an attempt stays at its place
stays : {X : Type 0} (xs ys : List X) (k : ℕ) (x : X) → slice_get xs k ≡ Some x → slice_get (xs ++ ys) k ≡ Some x
stays [] ys k x h = cc
stays (y ∷ xs) ys zero x h = h
stays (y ∷ xs) ys (suc k) x h = stays xs ys k x h

-- the first place of a socket that was started
found_by : (q : Bool) (x s : ℕ) (os : List (Option ℕ)) → (x == s) ≡ q → (has (filter_map (λ o. o) os) s ≡ true → slice_get os (place_of s os) ≡ Some (Some s)) → (q || has (filter_map (λ o. o) os) s) ≡ true → slice_get (Some x ∷ os) (if q then 0 else place_of s os + 1) ≡ Some (Some s)
found_by true x s os e more h = ap (λ v. Some (Some v)) (eqb-true x s e)
found_by false x s os e more h = rw add-one (more h)

found : (os : List (Option ℕ)) (s : ℕ) → has (filter_map (λ o. o) os) s ≡ true → slice_get os (place_of s os) ≡ Some (Some s)
found [] s h = cc
found (None ∷ os) s h = rw add-one (found os s h)
found (Some x ∷ os) s h = found_by (x == s) x s os refl (found os s) h

-- the first completion is that of an attempt's socket
record IsFirst (t : List Item) (leaf s : ℕ) : Type 0 where
  pub attempt : slice_get (tries t) leaf ≡ Some (Some s)
  pub done : has (completed t) s ≡ true

abbrev FirstIs : List Item → RaceAnswer → Type 0
FirstIs t (answer.Ready leaf s at) = IsFirst t leaf s
FirstIs t _ = ⊥

still_first : (t t' : List Item) (a : RaceAnswer) → ((leaf s : ℕ) → IsFirst t leaf s → IsFirst t' leaf s) → FirstIs t a → FirstIs t' a
still_first t t' (answer.Ready leaf s at) more h = more leaf s h
still_first t t' answer.NoCandidate more h = h
still_first t t' answer.AllFailed more h = h
still_first t t' answer.Timeout more h = h
still_first t t' answer.Closed more h = h
still_first t t' answer.SocketFault more h = h

first_is : (t : List Item) (a : RaceAnswer) → Each IsToldRightly t → ready t ≡ Some a → FirstIs t a
first_is [] a h e = cc
first_is (item.Started leaf target x at ∷ r) a h e =
    still_first r (item.Started leaf target x at ∷ r) a (λ leaf s f. record { attempt = stays (tries r) (Some x ∷ []) leaf (Some s) f.attempt; done = f.done }) (first_is r a h.1 e)
first_is (item.Refused leaf target cause at ∷ r) a h e =
    still_first r (item.Refused leaf target cause at ∷ r) a (λ leaf s f. record { attempt = stays (tries r) (None ∷ []) leaf (Some s) f.attempt; done = f.done }) (first_is r a h.1 e)
first_is (item.Waited until at (how.Completed x) ∷ r) a h e =
    ends_by (ready r) (Some (answer.Ready (place_of x (tries r)) x at)) a e
    (λ won. still_first r (item.Waited until at (how.Completed x) ∷ r) a (λ leaf s f. record { attempt = f.attempt; done = or_right (x == s) _ f.done }) (first_is r a h.1 won))
    (λ _ new. (let same : answer.Ready (place_of x (tries r)) x at ≡ a = cc in
    let own : has (filter_map (λ o. o) (tries r)) x ≡ true = rw tried_started (was_pending r x h.0).started in
    subst (FirstIs (item.Waited until at (how.Completed x) ∷ r)) same (record { attempt = found (tries r) x own; done = or_left _ _ (eq-eqb x x refl) })))
first_is (i ∷ r) a h e = still_first r (i ∷ r) a (λ leaf s f. record { attempt = f.attempt; done = f.done }) (first_is r a h.1 e)

winner_first : (k : Kept) (first : ℕ) (t : List Item) (leaf s at : ℕ) → IsRun k first t → over k.rules (standing t) ≡ Some (answer.Ready leaf s at) → (ready t ≡ Some (answer.Ready leaf s at)) × IsFirst t leaf s
winner_first k first t leaf s at run e =
    let won : ready t ≡ Some (answer.Ready leaf s at) = ends_by (ready t) (failure k.rules (standing t)) (answer.Ready leaf s at) e (λ w. w) (λ _ f. absurd (fails _ _ _ _ _ _ f)) in
    (won, first_is t (answer.Ready leaf s at) run.stands.rightly won)

-- the winner over all of the trace
names_winner : (k : Kept) (rules : Rules) (first : ℕ) (targets : List Target) (before now : Net) (t : List Item) (a : RaceAnswer) → IsUnderWay k rules first targets before now t → over k.rules (standing t) ≡ Some a → NamesWinner targets t now.trace a
names_winner k rules first targets before now t (answer.Ready leaf s at) u e =
    let (won, f) = winner_first k first t leaf s at u.run e in
    let own = winner_open k.rules t s (goes k first t u.run) (rw won (eq-eqb s s refl)) in
    let within : leaf < length (tries t) = slice_get_within (tries t) leaf (Some s) f.attempt in
    let few = few_attempts k.rules t (goes k first t u.run) in
    let leaves : length k.rules.gaps ≡ length targets = ap (λ r. length r.gaps) u.same_rules ∙ u.leaves in
    let race = u.run.race.race_trace in
    let new = u.new_sockets s (open_parts t s own).1 in
    let live = opens_live t before.trace s race new own in
    let done : has (completed (t ++ before.trace)) s ≡ true = rw (completed-append, list_any-append) (or_left _ _ f.done) in
    let ways = both_ways t before.trace s race new live done in
    record {
      listed = omega arith;
      attempt = f.attempt;
      live = rw u.items live;
      done = rw u.items done;
      target = ap (λ r. target_of r s) u.items ∙ aimed targets t before.trace leaf s race u.run.stands.rightly u.targets_in_order f.attempt;
      sends = ap (λ r. may_send r s) u.items ∙ ways.sends;
      receives = ap (λ r. may_receive r s) u.items ∙ ways.receives;
    }
names_winner k rules first targets before now t a u e = tt

-- a fault is that of a wait
is_fault : (f : Bool) → Fails f answer.SocketFault → f ≡ true
is_fault f h = h

was_fault : (k : Kept) (first : ℕ) (t : List Item) → IsRun k first t → over k.rules (standing t) ≡ Some answer.SocketFault → has_fault t ≡ true
was_fault k first t run e = ends_by (ready t) (failure k.rules (standing t)) answer.SocketFault e (λ w. absurd (first_is t answer.SocketFault run.stands.rightly w)) (λ _ f. is_fault (has_fault t) (fails (has_fault t) _ _ _ _ answer.SocketFault f))

-- where the race is over no socket is pending
none_pending : (t : List Item) (a : RaceAnswer) (s : ℕ) → ((leaf x at : ℕ) → a ≡ answer.Ready leaf x at → has (completed t) x ≡ true) → WinnerAlone a (open_sockets t) → has (pending_sockets t) s ≡ true → ⊥
none_pending t (answer.Ready leaf x at) s done alone h =
    let o : has (x ∷ []) s ≡ true = rw alone at (pending_open t s h) in
    let c : has (completed t) s ≡ false = (was_pending t s h).completed in
    elim (either (x == s) false o) as (λ _. ⊥) [
      | inl same ↦ (let d : has (completed t) s ≡ true = subst (λ v. has (completed t) v ≡ true) (eqb-true x s same) (done leaf x at refl) in cc)
      | inr none ↦ cc
    ]
none_pending t a s done alone h = let o : has [] s ≡ true = rw alone at (pending_open t s h) in cc

empty : (xs : List ℕ) → ((s : ℕ) → has xs s ≡ true → ⊥) → xs ≡ []
empty [] h = refl
empty (x ∷ xs) h = absurd (h x (or_left _ _ (eq-eqb x x refl)))

-- no socket is closed twice in the whole trace
once_both : (xs ys : List ℕ) → IsOnce xs → IsOnce ys → ((s : ℕ) → has xs s ≡ true → has ys s ≡ false) → IsOnce (xs ++ ys)
once_both [] ys hx hy apart = hy
once_both (x ∷ xs) ys hx hy apart =
    (neither_in xs ys x hx.0 (apart x (or_left _ _ (eq-eqb x x refl))), once_both xs ys hx.1 hy (λ s h. apart s (or_right (x == s) _ h)))

closed_started : (t : List Item) (s : ℕ) → Each IsToldRightly t → has (closed t) s ≡ true → has (started t) s ≡ true
closed_started t s told h = by_started (has (started t) s) refl
  where
    by_started : (q : Bool) → has (started t) s ≡ q → q ≡ true
    by_started true e = refl
    by_started false e = (let u = (unnamed t s told e).closed in cc)

-- the race names only sockets that it started
started_by : (t b : List Item) (s : ℕ) → IsRaceTrace t → Each IsToldRightly t → ((s : ℕ) → has (started t) s ≡ true → has (named b) s ≡ false) → has (named t) s ≡ true → has (named b) s ≡ false
started_by t b s race told new h = new s (named_started t s race told h)

ends_so : (k : Kept) (rules : Rules) (first : ℕ) (targets : List Target) (before now : Net) (t : List Item) (a : RaceAnswer) → command_of k ≡ Finish a → IsUnderWay k rules first targets before now t → IsCarriedOut rules first targets before now t a
ends_so k rules first targets before now t a asked u =
    let race = u.run.race in
    let told = u.run.stands.rightly in
    let over : IsOver k.rules (standing t) a = next_is k rules first targets before now t (Finish a) u asked in
    let leaves : length k.rules.gaps ≡ length targets = ap (λ r. length r.gaps) u.same_rules ∙ u.leaves in
    let few = few_items k.rules t race.race_trace (goes k first t u.run) in
    record {
      items = u.items;
      lawful = subst (λ r. IsLawfulRace r first targets t a) u.same_rules (record { race = race; targets_in_order = u.targets_in_order; over = over });
      few = omega arith;
      room = u.lowered;
      told_last = u.told_last ∙ u.run.stands.last;
      winner = names_winner k rules first targets before now t a u over.over;
      own = λ s h. subst (λ r. has (live_sockets r) s ≡ has (open_sockets t) s) (sym u.items) (same_bool _ _ (live_opens t before.trace s h) (opens_live t before.trace s race.race_trace (u.new_sockets s h)));
      new_sockets = λ s h. started_by t before.trace s race.race_trace told u.new_sockets h;
      unused = λ s h. subst (λ f. IsUnused (f s)) (sym (ap (λ n. n.traffic) u.preserved)) (u.unused s h);
      preserved = u.preserved;
      idle = empty _ (λ s h. none_pending t a s (λ leaf x at e. (winner_first k first t leaf x at u.run (over.over ∙ ap Some e)).1.done) over.winner_alone (pending_there t before.trace s u.idle (rw u.items at h)));
      closed_once = λ h. rw (u.items, closed-append) (once_both (closed t) (closed before.trace) (closes_once t told) h (λ s own. false_by _ (λ e. (let z = u.new_sockets s (closed_started t s told own) in let y = closed_named before.trace s e in cc))));
      counted = u.counted;
      fault = λ e. u.fault (was_fault k first t u.run (over.over ∙ ap Some e));
    }

has_answer : (k : Kept) (a : RaceAnswer) → command_of k ≡ Finish a → HasAnswer k a
has_answer k a e = (says_of k.rules (standing_of k) (Finish a) e).0

pub carried_out : (k k' : Kept) (rules : Rules) (first : ℕ) (targets : List Target) (before now : Net) (a : RaceAnswer) → command_of k ≡ Finish a → k' ≡ k → UnderWay k rules first targets before now → HasCarriedOut rules first targets before now k'
carried_out k k' rules first targets before now a asked same under =
    subst (HasCarriedOut rules first targets before now) (sym same) (under.0, a, has_answer k a asked, ends_so k rules first targets before now under.0 a asked under.1)

-- and so it is from before more room was made
reserved_so : (rules : Rules) (first : ℕ) (targets : List Target) (before mid now : Net) (t : List Item) (a : RaceAnswer) → mid ≡ with_spare before mid.spare → before.spare ≤ mid.spare → IsCarriedOut rules first targets mid now t a → IsCarriedOut rules first targets before now t a
reserved_so rules first targets before mid now t a mid_is kept c =
    let same : mid.trace ≡ before.trace = ap (λ n. n.trace) mid_is in
    let faults : mid.faults ≡ before.faults = ap (λ n. n.faults) mid_is in
    let room = c.room in
    let counted = c.counted in
    record {
      items = c.items ∙ ap (λ r. t ++ r) same;
      lawful = c.lawful;
      few = c.few;
      room = omega arith;
      told_last = c.told_last;
      winner = c.winner;
      own = c.own;
      new_sockets = λ s h. subst (λ r. has (named r) s ≡ false) same (c.new_sockets s h);
      unused = c.unused;
      preserved = preserved_on before mid now (by_spare before mid mid.spare mid_is) c.preserved;
      idle = c.idle;
      closed_once = λ h. c.closed_once (subst (λ r. IsOnce (closed r)) (sym same) h);
      counted = omega arith;
      fault = λ e. (let rose = c.fault e in omega arith);
    }

pub reserved : (k : Kept) (rules : Rules) (first : ℕ) (targets : List Target) (before mid now : Net) → mid ≡ with_spare before mid.spare → before.spare ≤ mid.spare → HasCarriedOut rules first targets mid now k → HasCarriedOut rules first targets before now k
reserved k rules first targets before mid now mid_is kept (t, a, answer, c) = (t, a, answer, reserved_so rules first targets before mid now t a mid_is kept c)
