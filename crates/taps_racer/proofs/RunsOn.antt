-- A used event goes on with a lawful race, and which events are used the trace tells.
use Rattle.std.proofs.Common.{◌≡◌, ℕ, Bool, true, false, List, ◌∷◌, refl, ap, sym, ◌∙◌, subst}
use Rattle.std.specs.Prelude.{Some}
use Rattle.std.proofs.lemmas.Bool.{eqb-true}
use Rattle.taps_stack.specs.declared.target.Target.{Target}
use Rattle.taps_socket.specs.declared.item.How.TheVariants as how
use Rattle.taps_socket.specs.declared.item.Item.{Item}
use Rattle.taps_socket.specs.RaceTrace.{IsRaceTrace}
use Rattle.taps_socket.specs.Standing.{Standing, standing}
use Rattle.taps_socket.specs.Rules.{Rules}
use Rattle.taps_socket.specs.LawfulRace.{AttemptsWhenDue, WaitsWhenNothingDue, ClosesInOrder, MayWait, IsUnfinishedRace, IsOver}
use Rattle.taps_socket.specs.declared.race_answer.RaceAnswer.{RaceAnswer}
use Rattle.taps_socket.specs.Over.{over}
use Rattle.taps_racer.specs.declared.command.Command.{Command}
use Rattle.taps_racer.specs.declared.command.Command.TheVariants.{Start, Wait, Close, Finish}
use Rattle.taps_racer.specs.declared.event.Told.{Told}
use Rattle.taps_racer.specs.declared.event.Told.TheVariants as told
use Rattle.taps_racer.specs.Kept.{Kept, standing_of}
use Rattle.taps_racer.specs.Commands.{ComesNext, command, command_of, IsFinish}
use Rattle.taps_racer.specs.Events.{answers, item_of}
use Rattle.taps_racer.specs.Steps.{is_used, after, heard}
use Rattle.taps_racer.specs.Stands.{IsRun}
use Rattle.taps_socket.proofs.Lists.{both}
use Rattle.taps_racer.proofs.StandsAlike.{stands_alike}
use Rattle.taps_racer.proofs.StandsOn.{stands_on, used_there}
use Rattle.taps_racer.proofs.Turns.{comes_next, only_next}

-- the item of an event that answers the command may come
record MayCome (rules : Rules) (i : Item) (race : Standing) : Type 0 where
  pub attempt : AttemptsWhenDue rules i race
  pub wait : WaitsWhenNothingDue rules i race
  pub close : ClosesInOrder rules i race

may_come : (rules : Rules) (first : ℕ) (target : ℕ → Target) (race : Standing) (c : Command) (event : Told) → answers race c event ≡ true → ComesNext rules race c → MayCome rules (item_of first target event) race
may_come rules first target race (Start n) (told.Started leaf s at) h next = record { attempt = next.1; wait = tt; close = tt }
may_come rules first target race (Start n) (told.Refused leaf cause at) h next = record { attempt = next.1; wait = tt; close = tt }
may_come rules first target race (Wait end) (told.Waited until at how) h next = record { attempt = tt; wait = subst (MayWait rules race) (sym (eqb-true _ _ (both _ _ (both _ _ h).0).0)) next; close = tt }
may_come rules first target race (Close x) (told.Closed s) h next = record { attempt = tt; wait = tt; close = subst (λ v. ComesNext rules race (Close v)) (sym (eqb-true _ _ h)) next }
may_come rules first target race c event h next = cc

still_a_race : (first : ℕ) (target : ℕ → Target) (t : List Item) (event : Told) → IsRaceTrace t → IsRaceTrace (item_of first target event ∷ t)
still_a_race first target t (told.Started leaf s at) h = h
still_a_race first target t (told.Refused leaf cause at) h = h
still_a_race first target t (told.Waited until at how) h = h
still_a_race first target t (told.Closed s) h = h

-- no event changes the rules
pub rules_after : (k : Kept) (event : Told) → (after k event).rules ≡ k.rules
rules_after k (told.Started leaf s at) = refl
rules_after k (told.Refused leaf cause at) = refl
rules_after k (told.Waited until at how.Reached) = refl
rules_after k (told.Waited until at (how.Completed s)) = refl
rules_after k (told.Waited until at (how.Broke s cause)) = refl
rules_after k (told.Waited until at how.Faulted) = refl
rules_after k (told.Closed s) = refl

pub rules_heard : (q : Bool) (k : Kept) (event : Told) → is_used k event ≡ q → (heard k event).rules ≡ k.rules
rules_heard true k event e = rw e (rules_after k event)
rules_heard false k event e = rw e refl

pub runs_on : (k : Kept) (first : ℕ) (t : List Item) (target : ℕ → Target) (event : Told) → IsRun k first t → is_used k event ≡ true → IsRun (after k event) first (item_of first target event ∷ t)
runs_on k first t target event run used =
    let stands = stands_on k first t target event run.stands used in
    let may = may_come k.rules first target (standing t) (command k.rules (standing t)) event (used_there k first t event run.stands used) (comes_next k first t run) in
    let race : IsUnfinishedRace k.rules first (item_of first target event ∷ t) = record {
      race_trace = still_a_race first target t event run.race.race_trace;
      attempts_in_order = stands.in_order;
      attempts_when_due = (may.attempt, run.race.attempts_when_due);
      waits_when_nothing_due = (may.wait, run.race.waits_when_nothing_due);
      closes_in_order = (may.close, run.race.closes_in_order);
    } in
    record { stands = stands; race = subst (λ rules. IsUnfinishedRace rules first (item_of first target event ∷ t)) (sym (rules_after k event)) race }

-- an event is used where it answers the command that may come
pub used_is : (k : Kept) (first : ℕ) (t : List Item) (event : Told) (c : Command) → IsRun k first t → ComesNext k.rules (standing t) c → is_used k event ≡ answers (standing t) c event
used_is k first t event c run next =
    ap (λ race. answers race (command k.rules race) event) (stands_alike k first t run.stands)
    ∙ ap (λ c. answers (standing t) c event) (only_next k first t c run next)

-- what a racer finds is what is found by the trace
pub command_is : (k : Kept) (first : ℕ) (t : List Item) → IsRun k first t → command_of k ≡ command k.rules (standing t)
command_is k first t run = ap (command k.rules) (stands_alike k first t run.stands)

-- a racer that is at its end has the answer of its race
over_by : (k : Kept) (first : ℕ) (t : List Item) (a : RaceAnswer) (c : Command) → IsFinish c → command k.rules (standing t) ≡ c → over k.rules (standing t) ≡ Some a → IsRun k first t → IsOver k.rules (standing t) a
over_by k first t a (Start n) f e o run = absurd f
over_by k first t a (Wait until) f e o run = absurd f
over_by k first t a (Close s) f e o run = absurd f
over_by k first t a (Finish b) f e o run =
    let done : IsOver k.rules (standing t) b = subst (ComesNext k.rules (standing t)) e (comes_next k first t run) in
    let same : b ≡ a = (let x = done.over in cc) in
    subst (IsOver k.rules (standing t)) same done

pub over_is : (k : Kept) (first : ℕ) (t : List Item) (a : RaceAnswer) → IsFinish (command_of k) → over k.rules (standing_of k) ≡ Some a → IsRun k first t → IsOver k.rules (standing t) a
over_is k first t a f o run =
    let alike = stands_alike k first t run.stands in
    over_by k first t a (command k.rules (standing t)) (subst (λ race. IsFinish (command k.rules race)) alike f) refl (subst (λ race. over k.rules race ≡ Some a) alike o) run
