-- A call of the sockets that carries out the racer's command leaves the race under way.
use Rattle.std.proofs.Common.{◌≡◌, ℕ, ◌+◌, ◌-◌, ◌*◌, ◌<◌, ◌≤◌, true, false, not, ◌||◌, List, [], ◌∷◌, ◌++◌, length, length-append, refl, ap, sym, ◌∙◌, subst, inl, inr, arith}
use Rattle.std.specs.Prelude.{◌==◌, slice_get, Some}
use Rattle.std.specs.Cmp.Derive.{both_true}
use Rattle.std.proofs.lemmas.Bool.{eqb-true, eq-eqb, le-leb, lt-ltb, not_from_false}
use Rattle.std.proofs.lemmas.List.Folds.{list_any-append}
use Rattle.taps_base.specs.Counts.{Rose}
use Rattle.taps_endpoint.specs.declared.address.Address.TheVariants.{V4}
use Rattle.taps_stack.specs.declared.stack.Stack.TheVariants.{Tcp}
use Rattle.taps_stack.specs.declared.target.Target.{Target}
use Rattle.taps_socket.specs.declared.item.How.{How}
use Rattle.taps_socket.specs.declared.item.How.TheVariants as how
use Rattle.taps_socket.specs.declared.item.Item.{Item}
use Rattle.taps_socket.specs.declared.item.Item.TheVariants as item
use Rattle.taps_socket.specs.declared.answers.StartAnswer.{StartAnswer}
use Rattle.taps_socket.specs.declared.answers.StartAnswer.TheVariants as start
use Rattle.taps_socket.specs.RaceTrace.{last_moment, is_fault, has_fault}
use Rattle.taps_socket.specs.RaceSockets.{has, started, completed, broke, closed, open_sockets, pending_sockets}
use Rattle.taps_socket.specs.LiveSockets.{given, live_sockets, named}
use Rattle.taps_socket.proofs.NamedSockets.{started_named}
use Rattle.taps_socket.specs.Standing.{standing}
use Rattle.taps_socket.specs.Rules.{Rules}
use Rattle.taps_socket.specs.LawfulRace.{HasTarget}
use Rattle.taps_socket.specs.Calls.{started_item, started_at}
use Rattle.taps_socket.specs.Net.{Net, with_item, with_faults, IsNextMoment, GivesNewSocket, MayEnd, IsUnused, PreservesTraffic}
use Rattle.taps_socket.proofs.Traffic.{by_item, by_faulted, preserved_on}
use Rattle.taps_racer.specs.declared.command.Command.{Command}
use Rattle.taps_racer.specs.declared.command.Command.TheVariants.{Start, Wait, Close, Finish}
use Rattle.taps_racer.specs.declared.event.Told.{Told}
use Rattle.taps_racer.specs.declared.event.Told.TheVariants as told
use Rattle.taps_racer.specs.Kept.{Kept}
use Rattle.taps_racer.specs.Commands.{ComesNext, command, command_of, IsFinish}
use Rattle.taps_racer.specs.Events.{is_moment, is_end, answers, item_of}
use Rattle.taps_racer.specs.Steps.{is_used, after, heard}
use Rattle.taps_racer.specs.UnderWay.{IsUnderWay, UnderWay, told_of}
use Rattle.taps_socket.proofs.Lists.{either, or_left, or_right, false_by, kept, keeps}
use Rattle.taps_racer.proofs.StandsOn.{was_pending, closes_open}
use Rattle.taps_racer.proofs.Races.{goes, open_parts, of_open}
use Rattle.taps_racer.proofs.Turns.{comes_next, only_next}
use Rattle.taps_racer.proofs.RunsOn.{rules_after, runs_on, used_is, command_is}
use Rattle.taps_racer.proofs.Few.{full_is_over, few_items}
use Rattle.taps_racer.proofs.Stretches.{started-append, completed-append, broke-append, closed-append, named-append, not_in, opens_live}

-- the command is the one that comes next by the race, and an event that answers it is used
pub next_is : (k : Kept) (rules : Rules) (first : ℕ) (targets : List Target) (before now : Net) (t : List Item) (c : Command) → IsUnderWay k rules first targets before now t → command_of k ≡ c → ComesNext k.rules (standing t) c
next_is k rules first targets before now t c u asked =
    subst (ComesNext k.rules (standing t)) (sym (command_is k first t u.run) ∙ asked) (comes_next k first t u.run)

uses : (k : Kept) (rules : Rules) (first : ℕ) (targets : List Target) (before now : Net) (t : List Item) (c : Command) (event : Told) → IsUnderWay k rules first targets before now t → command_of k ≡ c → answers (standing t) c event ≡ true → is_used k event ≡ true
uses k rules first targets before now t c event u asked h = used_is k first t event c u.run (next_is k rules first targets before now t c u asked) ∙ h

is_next : (k : Kept) (rules : Rules) (first : ℕ) (targets : List Target) (before now : Net) (t : List Item) (at : ℕ) → IsUnderWay k rules first targets before now t → IsNextMoment now at → is_moment (standing t) at ≡ true
is_next k rules first targets before now t at u n =
    let last : now.told ≡ last_moment t = u.told_last ∙ u.run.stands.last in
    both_true (le-leb _ _ (omega (arith, n.later))) (lt-ltb _ _ n.fits)

-- what the sockets are after the item of an event
record IsLater (k : Kept) (before now later : Net) (t : List Item) (i : Item) (event : Told) : Type 0 where
  pub trace : later.trace ≡ i ∷ now.trace
  pub last : later.told ≡ (after k event).last
  pub lower : later.spare + 1 ≡ now.spare
  pub count : now.faults ≤ later.faults
  pub risen : is_fault i ≡ true → Rose now.faults later.faults
  pub preserved : PreservesTraffic now later

goes_on : (k : Kept) (rules : Rules) (first : ℕ) (targets : List Target) (before now later : Net) (t : List Item) (target : Target) (event : Told) → IsUnderWay k rules first targets before now t → is_used k event ≡ true → HasTarget targets (item_of first (λ _. target) event) (standing t) → ((s : ℕ) → has (started (item_of first (λ _. target) event ∷ t)) s ≡ true → has (named before.trace) s ≡ false) → ((s : ℕ) → has (started (item_of first (λ _. target) event ∷ t)) s ≡ true → IsUnused (before.traffic s)) → IsLater k before now later t (item_of first (λ _. target) event) event → IsUnderWay (after k event) rules first targets before later (item_of first (λ _. target) event ∷ t)
goes_on k rules first targets before now later t target event u used aims new unused l =
    let i = item_of first (λ _. target) event in
    record {
      items = l.trace ∙ ap (λ r. i ∷ r) u.items;
      run = runs_on k first t (λ _. target) event u.run used;
      targets_in_order = (aims, u.targets_in_order);
      same_rules = rules_after k event ∙ u.same_rules;
      leaves = u.leaves;
      told_last = l.last;
      new_sockets = new;
      unused = unused;
      preserved = preserved_on before now later u.preserved l.preserved;
      idle = u.idle;
      room = (let r = u.room in let s = l.lower in omega arith);
      lowered = (let r = u.lowered in let s = l.lower in omega arith);
      counted = (let r = u.counted in let s = l.count in omega arith);
      fault = λ h. elim (either (is_fault i) (has_fault t) h) [
        | inl here ↦ (let r = l.risen here in let s = u.counted in omega arith)
        | inr there ↦ (let r = u.fault there in let s = l.count in omega arith)
      ];
    }

-- a start
started_first : (s x : ℕ) (more : List ℕ) (P : Type 0) → (has more x ≡ true → P) → (s ≡ x → P) → has (more ++ s ∷ []) x ≡ true → P
started_first s x more P old new h =
    elim (either (has more x) ((s == x) || false) (rw list_any-append at h)) as (λ _. P) [
      | inl there ↦ old there
      | inr here ↦ elim (either (s == x) false here) as (λ _. P) [ inl same ↦ new (eqb-true _ _ same) | inr none ↦ absurd (let z : false ≡ true = none in cc) ]
    ]

pub starts : (k k' : Kept) (rules : Rules) (first : ℕ) (targets : List Target) (before now later : Net) (leaf : ℕ) (target : Target) (a : StartAnswer) → command_of k ≡ Start leaf → slice_get targets leaf ≡ Some target → later ≡ with_item now (started_item (first + leaf) target a) (started_at a) → IsNextMoment now (started_at a) → GivesNewSocket a now → 1 ≤ now.spare → k' ≡ heard k (told_of leaf a) → UnderWay k rules first targets before now → UnderWay k' rules first targets before later
starts k k' rules first targets before now later leaf target (start.Started s at) asked aims is next new room kept under =
    let t = under.0 in
    let u = under.1 in
    let event = told.Started leaf s at in
    let fresh : has (started t) s ≡ false = false_by _ (λ e. (let less : s < s = new.number s (rw (u.items, named-append, list_any-append) (or_left _ _ (started_named t s e))) in absurd (omega arith))) in
    let used : is_used k event ≡ true = uses k rules first targets before now t (Start leaf) event u asked (both_true (both_true (eq-eqb leaf leaf refl) (not_from_false _ fresh)) (is_next k rules first targets before now t at u next)) in
    let here : leaf ≡ (standing t).attempts = (next_is k rules first targets before now t (Start leaf) u asked).0 in
    let after_is : k' ≡ after k event = kept ∙ rw used refl in
    let lower : later.spare ≡ now.spare - 1 = ap (λ n. n.spare) is in
    let same : later.faults ≡ now.faults = ap (λ n. n.faults) is in
    let l : IsLater k before now later t (item.Started (first + leaf) target s at) event = record {
      trace = ap (λ n. n.trace) is;
      last = ap (λ n. n.told) is;
      lower = omega arith;
      count = omega arith;
      risen = λ h. (let z : false ≡ true = h in cc);
      preserved = by_item now later (item.Started (first + leaf) target s at) at is;
    } in
    let empty : IsUnused (before.traffic s) = subst (λ f. IsUnused (f s)) (ap (λ n. n.traffic) u.preserved) new.unused in
    let unused : (x : ℕ) → has (started t ++ s ∷ []) x ≡ true → IsUnused (before.traffic x) = λ x h. started_first s x (started t) (IsUnused (before.traffic x)) (u.unused x) (λ same. subst (λ y. IsUnused (before.traffic y)) same empty) h in
    let unlike : (x : ℕ) → has (started t ++ s ∷ []) x ≡ true → has (named before.trace) x ≡ false = λ x h. started_first s x (started t) (has (named before.trace) x ≡ false) (u.new_sockets x) (λ same. false_by _ (λ e. (let less : x < s = new.number x (rw (u.items, named-append, list_any-append) (or_right (has (named t) x) _ e)) in absurd (omega arith)))) h in
    subst (λ k. UnderWay k rules first targets before later) (sym after_is) (item.Started (first + leaf) target s at ∷ t, goes_on k rules first targets before now later t target event u used (rw (← here) aims) unlike unused l)
starts k k' rules first targets before now later leaf target (start.Refused cause at) asked aims is next new room kept under =
    let t = under.0 in
    let u = under.1 in
    let event = told.Refused leaf cause at in
    let used : is_used k event ≡ true = uses k rules first targets before now t (Start leaf) event u asked (both_true (eq-eqb leaf leaf refl) (is_next k rules first targets before now t at u next)) in
    let here : leaf ≡ (standing t).attempts = (next_is k rules first targets before now t (Start leaf) u asked).0 in
    let after_is : k' ≡ after k event = kept ∙ rw used refl in
    let lower : later.spare ≡ now.spare - 1 = ap (λ n. n.spare) is in
    let same : later.faults ≡ now.faults = ap (λ n. n.faults) is in
    let l : IsLater k before now later t (item.Refused (first + leaf) target cause at) event = record {
      trace = ap (λ n. n.trace) is;
      last = ap (λ n. n.told) is;
      lower = omega arith;
      count = omega arith;
      risen = λ h. (let z : false ≡ true = h in cc);
      preserved = by_item now later (item.Refused (first + leaf) target cause at) at is;
    } in
    subst (λ k. UnderWay k rules first targets before later) (sym after_is) (item.Refused (first + leaf) target cause at ∷ t, goes_on k rules first targets before now later t target event u used (rw (← here) aims) u.new_sockets u.unused l)

-- an event of a wait or a close has no target
no_target : Target
no_target = record { stack = Tcp; address = V4 (0 ∷ 0 ∷ 0 ∷ 0 ∷ []) 0 }

-- a wait ends by a socket that is pending in the race
of_pending : (t : List Item) (s : ℕ) → has (started t) s ≡ true → has (closed t) s ≡ false → has (completed t) s ≡ false → has (broke t) s ≡ false → has (pending_sockets t) s ≡ true
of_pending t s given c d b = keeps (λ s. not (has (completed t) s || has (broke t) s)) (open_sockets t) s (rw (d, b) refl) (of_open t s (rw c refl) given)

pub pending_there : (t before : List Item) (s : ℕ) → pending_sockets before ≡ [] → has (pending_sockets (t ++ before)) s ≡ true → has (pending_sockets t) s ≡ true
pending_there t before s idle h =
    let w = was_pending (t ++ before) s h in
    let c = not_in (closed t) (closed before) s (rw closed-append at w.closed) in
    let d = not_in (completed t) (completed before) s (rw completed-append at w.completed) in
    let b = not_in (broke t) (broke before) s (rw broke-append at w.broke) in
    elim (either (has (started before) s) (has (started t) s) (rw (started-append, list_any-append) at w.started)) as (λ _. has (pending_sockets t) s ≡ true) [
      | inl old ↦ (let z : has [] s ≡ true = rw idle at (of_pending before s old c.1 d.1 b.1) in cc)
      | inr own ↦ of_pending t s own c.0 d.0 b.0
    ]

ends : (t : List Item) (before now later : Net) (until at : ℕ) (h : How) → now.trace ≡ t ++ before.trace → pending_sockets before.trace ≡ [] → MayEnd h until at now later → is_end (standing t) until at h ≡ true
ends t before now later until at how.Reached is idle may = le-leb _ _ may.0
ends t before now later until at (how.Completed s) is idle may = pending_there t before.trace s idle (rw is at may)
ends t before now later until at (how.Broke s cause) is idle may = pending_there t before.trace s idle (rw is at may)
ends t before now later until at how.Faulted is idle may = refl

last_after : (k : Kept) (until at : ℕ) (h : How) → (after k (told.Waited until at h)).last ≡ at
last_after k until at how.Reached = refl
last_after k until at (how.Completed s) = refl
last_after k until at (how.Broke s cause) = refl
last_after k until at how.Faulted = refl

rises : (now later : Net) (until at : ℕ) (h : How) → MayEnd h until at now later → is_fault (item.Waited until at h) ≡ true → Rose now.faults later.faults
rises now later until at how.Reached may e = cc
rises now later until at (how.Completed s) may e = cc
rises now later until at (how.Broke s cause) may e = cc
rises now later until at how.Faulted may e = may

pub waits : (k k' : Kept) (rules : Rules) (first : ℕ) (targets : List Target) (before now later : Net) (until at : ℕ) (h : How) → command_of k ≡ Wait until → later ≡ with_faults (with_item now (item.Waited until at h) at) later.faults → IsNextMoment now at → MayEnd h until at now later → now.faults ≤ later.faults → 1 ≤ now.spare → k' ≡ heard k (told.Waited until at h) → UnderWay k rules first targets before now → UnderWay k' rules first targets before later
waits k k' rules first targets before now later until at h asked is next may count room kept under =
    let t = under.0 in
    let u = under.1 in
    let event = told.Waited until at h in
    let used : is_used k event ≡ true = uses k rules first targets before now t (Wait until) event u asked (both_true (both_true (eq-eqb until until refl) (is_next k rules first targets before now t at u next)) (ends t before now later until at h u.items u.idle may)) in
    let after_is : k' ≡ after k event = kept ∙ rw used refl in
    let lower : later.spare ≡ now.spare - 1 = ap (λ n. n.spare) is in
    let l : IsLater k before now later t (item.Waited until at h) event = record {
      trace = ap (λ n. n.trace) is;
      last = ap (λ n. n.told) is ∙ sym (last_after k until at h);
      lower = omega arith;
      count = count;
      risen = rises now later until at h may;
      preserved = by_faulted now later (item.Waited until at h) at later.faults is;
    } in
    subst (λ k. UnderWay k rules first targets before later) (sym after_is) (item.Waited until at h ∷ t, goes_on k rules first targets before now later t no_target event u used tt u.new_sockets u.unused l)

-- a socket that is to be closed is live
pub close_live : (k : Kept) (rules : Rules) (first : ℕ) (targets : List Target) (before now : Net) (s : ℕ) → command_of k ≡ Close s → UnderWay k rules first targets before now → has (live_sockets now.trace) s ≡ true
close_live k rules first targets before now s asked under =
    let t = under.0 in
    let u = under.1 in
    let own = closes_open k.rules t s (sym (command_is k first t u.run) ∙ asked) in
    rw u.items (opens_live t before.trace s u.run.race.race_trace (u.new_sockets s (open_parts t s own).1) own)

pub closes : (k k' : Kept) (rules : Rules) (first : ℕ) (targets : List Target) (before now later : Net) (s : ℕ) → command_of k ≡ Close s → later ≡ with_item now (item.Closed s) now.told → 1 ≤ now.spare → k' ≡ heard k (told.Closed s) → UnderWay k rules first targets before now → UnderWay k' rules first targets before later
closes k k' rules first targets before now later s asked is room kept under =
    let t = under.0 in
    let u = under.1 in
    let event = told.Closed s in
    let used : is_used k event ≡ true = uses k rules first targets before now t (Close s) event u asked (eq-eqb s s refl) in
    let after_is : k' ≡ after k event = kept ∙ rw used refl in
    let lower : later.spare ≡ now.spare - 1 = ap (λ n. n.spare) is in
    let same : later.faults ≡ now.faults = ap (λ n. n.faults) is in
    let l : IsLater k before now later t (item.Closed s) event = record {
      trace = ap (λ n. n.trace) is;
      last = ap (λ n. n.told) is ∙ u.told_last;
      lower = omega arith;
      count = omega arith;
      risen = λ h. (let z : false ≡ true = h in cc);
      preserved = by_item now later (item.Closed s) now.told is;
    } in
    subst (λ k. UnderWay k rules first targets before later) (sym after_is) (item.Closed s ∷ t, goes_on k rules first targets before now later t no_target event u used tt u.new_sockets u.unused l)

-- there is room for the item of a command that is not the last
no_finish : (k : Kept) (first : ℕ) (t : List Item) (c : Command) → command k.rules (standing t) ≡ c → (IsFinish c → ⊥) → (a : _) → command k.rules (standing t) ≡ Finish a → ⊥
no_finish k first t c e goes a f = goes (subst IsFinish (sym f ∙ e) tt)

pub has_room : (k : Kept) (rules : Rules) (first : ℕ) (targets : List Target) (before now : Net) (c : Command) → command_of k ≡ c → (IsFinish c → ⊥) → UnderWay k rules first targets before now → 1 ≤ now.spare
has_room k rules first targets before now c asked last under =
    let t = under.0 in
    let u = under.1 in
    let there : command k.rules (standing t) ≡ c = sym (command_is k first t u.run) ∙ asked in
    let few = few_items k.rules t u.run.race.race_trace (goes k first t u.run) in
    let not_full : length t ≡ 4 * length k.rules.gaps + 1 → ⊥ = λ full. (let over = full_is_over k.rules t c u.run.race.race_trace (goes k first t u.run) full (next_is k rules first targets before now t c u asked) (λ s e. closes_open k.rules t s (there ∙ e)) in no_finish k first t c there last over.0 (only_next k first t (Finish over.0) u.run over.1)) in
    let leaves : length k.rules.gaps ≡ length targets = ap (λ r. length r.gaps) u.same_rules ∙ u.leaves in
    let room = u.room in
    omega (arith, not_full)

-- the trace has grown by the items of a race at most
pub grown : (k : Kept) (rules : Rules) (first : ℕ) (targets : List Target) (before now : Net) → UnderWay k rules first targets before now → length now.trace ≤ 4 * length targets + 1 + length before.trace
grown k rules first targets before now under =
    let t = under.0 in
    let u = under.1 in
    let few = few_items k.rules t u.run.race.race_trace (goes k first t u.run) in
    let leaves : length k.rules.gaps ≡ length targets = ap (λ r. length r.gaps) u.same_rules ∙ u.leaves in
    rw (u.items, length-append) (omega arith)
