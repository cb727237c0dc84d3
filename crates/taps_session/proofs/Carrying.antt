-- From the calls of a session on recorded sockets to what ended it.
use Rattle.std.proofs.Common.{◌≡◌, ℕ, true, false, List, [], ◌∷◌, ◌++◌, Option, Result, Ok, Err, length, sym, ◌∙◌, ap, subst, append-nil}
use Rattle.std.specs.Prelude.{reverse}
use Rattle.std.proofs.lemmas.List.{length-reverse}
use Rattle.std.specs.Result.{IsErr}
use Rattle.taps_base.specs.declared.no_memory.NoMemory.{NoMemory}
use Rattle.taps_framer.specs.Layers.{Layer}
use Rattle.taps_stack.specs.declared.target.Target.{Target}
use Rattle.taps_socket.specs.declared.item.Item.{Item}
use Rattle.taps_socket.specs.declared.race_answer.RaceAnswer.{RaceAnswer}
use Rattle.taps_socket.specs.Calls.{Call, HasAdded}
use Rattle.taps_socket.specs.LawfulRace.{IsLawfulRace}
use Rattle.taps_socket.specs.Net.{Net, with_spare}
use Rattle.taps_socket.specs.RaceTrace.{last_moment}
use Rattle.taps_socket.specs.Recorded.{Recorded, Records, IsLastReported}
use Rattle.taps_socket.specs.Rules.{Rules}
use Rattle.taps_socket.specs.Shows.{Shows}
use Rattle.taps_exchange.specs.declared.exchanged.Exchanged.{Exchanged}
use Rattle.taps_command.specs.Nets.{HasRun}
use Rattle.taps_command.specs.Ready.{Ready}
use Rattle.taps_session.specs.FileSessions.{rules_of, targets_of}
use Rattle.taps_session.specs.Raced.{IsRaced, GoesOn, EndsSession}
use Rattle.taps_session.specs.declared.holding.Ended.{Ended}
use Rattle.taps_session.proofs.Ending.{AppendLaw, HasRace, ended_ok, ended_err}
use Rattle.taps_session.proofs.Logs.{none_ended, none_raced}
use Rattle.taps_session.proofs.Racing.{race_of}
use Rattle.taps_session.proofs.Recording.{records_on, records_show, unrecorded}

-- the last reported time is that of the race
told_is : (rules : Rules) (targets : List Target) (trace : List Item) (x : RaceAnswer) (at told : ℕ) → IsLawfulRace rules 0 targets trace x → IsLastReported trace at told → told ≡ last_moment trace → at ≡ last_moment trace
told_is rules targets [] x at told lawful last e = absurd lawful.race.race_trace
told_is rules targets (i ∷ trace) x at told lawful last e = last ∙ e

pub count_is : (items trace race : List Item) → reverse items ≡ trace → trace ≡ race → length items ≡ length race
count_is items trace race e same = sym (length-reverse items) ∙ ap length (e ∙ same)

-- what is seen of a recorder
abbrev pub seen : {N : Type 0} → (N → Net) → Recorded N → Net
seen net r = with_spare (net r.net) r.spare

-- what shows of the calls on sockets
abbrev pub ShowLaw : {N : Type 0} → (N → List Call → N → Type 0) → (N → Net) → Type 0
ShowLaw {N} Becomes net = (x y : N) (calls : List Call) → Becomes x calls y → Shows (net x) calls (net y)

goes_on_for : {S : Type 0} (Becomes : S → List Call → S → Type 0) (b c : S) (n1 n2 : Net) (shelf : List Layer) (ready : Ready) (targets targets' : List Target) (at at' : ℕ) (x : RaceAnswer) (r : Result (Option Exchanged) NoMemory)
    → targets ≡ targets' → at ≡ at' → GoesOn Becomes b c n1 n2 shelf ready targets at x r → GoesOn Becomes b c n1 n2 shelf ready targets' at' x r
goes_on_for Becomes b c n1 n2 shelf ready targets targets' at at' x r e f go =
    subst (λ v. GoesOn Becomes b c n1 n2 shelf ready targets' v x r) f (subst (λ v. GoesOn Becomes b c n1 n2 shelf ready v at x r) e go)

-- a race that was carried out over recorded sockets, behind the room that was made for it
pub record IsCarried {N : Type 0} (Becomes : N → List Call → N → Type 0) (net : N → Net) (a a' b : Recorded N) (ready : Ready) (rules : Rules) (targets : List Target) (x : RaceAnswer) : Type 0 where
  pub fresh : (net a.net).trace ≡ []
  pub roomy : with_spare (net a'.net) a'.spare ≡ with_spare (with_spare (net a.net) a.spare) a'.spare
  pub none : Records Becomes a [] a'
  pub same_rules : rules ≡ rules_of ready
  pub same_targets : targets ≡ targets_of ready
  pub added : HasAdded (Records Becomes) a' b (net a'.net).trace (net b.net).trace
  pub raced : IsRaced rules targets (with_spare (net a'.net) a'.spare) (with_spare (net b.net) b.spare) x

pub carries : {N : Type 0} (Becomes : N → List Call → N → Type 0) (net : N → Net) (a a' b : Recorded N) (ready : Ready) (rules : Rules) (targets : List Target) (x : RaceAnswer)
    → (net a.net).trace ≡ [] → with_spare (net a'.net) a'.spare ≡ with_spare (with_spare (net a.net) a.spare) a'.spare → Records Becomes a [] a' → rules ≡ rules_of ready → targets ≡ targets_of ready
    → HasAdded (Records Becomes) a' b (net a'.net).trace (net b.net).trace → IsRaced rules targets (with_spare (net a'.net) a'.spare) (with_spare (net b.net) b.spare) x
    → IsCarried Becomes net a a' b ready rules targets x
carries Becomes net a a' b ready rules targets x fresh roomy none same_rules same_targets added raced = record {
  fresh = fresh;
  roomy = roomy;
  none = none;
  same_rules = same_rules;
  same_targets = same_targets;
  added = added;
  raced = raced;
}

-- its items are all
pub all_items : {N : Type 0} (Becomes : N → List Call → N → Type 0) (net : N → Net) (a a' b : Recorded N) (ready : Ready) (rules : Rules) (targets : List Target) (x : RaceAnswer) → (h : IsCarried Becomes net a a' b ready rules targets x) → (net b.net).trace ≡ h.added.items
all_items Becomes net a a' b ready rules targets x h =
    h.added.added ∙ ap (λ v. h.added.items ++ v) (ap (λ (v : Net). v.trace) h.roomy ∙ h.fresh) ∙ append-nil h.added.items

pub has_race : {N : Type 0} (Becomes : N → List Call → N → Type 0) (net : N → Net) (a a' b : Recorded N) (ready : Ready) (rules : Rules) (targets : List Target) (x : RaceAnswer) → AppendLaw Becomes → (h : IsCarried Becomes net a a' b ready rules targets x)
    → HasRace (Records Becomes) a b (seen net a) (seen net b) ready (h.added.calls ++ []) h.added.items x
has_race Becomes net a a' b ready rules targets x on h =
    race_of (Records Becomes) a a' b (seen net a) (seen net a') (seen net b) ready rules targets x (records_on Becomes on) h.fresh h.roomy h.none h.same_rules h.same_targets h.added h.raced

pub carried_ok : {N : Type 0} (Becomes : N → List Call → N → Type 0) (net : N → Net) (a a' b c : Recorded N) (shelf : List Layer) (ready : Ready) (rules : Rules) (targets : List Target) (x : RaceAnswer) (items : List Item) (count at : ℕ) (o : Option Exchanged)
    → AppendLaw Becomes → ShowLaw Becomes net → IsCarried Becomes net a a' b ready rules targets x → reverse items ≡ (net b.net).trace → count ≡ length items → IsLastReported (net b.net).trace at (net b.net).told
    → GoesOn (Records Becomes) b c (with_spare (net b.net) b.spare) (with_spare (net c.net) c.spare) shelf ready targets at x (Ok o)
    → HasRun Becomes a.net c.net (net a.net) (net c.net) (EndsSession shelf ready (Ok (record { raced = count; answer = x; exchanged = o })))
carried_ok Becomes net a a' b c shelf ready rules targets x items count at o on shows h recorded counted last go =
    let all = all_items Becomes net a a' b ready rules targets x h in
    let told : at ≡ last_moment h.added.items = told_is rules targets (net b.net).trace x at (net b.net).told h.raced.lawful last h.raced.told_last ∙ ap last_moment all in
    unrecorded Becomes a c (net a.net) (net c.net) shelf ready (Ok (record { raced = count; answer = x; exchanged = o })) (shows a.net c.net)
    (ended_ok (Records Becomes) a b c (seen net a) (seen net b) (seen net c) shelf ready (h.added.calls ++ []) h.added.items count x o (records_on Becomes on) (records_show Becomes net shows a c) (records_show Becomes net shows b c)
    (counted ∙ count_is items (net b.net).trace h.added.items recorded all) (has_race Becomes net a a' b ready rules targets x on h)
    (goes_on_for (Records Becomes) b c (seen net b) (seen net c) shelf ready targets (targets_of ready) at (last_moment h.added.items) x (Ok o) h.same_targets told go))

pub carried_err : {N : Type 0} (Becomes : N → List Call → N → Type 0) (net : N → Net) (a a' b c : Recorded N) (shelf : List Layer) (ready : Ready) (rules : Rules) (targets : List Target) (x : RaceAnswer) (at : ℕ) (none : NoMemory)
    → AppendLaw Becomes → ShowLaw Becomes net → IsCarried Becomes net a a' b ready rules targets x → IsLastReported (net b.net).trace at (net b.net).told
    → GoesOn (Records Becomes) b c (with_spare (net b.net) b.spare) (with_spare (net c.net) c.spare) shelf ready targets at x (Err none)
    → HasRun Becomes a.net c.net (net a.net) (net c.net) (EndsSession shelf ready (Err none))
carried_err Becomes net a a' b c shelf ready rules targets x at none on shows h last go =
    let all = all_items Becomes net a a' b ready rules targets x h in
    let told : at ≡ last_moment h.added.items = told_is rules targets (net b.net).trace x at (net b.net).told h.raced.lawful last h.raced.told_last ∙ ap last_moment all in
    unrecorded Becomes a c (net a.net) (net c.net) shelf ready (Err none) (shows a.net c.net)
    (ended_err (Records Becomes) a b c (seen net a) (seen net b) (seen net c) shelf ready (h.added.calls ++ []) h.added.items x none (records_on Becomes on) (records_show Becomes net shows a c)
    (has_race Becomes net a a' b ready rules targets x on h)
    (goes_on_for (Records Becomes) b c (seen net b) (seen net c) shelf ready targets (targets_of ready) at (last_moment h.added.items) x (Err none) h.same_targets told go))

-- no room was made
pub not_reserved : {N : Type 0} (Becomes : N → List Call → N → Type 0) (net : N → Net) (a b : Recorded N) (shelf : List Layer) (ready : Ready) (r : Result Ended NoMemory) → IsErr r
    → ShowLaw Becomes net → (net a.net).trace ≡ [] → with_spare (net b.net) b.spare ≡ with_spare (with_spare (net a.net) a.spare) b.spare → Records Becomes a [] b
    → HasRun Becomes a.net b.net (net a.net) (net b.net) (EndsSession shelf ready r)
not_reserved Becomes net a b shelf ready (Ok e) err shows fresh roomy h = absurd (let wrong : false ≡ true = err in cc)
not_reserved Becomes net a b shelf ready (Err none) err shows fresh roomy h =
    unrecorded Becomes a b (net a.net) (net b.net) shelf ready (Err none) (shows a.net b.net)
    (none_ended (Records Becomes) a b (seen net a) (seen net b) shelf ready none fresh roomy h (records_show Becomes net shows a b))

-- no race began
pub not_raced : {N : Type 0} (Becomes : N → List Call → N → Type 0) (net : N → Net) (a a' b : Recorded N) (shelf : List Layer) (ready : Ready) (r : Result Ended NoMemory) → IsErr r
    → AppendLaw Becomes → ShowLaw Becomes net → (net a.net).trace ≡ [] → with_spare (net a'.net) a'.spare ≡ with_spare (with_spare (net a.net) a.spare) a'.spare → Records Becomes a [] a'
    → with_spare (net b.net) b.spare ≡ with_spare (net a'.net) a'.spare → HasAdded (Records Becomes) a' b (net a'.net).trace (net b.net).trace
    → HasRun Becomes a.net b.net (net a.net) (net b.net) (EndsSession shelf ready r)
not_raced Becomes net a a' b shelf ready (Ok e) err on shows fresh roomy h same added = absurd (let wrong : false ≡ true = err in cc)
not_raced Becomes net a a' b shelf ready (Err none) err on shows fresh roomy h same added =
    unrecorded Becomes a b (net a.net) (net b.net) shelf ready (Err none) (shows a.net b.net)
    (none_raced (Records Becomes) a a' b (seen net a) (seen net a') (seen net b) shelf ready none (records_on Becomes on) fresh roomy h same added (records_show Becomes net shows a b))
