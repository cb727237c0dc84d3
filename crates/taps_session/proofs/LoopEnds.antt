-- What follows a race behind a listener makes a session of both ends.
use Rattle.std.proofs.Common.{◌≡◌, ◌++◌, ◌∷◌, ℕ, true, false, List, [], Option, Some, None, Result, Ok, Err, refl, sym, ◌∙◌, ap, subst, inl, inr, length}
use Rattle.std.specs.Prelude.{reverse}
use Rattle.std.specs.Result.{IsErr}
use Rattle.std.proofs.lemmas.List.{length-reverse}
use Rattle.taps_base.specs.declared.no_memory.NoMemory.{NoMemory}
use Rattle.taps_framer.specs.Layers.{Layer}
use Rattle.taps_stack.specs.declared.target.Target.{Target}
use Rattle.taps_socket.specs.declared.answers.AcceptAnswer.TheVariants as accept
use Rattle.taps_socket.specs.declared.answers.ListenAnswer.TheVariants as listen
use Rattle.taps_socket.specs.declared.cause.Cause.{Cause}
use Rattle.taps_socket.specs.declared.item.Item.{Item}
use Rattle.taps_socket.specs.declared.item.Item.TheVariants as item
use Rattle.taps_socket.specs.declared.race_answer.RaceAnswer.{RaceAnswer}
use Rattle.taps_socket.specs.declared.race_answer.RaceAnswer.TheVariants as answers
use Rattle.taps_socket.specs.Calls.{Call, closes, listens, accepts, HasAdded}
use Rattle.taps_socket.specs.LiveSockets.{given, live_sockets, named}
use Rattle.taps_socket.specs.Net.{Net, with_spare}
use Rattle.taps_socket.specs.RaceSockets.{has}
use Rattle.taps_socket.specs.Recorded.{Recorded, Records}
use Rattle.taps_socket.specs.Rules.{Rules}
use Rattle.taps_socket.proofs.Lists.{both, kept as kept_of}
use Rattle.taps_socket.proofs.NamedSockets.{given_named}
use Rattle.taps_connection.specs.Listeners.{IsListening, IsRefused, HasStopped}
use Rattle.taps_connection.specs.declared.listener.Listener.{Listener}
use Rattle.taps_exchange.specs.declared.outcome.Outcome.TheVariants as outcome
use Rattle.taps_loop.specs.Looped.{deadline_by}
use Rattle.taps_loop.specs.Loops.{heard_in}
use Rattle.taps_loop.specs.declared.looped.Looped.{Looped}
use Rattle.taps_loop.specs.declared.looped.Looped.TheVariants as looped
use Rattle.taps_text.specs.MemberLines.{MemberLog}
use Rattle.taps_command.specs.Nets.{HasRun, IsClosedOnce, SocketsState, uncalled}
use Rattle.taps_command.specs.Ready.{Ready}
use Rattle.taps_session.specs.FileSessions.{listened, targets_of}
use Rattle.taps_session.specs.LoopParts.{GoBehind, count_before}
use Rattle.taps_session.specs.Loops.{lost, dropped, timed, faulted, exchanged, EndsBoth, IsBothOn, IsBoth, HoldsBoth, refused, members_by, outcome_by, ends_of}
use Rattle.taps_session.specs.Services.{first_target}
use Rattle.taps_session.specs.Session.{parted}
use Rattle.taps_session.specs.SessionLogs.{Held}
use Rattle.taps_session.specs.declared.looping.LoopEnded.{LoopEnded}
use Rattle.taps_session.proofs.Carrying.{ShowLaw}
use Rattle.taps_session.proofs.Ending.{AppendLaw}
use Rattle.taps_session.proofs.Logs.{no_items, no_calls}
use Rattle.taps_session.proofs.LoopRuns.{IsRacedOn, stands, finished, cut_at, closed_looped, items_behind, race_items, told_is}
use Rattle.taps_session.proofs.Parts.{parts}
use Rattle.taps_session.proofs.Recording.{returned}
use Rattle.taps_session.proofs.ServiceRuns.{IsRoomy}

live_named : (t : List Item) (s : ℕ) → has (live_sockets t) s ≡ true → has (named t) s ≡ true
live_named t s h = given_named t s (kept_of _ (given t) s h).1

abbrev both_of : ℕ → List (List ℕ) → List MemberLog
both_of sent heard = record { sent = sent; heard = [] } ∷ record { sent = 0; heard = heard } ∷ []

-- with or without a winner, in each way
ended_so : {N : Type 0} (Becomes : N → List Call → N → Type 0) (net : N → Net) (a a' a2 b c : Recorded N) (ready : Ready) (target : Target) (l : Listener) (rules : Rules) (targets : List Target) (x : RaceAnswer) (h : IsRacedOn Becomes net a a' a2 b ready target l rules targets x)
    (shelf : List Layer) (o : Option Looped) (raced all : ℕ) → raced ≡ length (net b.net).trace → all ≡ length (net c.net).trace
    → GoBehind (Records Becomes) b c (with_spare (net b.net) b.spare) (with_spare (net c.net) c.spare) shelf ready target (targets_of ready) l.socket x (Ok o)
    → HasRun Becomes a.net c.net (net a.net) (net c.net) (EndsBoth shelf ready target (Ok (record { before = count_before raced all o; answer = x; looped = o })))
ended_so Becomes net a a' a2 b c ready target l rules targets (answers.Ready leaf socket won) h shelf (Some (looped.Exchanged e)) raced all count count_all go =
    let s = stands Becomes net a a' a2 b ready target l rules targets (answers.Ready leaf socket won) h in
    let dl = ready.pre.exchange.deadline_ms in
    let becomes = subst (λ t. Becomes b.net (closes l.socket ∷ closes go.to ∷ closes socket ∷ (go.calls ++ accepts l.socket (deadline_by t dl) (accept.Accepted go.to go.at) ∷ [])) c.net) (told_is Becomes net a a' a2 b ready target l rules targets (answers.Ready leaf socket won) h) go.becomes.becomes in
    let once = subst IsClosedOnce (sym go.trace) (closed_looped l.socket socket go.to go.at go.items (net b.net).trace go.given.number (live_named (net b.net).trace l.socket (both _ _ s.accepts).0) (live_named (net b.net).trace socket s.winner.live) go.own s.closed_once) in
    finished Becomes net a a' a2 b ready target l rules targets (answers.Ready leaf socket won) h c shelf (exchanged go.to go.at go.calls e.outcome)
    (record { before = raced; answer = answers.Ready leaf socket won; looped = Some (looped.Exchanged e) })
    becomes go.exchange tt (λ at no. cc) once
    (count ∙ ap length (race_items Becomes net a a' a2 b ready target l rules targets (answers.Ready leaf socket won) h)) refl
    (ap (λ v. both_of v (heard_in (ends_of shelf ready target leaf socket go.to go.at) go.calls e.outcome)) go.sent_is ∙ ap (both_of e.sent) go.heard_is) refl
ended_so Becomes net a a' a2 b c ready target l rules targets (answers.Ready leaf socket won) h shelf (Some looped.Timed) raced all count count_all go =
    let s = stands Becomes net a a' a2 b ready target l rules targets (answers.Ready leaf socket won) h in
    let dl = ready.pre.exchange.deadline_ms in
    let becomes = subst (λ t. Becomes b.net (closes l.socket ∷ closes socket ∷ accepts l.socket (deadline_by t dl) (accept.Timed go.at) ∷ []) c.net) (told_is Becomes net a a' a2 b ready target l rules targets (answers.Ready leaf socket won) h) go.becomes.becomes in
    finished Becomes net a a' a2 b ready target l rules targets (answers.Ready leaf socket won) h c shelf (timed go.at)
    (record { before = raced; answer = answers.Ready leaf socket won; looped = Some looped.Timed })
    becomes tt (h.show b.net c.net _ becomes).timed (λ at no. cc) (subst IsClosedOnce (sym go.trace) s.closed_once)
    (count ∙ ap length (race_items Becomes net a a' a2 b ready target l rules targets (answers.Ready leaf socket won) h)) refl refl refl
ended_so Becomes net a a' a2 b c ready target l rules targets (answers.Ready leaf socket won) h shelf (Some looped.Faulted) raced all count count_all go =
    let s = stands Becomes net a a' a2 b ready target l rules targets (answers.Ready leaf socket won) h in
    let dl = ready.pre.exchange.deadline_ms in
    let becomes = subst (λ t. Becomes b.net (closes l.socket ∷ closes socket ∷ accepts l.socket (deadline_by t dl) (accept.Faulted go.at) ∷ []) c.net) (told_is Becomes net a a' a2 b ready target l rules targets (answers.Ready leaf socket won) h) go.becomes.becomes in
    finished Becomes net a a' a2 b ready target l rules targets (answers.Ready leaf socket won) h c shelf (faulted go.at)
    (record { before = raced; answer = answers.Ready leaf socket won; looped = Some looped.Faulted })
    becomes tt (h.show b.net c.net _ becomes).timed (λ at same. go.faulted)
    (subst IsClosedOnce (sym go.trace) (record { all = s.closed_once.all; once = s.closed_once.once }))
    (count ∙ ap length (race_items Becomes net a a' a2 b ready target l rules targets (answers.Ready leaf socket won) h)) refl refl refl
ended_so Becomes net a a' a2 b c ready target l rules targets (answers.Ready leaf socket won) h shelf None raced all count count_all go = absurd go
ended_so Becomes net a a' a2 b c ready target l rules targets x h shelf (Some o) raced all count count_all go = absurd go
ended_so Becomes net a a' a2 b c ready target l rules targets x h shelf None raced all count count_all go =
    let s = stands Becomes net a a' a2 b ready target l rules targets x h in
    let trace : (net c.net).trace ≡ item.Closed l.socket ∷ (net b.net).trace = ap (λ (v : Net). v.trace) go.changed in
    let items = items_behind Becomes net a a' a2 b ready target l rules targets x h c lost go.becomes.becomes in
    finished Becomes net a a' a2 b ready target l rules targets x h c shelf lost
    (record { before = all; answer = x; looped = None })
    go.becomes.becomes tt (ap (λ (v : Net). v.timed) go.changed) (λ at no. cc) (subst IsClosedOnce (sym trace) s.closed_once)
    (count_all ∙ ap length items) refl refl refl

pub ended_both : {N : Type 0} (Becomes : N → List Call → N → Type 0) (net : N → Net) (a a' a2 b c : Recorded N) (ready : Ready) (target : Target) (l : Listener) (rules : Rules) (targets : List Target) (x : RaceAnswer) (h : IsRacedOn Becomes net a a' a2 b ready target l rules targets x)
    (shelf : List Layer) (o : Option Looped) (first_items last_items : List Item) (raced all : ℕ) → raced ≡ length first_items → all ≡ length last_items → reverse first_items ≡ (net b.net).trace → reverse last_items ≡ (net c.net).trace
    → GoBehind (Records Becomes) b c (with_spare (net b.net) b.spare) (with_spare (net c.net) c.spare) shelf ready target targets l.socket x (Ok o)
    → HasRun Becomes a.net c.net (net a.net) (net c.net) (EndsBoth shelf ready target (Ok (record { before = count_before raced all o; answer = x; looped = o })))
ended_both Becomes net a a' a2 b c ready target l rules targets x h shelf o first_items last_items raced all count count_all recorded recorded_all go =
    ended_so Becomes net a a' a2 b c ready target l rules targets x h shelf o raced all
    (count ∙ sym (length-reverse first_items) ∙ ap length recorded) (count_all ∙ sym (length-reverse last_items) ∙ ap length recorded_all)
    (subst (λ v. GoBehind (Records Becomes) b c (with_spare (net b.net) b.spare) (with_spare (net c.net) c.spare) shelf ready target v l.socket x (Ok o)) h.same_targets go)

-- memory cut it short
cut_so : {N : Type 0} (Becomes : N → List Call → N → Type 0) (net : N → Net) (a a' a2 b c : Recorded N) (ready : Ready) (target : Target) (l : Listener) (rules : Rules) (targets : List Target) (x : RaceAnswer) (h : IsRacedOn Becomes net a a' a2 b ready target l rules targets x)
    (shelf : List Layer) (none : NoMemory) → GoBehind (Records Becomes) b c (with_spare (net b.net) b.spare) (with_spare (net c.net) c.spare) shelf ready target (targets_of ready) l.socket x (Err none)
    → HasRun Becomes a.net c.net (net a.net) (net c.net) (EndsBoth shelf ready target (Err none))
cut_so Becomes net a a' a2 b c ready target l rules targets (answers.Ready leaf socket won) h shelf none (inl go) =
    let s = stands Becomes net a a' a2 b ready target l rules targets (answers.Ready leaf socket won) h in
    let dl = ready.pre.exchange.deadline_ms in
    let becomes = subst (λ t. Becomes b.net (closes l.socket ∷ closes go.to ∷ closes socket ∷ (go.calls ++ accepts l.socket (deadline_by t dl) (accept.Accepted go.to go.at) ∷ [])) c.net) (told_is Becomes net a a' a2 b ready target l rules targets (answers.Ready leaf socket won) h) go.becomes.becomes in
    let once = subst IsClosedOnce (sym go.trace) (closed_looped l.socket socket go.to go.at go.items (net b.net).trace go.given.number (live_named (net b.net).trace l.socket (both _ _ s.accepts).0) (live_named (net b.net).trace socket s.winner.live) go.own s.closed_once) in
    cut_at Becomes net a a' a2 b ready target l rules targets (answers.Ready leaf socket won) h c shelf (exchanged go.to go.at go.calls outcome.Done) none becomes go.in_turn once
cut_so Becomes net a a' a2 b c ready target l rules targets (answers.Ready leaf socket won) h shelf none (inr go) =
    let s = stands Becomes net a a' a2 b ready target l rules targets (answers.Ready leaf socket won) h in
    cut_at Becomes net a a' a2 b ready target l rules targets (answers.Ready leaf socket won) h c shelf dropped none go.becomes.becomes tt (subst IsClosedOnce (sym go.trace) s.closed_once)
cut_so Becomes net a a' a2 b c ready target l rules targets x h shelf none go = absurd go

pub cut_both : {N : Type 0} (Becomes : N → List Call → N → Type 0) (net : N → Net) (a a' a2 b c : Recorded N) (ready : Ready) (target : Target) (l : Listener) (rules : Rules) (targets : List Target) (x : RaceAnswer) (h : IsRacedOn Becomes net a a' a2 b ready target l rules targets x)
    (shelf : List Layer) (none : NoMemory) → GoBehind (Records Becomes) b c (with_spare (net b.net) b.spare) (with_spare (net c.net) c.spare) shelf ready target targets l.socket x (Err none)
    → HasRun Becomes a.net c.net (net a.net) (net c.net) (EndsBoth shelf ready target (Err none))
cut_both Becomes net a a' a2 b c ready target l rules targets x h shelf none go =
    cut_so Becomes net a a' a2 b c ready target l rules targets x h shelf none
    (subst (λ v. GoBehind (Records Becomes) b c (with_spare (net b.net) b.spare) (with_spare (net c.net) c.spare) shelf ready target v l.socket x (Err none)) h.same_targets go)

-- the listen was refused
pub refused_both : {N : Type 0} (Becomes : N → List Call → N → Type 0) (net : N → Net) (a a' c : Recorded N) (ready : Ready) (target : Target) (shelf : List Layer) (cause : Cause) (items : List Item) (count : ℕ)
    → first_target (listened ready) ≡ Some target → AppendLaw Becomes → ShowLaw Becomes net → IsRoomy Becomes net a a' → IsRefused (Records Becomes) a' c (with_spare (net a'.net) a'.spare) (with_spare (net c.net) c.spare) target cause
    → count ≡ length items → reverse items ≡ (net c.net).trace
    → HasRun Becomes a.net c.net (net a.net) (net c.net) (EndsBoth shelf ready target (Ok (record { before = count; answer = answers.AllFailed; looped = None })))
refused_both Becomes net a a' c ready target shelf cause items count first on show room h counted recorded =
    let calls = listens target (listen.Refused cause h.at) ∷ [] in
    let becomes : Becomes a.net calls c.net = on a.net a'.net c.net [] calls room.none.becomes h.becomes.becomes in
    let trace : (net c.net).trace ≡ item.NotListening target cause h.at ∷ [] = ap (λ (v : Net). v.trace) h.changed ∙ ap (λ t. item.NotListening target cause h.at ∷ t) (ap (λ (v : Net). v.trace) room.roomy ∙ room.fresh) in
    record {
      calls = calls;
      becomes = becomes;
      shows = show a.net c.net calls becomes;
      holds = record {
        ended = record {
          held = refused target cause h.at;
          ran = inl (record { cause = cause; at = h.at; calls = refl; told = refl });
          items = trace;
          before = counted ∙ sym (length-reverse items) ∙ ap length (recorded ∙ trace);
          answer = refl;
          members = refl;
          outcome = refl;
        };
        leaves = inr (record { target = target; first = first; begun = inl (record { cause = cause; at = h.at; all = refl }) });
        closed_once = subst IsClosedOnce (sym trace) (record { all = λ s there. there; once = tt });
      };
    }

-- no race began: the listener was closed
pub unraced_both : {N : Type 0} (Becomes : N → List Call → N → Type 0) (net : N → Net) (a a' a2 b c : Recorded N) (ready : Ready) (target : Target) (shelf : List Layer) (l : Listener) (none : NoMemory)
    → first_target (listened ready) ≡ Some target → AppendLaw Becomes → ShowLaw Becomes net → IsRoomy Becomes net a a' → IsListening (Records Becomes) a' a2 (with_spare (net a'.net) a'.spare) (with_spare (net a2.net) a2.spare) target 1 l
    → with_spare (net b.net) b.spare ≡ with_spare (net a2.net) a2.spare → HasAdded (Records Becomes) a2 b (net a2.net).trace (net b.net).trace
    → HasStopped (Records Becomes) b c (with_spare (net b.net) b.spare) (with_spare (net c.net) c.spare) l.socket
    → HasRun Becomes a.net c.net (net a.net) (net c.net) (EndsBoth shelf ready target (Err none))
unraced_both Becomes net a a' a2 b c ready target shelf l none first on show room h same added stop =
    let start : (net a2.net).trace ≡ item.Listening target l.socket h.at ∷ [] = ap (λ (v : Net). v.trace) h.changed ∙ ap (λ t. item.Listening target l.socket h.at ∷ t) (ap (λ (v : Net). v.trace) room.roomy ∙ room.fresh) in
    let kept : (net b.net).trace ≡ (net a2.net).trace = ap (λ (v : Net). v.trace) same in
    let calls_none : added.calls ≡ [] = no_calls added.calls added.items (no_items added.items (net a2.net).trace (sym added.added ∙ kept)) added.each in
    let listened_calls = listens target (listen.Listening l.socket h.at) ∷ [] in
    let one : Becomes a.net listened_calls a2.net = on a.net a'.net a2.net [] listened_calls room.none.becomes h.becomes.becomes in
    let two : Becomes a.net listened_calls b.net = on a.net a2.net b.net listened_calls [] one (subst (λ (v : List Call). Becomes a2.net v b.net) calls_none added.becomes.becomes) in
    let calls = closes l.socket ∷ listened_calls in
    let becomes : Becomes a.net calls c.net = on a.net b.net c.net listened_calls (closes l.socket ∷ []) two stop.becomes.becomes in
    let trace : (net c.net).trace ≡ item.Closed l.socket ∷ item.Listening target l.socket h.at ∷ [] = ap (λ (v : Net). v.trace) stop.changed ∙ ap (λ t. item.Closed l.socket ∷ t) (kept ∙ start) in
    record {
      calls = calls;
      becomes = becomes;
      shows = show a.net c.net calls becomes;
      holds = record {
        ended = tt;
        leaves = inr (record { target = target; first = first; begun = inr (inl (record { listener = l.socket; since = h.at; all = refl })) });
        closed_once = subst IsClosedOnce (sym trace) (record { all = λ s there. there; once = (refl, tt) });
      };
    }

-- what is kept of it is what is told
kept : (e : LoopEnded) (items : List Item) (trace : List Item) (held s : Held) → trace ≡ held.after ++ held.before → e.before ≡ length held.before → held.answer ≡ Some e.answer → held.members ≡ members_by e.looped → held.outcome ≡ outcome_by e.looped
    → reverse items ≡ trace → s ≡ parted items e.before (Some e.answer) (members_by e.looped) (outcome_by e.looped) → s ≡ held
kept e items trace held s split count answer members outcome recorded is =
    is ∙ parts items held.before held.after e.before (Some e.answer) (members_by e.looped) (outcome_by e.looped) (recorded ∙ split) count
    ∙ rw (← answer, ← members, ← outcome) refl

pub held : {N T : Type 0} (First : T → List Call → T → Type 0) (Becomes : N → List Call → N → Type 0) (net : N → Net) (x y : T) (a b a' b' : N) (shelf : List Layer) (ready : Ready) (target : Target) (e : LoopEnded) (items : List Item) (s : Held)
    → first_target (listened ready) ≡ Some target → a' ≡ a → b' ≡ b → ((calls : List Call) → First x calls y → Becomes a' calls b') → reverse items ≡ (net b').trace
    → s ≡ parted items e.before (Some e.answer) (members_by e.looped) (outcome_by e.looped)
    → HasRun First x y (net a') (net b') (EndsBoth shelf ready target (Ok e)) → HasRun Becomes a b (net a) (net b) (HoldsBoth shelf ready (Ok s))
held First Becomes net x y a b a' b' shelf ready target e items s first ea eb to recorded is r =
    let k = r.holds.ended in
    let new : SocketsState = record { net = net b'; calls = r.calls } in
    let told = kept e items (net b').trace k.held s k.items k.before k.answer k.members k.outcome recorded is in
    let by : IsBothOn shelf ready (Some target) s (uncalled (net a')) new = subst (λ v. IsBothOn shelf ready (Some target) v (uncalled (net a')) new) (sym told) k.ran in
    let there : IsBoth shelf ready s (uncalled (net a')) new = subst (λ o. IsBothOn shelf ready o s (uncalled (net a')) new) (sym first) by in
    let all : HasRun First x y (net a') (net b') (HoldsBoth shelf ready (Ok s)) = record {
      calls = r.calls;
      becomes = r.becomes;
      shows = r.shows;
      holds = record { held = there; leaves = r.holds.leaves; closed_once = r.holds.closed_once };
    } in
    returned First Becomes net x y a b a' b' (HoldsBoth shelf ready (Ok s)) ea eb to all

-- the same of a copy of the target
pub refused_copy : {N : Type 0} (Becomes : N → List Call → N → Type 0) (net : N → Net) (a a' c : Recorded N) (ready : Ready) (target copy : Target) (shelf : List Layer) (cause : Cause) (items : List Item) (count : ℕ)
    → copy ≡ target → first_target (listened ready) ≡ Some target → AppendLaw Becomes → ShowLaw Becomes net → IsRoomy Becomes net a a' → IsRefused (Records Becomes) a' c (with_spare (net a'.net) a'.spare) (with_spare (net c.net) c.spare) copy cause
    → count ≡ length items → reverse items ≡ (net c.net).trace
    → HasRun Becomes a.net c.net (net a.net) (net c.net) (EndsBoth shelf ready target (Ok (record { before = count; answer = answers.AllFailed; looped = None })))
refused_copy Becomes net a a' c ready target copy shelf cause items count same first on show room h counted recorded =
    refused_both Becomes net a a' c ready target shelf cause items count first on show room (subst (λ t. IsRefused (Records Becomes) a' c (with_spare (net a'.net) a'.spare) (with_spare (net c.net) c.spare) t cause) same h) counted recorded

pub listening_copy : {N : Type 0} (Becomes : N → List Call → N → Type 0) (net : N → Net) (a' a2 : Recorded N) (target copy : Target) (l : Listener) → copy ≡ target
    → IsListening (Records Becomes) a' a2 (with_spare (net a'.net) a'.spare) (with_spare (net a2.net) a2.spare) copy 1 l → IsListening (Records Becomes) a' a2 (with_spare (net a'.net) a'.spare) (with_spare (net a2.net) a2.spare) target 1 l
listening_copy Becomes net a' a2 target copy l same h = subst (λ t. IsListening (Records Becomes) a' a2 (with_spare (net a'.net) a'.spare) (with_spare (net a2.net) a2.spare) t 1 l) same h

-- memory ran out: it is no answer
pub cut_by : {N : Type 0} (Becomes : N → List Call → N → Type 0) (net : N → Net) (a a' a2 b c : Recorded N) (ready : Ready) (target : Target) (l : Listener) (rules : Rules) (targets : List Target) (x : RaceAnswer) (h : IsRacedOn Becomes net a a' a2 b ready target l rules targets x)
    (shelf : List Layer) (none : NoMemory) (r : Result LoopEnded NoMemory) → IsErr r → GoBehind (Records Becomes) b c (with_spare (net b.net) b.spare) (with_spare (net c.net) c.spare) shelf ready target targets l.socket x (Err none)
    → HasRun Becomes a.net c.net (net a.net) (net c.net) (EndsBoth shelf ready target r)
cut_by Becomes net a a' a2 b c ready target l rules targets x h shelf none (Ok e) err go = absurd (let wrong : false ≡ true = err in cc)
cut_by Becomes net a a' a2 b c ready target l rules targets x h shelf none (Err other) err go = cut_both Becomes net a a' a2 b c ready target l rules targets x h shelf other (by_none Becomes net b c ready target l targets x shelf none other go)
  where
    by_none : {N : Type 0} (Becomes : N → List Call → N → Type 0) (net : N → Net) (b c : Recorded N) (ready : Ready) (target : Target) (l : Listener) (targets : List Target) (x : RaceAnswer) (shelf : List Layer) (none other : NoMemory)
        → GoBehind (Records Becomes) b c (with_spare (net b.net) b.spare) (with_spare (net c.net) c.spare) shelf ready target targets l.socket x (Err none) → GoBehind (Records Becomes) b c (with_spare (net b.net) b.spare) (with_spare (net c.net) c.spare) shelf ready target targets l.socket x (Err other)
    by_none Becomes net b c ready target l targets (answers.Ready leaf socket at) shelf none other go = go
    by_none Becomes net b c ready target l targets x shelf none other go = absurd go
