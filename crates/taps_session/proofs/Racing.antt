-- What a race that was carried out from the first item on leaves to a session.
use Rattle.std.proofs.Common.{◌≡◌, ◌+◌, ◌*◌, ◌≤◌, ◌&&◌, ℕ, Bool, true, false, List, [], ◌∷◌, ◌++◌, Option, Some, None, length, slice_get, refl, ap, sym, ◌∙◌, subst, arith, not, append-nil, map, eq-eqb}
use Rattle.taps_base.specs.Counts.{Rose}
use Rattle.taps_stack.specs.declared.target.Target.{Target}
use Rattle.taps_stack.specs.StackTable.{is_stream}
use Rattle.taps_socket.specs.declared.item.Item.{Item}
use Rattle.taps_socket.specs.declared.race_answer.RaceAnswer.{RaceAnswer}
use Rattle.taps_socket.specs.declared.race_answer.RaceAnswer.TheVariants as answer
use Rattle.taps_socket.specs.Calls.{Call, items_by, HasAdded}
use Rattle.taps_socket.specs.RaceSockets.{has, closed, started, open_sockets}
use Rattle.taps_socket.specs.RaceTrace.{last_moment}
use Rattle.taps_socket.specs.Sides.{carries_stream, is_connected, shut, ended, target_of}
use Rattle.taps_socket.specs.Once.{IsOnce}
use Rattle.taps_socket.specs.Rules.{Rules}
use Rattle.taps_socket.specs.LawfulRace.{IsLawfulRace, WinnerAlone}
use Rattle.taps_socket.specs.Net.{Net, IsUnused, with_spare}
use Rattle.taps_socket.proofs.Lists.{kept as kept_of}
use Rattle.taps_racer.specs.Kept.{Kept}
use Rattle.taps_racer.specs.CarriedOut.{HasAnswer, IsWinner, NamesWinner, IsCarriedOut, HasCarriedOut}
use Rattle.taps_command.specs.Ready.{Ready}
use Rattle.taps_session.specs.FileSessions.{rules_of, targets_of}
use Rattle.taps_session.specs.Raced.{HasWinner, HasUnusedWinner, IsRaced, IsWon}
use Rattle.taps_session.specs.Sessions.{stack_of}
use Rattle.taps_session.proofs.Closes.{closed_once}
use Rattle.taps_session.proofs.Ending.{HasRace, AppendLaw}

first_of : (a b : Bool) → (a && b) ≡ true → a ≡ true
first_of true b h = refl
first_of false b h = h

second_of : (a b : Bool) → (a && b) ≡ true → b ≡ true
second_of true b h = h
second_of false b h = (let wrong : false ≡ true = h in cc)

not_so : (a : Bool) → not a ≡ true → a ≡ false
not_so true h = (let wrong : false ≡ true = h in cc)
not_so false h = refl

-- the stack of a target tells whether its socket carries a stream
stream_of : (trace : List Item) (socket : ℕ) (o : Option Target) → target_of trace socket ≡ o → carries_stream trace socket ≡ is_stream (stack_of o)
stream_of trace socket None e = rw e refl
stream_of trace socket (Some target) e = rw e refl

-- an exchange may begin on the winner's socket
won : (targets : List Target) (race trace : List Item) (leaf socket : ℕ) → IsWinner targets race trace leaf socket → IsWon targets trace leaf socket
won targets race trace leaf socket w =
    let connected = first_of (is_connected trace socket) (not (has (shut trace) socket)) w.sends in
    let unshut = not_so (has (shut trace) socket) (second_of (is_connected trace socket) (not (has (shut trace) socket)) w.sends) in
    let unended = not_so (has (ended trace) socket) (second_of (is_connected trace socket) (not (has (ended trace) socket)) w.receives) in
    record {
      listed = w.listed;
      live = w.live;
      held = record { connected = connected; carries = stream_of trace socket (slice_get targets leaf) w.target; shut_by = unshut; ended_by = unended };
    }

pub winner_of : (targets : List Target) (race trace : List Item) (a : RaceAnswer) → NamesWinner targets race trace a → HasWinner targets trace a
winner_of targets race trace (answer.Ready leaf socket at) h = won targets race trace leaf socket h
winner_of targets race trace a h = tt

-- its socket was started in the race, whose sockets have no traffic
first_same : (s : ℕ) → has (s ∷ []) s ≡ true
first_same s = rw (eq-eqb s s refl) refl

pub unused_winner : (after : Net) (t : List Item) (a : RaceAnswer) → WinnerAlone a (open_sockets t) → ((s : ℕ) → has (started t) s ≡ true → IsUnused (after.traffic s)) → HasUnusedWinner after a
unused_winner after t (answer.Ready leaf socket at) alone unused =
    let is_open : has (open_sockets t) socket ≡ true = subst (λ v. has v socket ≡ true) (sym alone) (first_same socket) in
    unused socket (kept_of (λ s. not (has (closed t) s)) (started t) socket is_open).1
unused_winner after t a alone unused = tt

-- the first item of the race is the first of all
whole : (rules : Rules) (targets : List Target) (before after : Net) (t : List Item) (a : RaceAnswer) → before.trace ≡ [] → 4 * length targets + 4 ≤ before.spare → after.trace ≡ t → IsCarriedOut rules 0 targets before after t a → IsRaced rules targets before after a
whole rules targets before after t a fresh room all c =
    let few = c.few in
    let lowered = c.room in
    let named : NamesWinner targets after.trace after.trace a = subst (λ v. NamesWinner targets v after.trace a) (sym all) c.winner in
    let winner : HasWinner targets after.trace a = winner_of targets after.trace after.trace a named in
    let lawful : IsLawfulRace rules 0 targets after.trace a = subst (λ v. IsLawfulRace rules 0 targets v a) (sym all) c.lawful in
    record {
      lawful = lawful;
      winner = winner;
      unused = unused_winner after t a c.lawful.over.winner_alone c.unused;
      told_last = subst (λ v. after.told ≡ last_moment v) (sym all) c.told_last;
      closed_once = closed_once targets after.trace a lawful.race.race_trace lawful.over.winner_alone winner (c.closed_once (subst (λ v. IsOnce (closed v)) (sym fresh) tt));
      room = omega arith;
      used = omega arith;
      idle = c.idle;
      preserved = c.preserved;
      fault = c.fault;
    }

pub same_answer : (kept : Kept) (a b : RaceAnswer) → HasAnswer kept a → HasAnswer kept b → a ≡ b
same_answer kept a b ha hb = let e : Some a ≡ Some b = sym ha ∙ hb in cc

pub raced : (rules : Rules) (targets : List Target) (before after : Net) (kept : Kept) (a : RaceAnswer) → before.trace ≡ [] → 4 * length targets + 4 ≤ before.spare → HasCarriedOut rules 0 targets before after kept → HasAnswer kept a → IsRaced rules targets before after a
raced rules targets before after kept a fresh room (t, b, hb, c) ha =
    subst (IsRaced rules targets before after) (same_answer kept b a hb ha)
    (whole rules targets before after t b fresh room (c.items ∙ (ap (λ v. t ++ v) fresh ∙ append-nil t)) c)

-- the race of a file's session, whose room was made by no call
pub race_of : {S : Type 0} (Becomes : S → List Call → S → Type 0) (a a' b : S) (n n' n1 : Net) (ready : Ready) (rules : Rules) (targets : List Target) (x : RaceAnswer)
    → AppendLaw Becomes → n.trace ≡ [] → n' ≡ with_spare n n'.spare → Becomes a [] a' → rules ≡ rules_of ready → targets ≡ targets_of ready
    → (added : HasAdded Becomes a' b n'.trace n1.trace) → IsRaced rules targets n' n1 x
    → HasRace Becomes a b n n1 ready (added.calls ++ []) added.items x
race_of Becomes a a' b n n' n1 ready rules targets x on fresh roomy none same_rules same_targets added r =
    let kept : n'.trace ≡ n.trace = ap (λ (v : Net). v.trace) roomy in
    let items : n1.trace ≡ added.items ++ n.trace = added.added ∙ ap (λ v. added.items ++ v) kept in
    let only : n1.trace ≡ added.items = items ∙ ap (λ v. added.items ++ v) fresh ∙ append-nil added.items in
    let one : IsLawfulRace (rules_of ready) 0 targets n1.trace x = subst (λ v. IsLawfulRace v 0 targets n1.trace x) same_rules r.lawful in
    let two : IsLawfulRace (rules_of ready) 0 (targets_of ready) n1.trace x = subst (λ v. IsLawfulRace (rules_of ready) 0 v n1.trace x) same_targets one in
    record {
      becomes = on a a' b [] added.calls none added.becomes;
      each = ap (λ v. map items_by v) (append-nil added.calls) ∙ added.each;
      items = items;
      lawful = subst (λ v. IsLawfulRace (rules_of ready) 0 (targets_of ready) v x) only two;
      timed = ap (λ (v : Net). v.timed) r.preserved ∙ ap (λ (v : Net). v.timed) roomy;
      unused = r.unused;
      fault = λ h. subst (λ v. Rose v n1.faults) (ap (λ (v : Net). v.faults) roomy) (r.fault h);
      closed_once = r.closed_once;
    }
