-- The calls on a connection are those of the session that serves it, and behind its exchange it is closed.
use Rattle.std.proofs.Common.{◌≡◌, ℕ, Bool, true, false, List, [], ◌∷◌, ◌++◌, length, Option, Some, None, refl, ap, sym, subst, ◌∙◌}
use Rattle.std.specs.Prelude.{Result, Ok, Err}
use Rattle.taps_base.specs.declared.no_memory.NoMemory.{NoMemory}
use Rattle.taps_socket.specs.declared.answers.SendAnswer.TheVariants as send
use Rattle.taps_socket.specs.declared.answers.RecvAnswer.TheVariants as recv
use Rattle.taps_socket.specs.Calls.{Call, sends, receives, shuts, closes, begins, starts, waits, listens, accepts, Request, to_begin, to_close, to_send, to_shut, to_receive, request_of}
use Rattle.taps_connection.specs.Outboxes.{Stand, begun, ending, refused, all_out}
use Rattle.taps_exchange.specs.declared.exchanged.Exchanged.{Exchanged}
use Rattle.taps_exchange.specs.declared.outcome.Outcome.{Outcome}
use Rattle.taps_exchange.specs.declared.outcome.Outcome.TheVariants as outcome
use Rattle.taps_exchange.specs.Decodings.{Hearing, enough, lacks, breaks}
use Rattle.taps_exchange.specs.Members.{Member, has_ended}
use Rattle.taps_exchange.specs.Turns.{asks, over, stop, unless, turn_in, turn_out}
use Rattle.taps_listening.specs.Accepts.{is_done, IsServedNext, IsCutBut, HasServedOne}
use Rattle.taps_listening.specs.ListenRules.{ListenRules}
use Rattle.taps_listening.specs.Listening.{serving, course_at, course_by, course_from, served_by, phase_behind, outcome_in, closing_by, turn_at, AllInTurn}
use Rattle.taps_listening.specs.Served.{HasServed, IsServedOut, IsServedShort}
use Rattle.taps_listening.specs.Serving.{Served, member_of, outbox_of, hearing_of, own_outcome, turn_by, turn_serving, with_call, with_call_by, served_after, AllServing}

-- what is asked on a connection
abbrev pub is_serving : Request → Bool
is_serving to_begin = true
is_serving (to_send s bytes u) = true
is_serving (to_shut s) = true
is_serving (to_receive s most u) = true
is_serving _ = false

in_asks : (m : Member) (s : Option Outcome) (e : Bool) (h : Hearing) (q : Request) → unless s (turn_in m e h (asks to_begin)) ≡ asks q → is_serving q ≡ true
in_asks m (Some o) e h q a = cc
in_asks m None e (enough ms) q a = (let x : to_begin ≡ q = cc in ap is_serving (sym x))
in_asks m None true (lacks ms unread) q a = cc
in_asks m None false (lacks ms unread) q a = (let x : to_receive m.socket (m.decoding.most m.piece unread) m.until ≡ q = cc in ap is_serving (sym x))
in_asks m None e (breaks ms layer place) q a = cc

out_asks : (m : Member) (place : ℕ) (s : Option Outcome) (stand : Stand) (o : Outcome) (q : Request) → unless s (turn_out m place stand (over o)) ≡ asks q → is_serving q ≡ true
out_asks m place (Some p) stand o q a = cc
out_asks m place None (begun number ends rest behind) o q a = (let x : to_send m.socket rest m.until ≡ q = cc in ap is_serving (sym x))
out_asks m place None (ending behind) o q a = (let x : to_shut m.socket ≡ q = cc in ap is_serving (sym x))
out_asks m place None (refused number layer behind) o q a = cc
out_asks m place None all_out o q a = cc

asks_by : (r : ListenRules) (place : ℕ) (c : Served) (a : Option ℕ) (q : Request) → turn_by r place c a ≡ asks q → is_serving q ≡ true
asks_by r place c None q h = in_asks (member_of r c) (stop c.hears) (has_ended c.hears) (hearing_of r c) q h
asks_by r place c (Some at) q h = out_asks (member_of r c) place (stop c.answers) (outbox_of r c).stand (own_outcome r place c) q h

pub asks_serving : (r : ListenRules) (place : ℕ) (c : Served) (q : Request) → turn_serving r place c ≡ asks q → is_serving q ≡ true
asks_serving r place c q h = asks_by r place c c.answered q h

-- an outcome by which a call ended the exchange is neither Done nor Expired
stop_ends : (calls : List Call) (p : Outcome) → stop calls ≡ Some p → is_done p ≡ false
stop_ends [] p e = cc
stop_ends (sends s b u (send.Sent count at) ∷ calls) p e = cc
stop_ends (sends s b u (send.Timed at) ∷ calls) p e = (let x : outcome.Timed ≡ p = cc in ap is_done (sym x))
stop_ends (sends s b u (send.Failed cause) ∷ calls) p e = (let x : outcome.DataFailed cause ≡ p = cc in ap is_done (sym x))
stop_ends (receives s most u came (recv.Got count at) ∷ calls) p e = cc
stop_ends (receives s most u came recv.End ∷ calls) p e = cc
stop_ends (receives s most u came (recv.Timed at) ∷ calls) p e = (let x : outcome.Timed ≡ p = cc in ap is_done (sym x))
stop_ends (receives s most u came (recv.Failed cause) ∷ calls) p e = (let x : outcome.DataFailed cause ≡ p = cc in ap is_done (sym x))
stop_ends (shuts s ∷ calls) p e = cc
stop_ends (closes s ∷ calls) p e = cc
stop_ends (begins at ∷ calls) p e = cc
stop_ends (starts l g x ∷ calls) p e = cc
stop_ends (waits u x ∷ calls) p e = cc
stop_ends (listens g x ∷ calls) p e = cc
stop_ends (accepts l u x ∷ calls) p e = cc

not_both : (o p : Outcome) → p ≡ o → is_done p ≡ false → is_done o ≡ true → ⊥
not_both o p e f t = (let x : false ≡ true = sym f ∙ (ap is_done e ∙ t) in cc)

in_over : (m : Member) (s : Option Outcome) (e : Bool) (h : Hearing) (o : Outcome) → ((p : Outcome) → s ≡ Some p → is_done p ≡ false) → unless s (turn_in m e h (asks to_begin)) ≡ over o → is_done o ≡ true → ⊥
in_over m (Some p) e h o ends a done = not_both o p (let x : over p ≡ over o = a in cc) (ends p refl) done
in_over m None e (enough ms) o ends a done = (let x : asks to_begin ≡ over o = a in cc)
in_over m None true (lacks ms unread) o ends a done = not_both o outcome.PeerEnded (let x : over outcome.PeerEnded ≡ over o = a in cc) refl done
in_over m None false (lacks ms unread) o ends a done = (let x : asks (to_receive m.socket (m.decoding.most m.piece unread) m.until) ≡ over o = a in cc)
in_over m None e (breaks ms layer place) o ends a done =
    not_both o (outcome.BadFrame (record { message = length ms; layer = layer; place = place })) (let x : over (outcome.BadFrame (record { message = length ms; layer = layer; place = place })) ≡ over o = a in cc) refl done

out_over : (m : Member) (place : ℕ) (s : Option Outcome) (stand : Stand) (own o : Outcome) → ((p : Outcome) → s ≡ Some p → is_done p ≡ false) → unless s (turn_out m place stand (over own)) ≡ over o → is_done o ≡ true → own ≡ o
out_over m place (Some p) stand own o ends a done = absurd (not_both o p (let x : over p ≡ over o = a in cc) (ends p refl) done)
out_over m place None (begun number ends' rest behind) own o ends a done = cc
out_over m place None (ending behind) own o ends a done = cc
out_over m place None (refused number layer behind) own o ends a done =
    absurd (not_both o (outcome.NotSpeakable place number layer) (let x : over (outcome.NotSpeakable place number layer) ≡ over o = a in cc) refl done)
out_over m place None all_out own o ends a done = cc

over_by : (r : ListenRules) (place : ℕ) (c : Served) (a : Option ℕ) (o : Outcome) → turn_by r place c a ≡ over o → is_done o ≡ true → own_outcome r place c ≡ o
over_by r place c None o h done = absurd (in_over (member_of r c) (stop c.hears) (has_ended c.hears) (hearing_of r c) o (stop_ends c.hears) h done)
over_by r place c (Some at) o h done = out_over (member_of r c) place (stop c.answers) (outbox_of r c).stand (own_outcome r place c) o (stop_ends c.answers) h done

pub over_done : (r : ListenRules) (place : ℕ) (c : Served) (o : Outcome) → turn_serving r place c ≡ over o → is_done o ≡ true → own_outcome r place c ≡ o
over_done r place c o h done = over_by r place c c.answered o h done

-- its socket stays
same_by : (c : Served) (a : Option ℕ) (call : Call) → (with_call_by c a call).socket ≡ c.socket
same_by c None (sends s b u answer) = refl
same_by c None (receives s most u came answer) = refl
same_by c None (shuts s) = refl
same_by c None (closes s) = refl
same_by c None (begins at) = refl
same_by c None (starts l g x) = refl
same_by c None (waits u x) = refl
same_by c None (listens g x) = refl
same_by c None (accepts l u x) = refl
same_by c (Some at) call = refl

pub same_socket : (c : Served) (call : Call) → (with_call c call).socket ≡ c.socket
same_socket c call = same_by c c.answered call

pub socket_after : (c : Served) (calls : List Call) → (served_after c calls).socket ≡ c.socket
socket_after c [] = refl
socket_after c (call ∷ calls) = same_socket (served_after c calls) call ∙ socket_after c calls

-- such a call leaves the session serving
pub served_on_by : (r : ListenRules) (listener : ℕ) (served : List Served) (c : Served) (call : Call) → is_serving (request_of call) ≡ true → served_by r listener served c call ≡ course_at served (serving listener (with_call c call))
served_on_by r listener served c (sends s b u answer) h = refl
served_on_by r listener served c (receives s most u came answer) h = refl
served_on_by r listener served c (shuts s) h = refl
served_on_by r listener served c (begins at) h = refl
served_on_by r listener served c (closes s) h = cc
served_on_by r listener served c (starts l g x) h = cc
served_on_by r listener served c (waits u x) h = cc
served_on_by r listener served c (listens g x) h = cc
served_on_by r listener served c (accepts l u x) h = cc

module _ (r : ListenRules) (listener : ℕ) (served : List Served) where
  reaches_serving : (c : Served) (calls : List Call) → AllServing r (length served) c calls → course_from r (course_at served (serving listener c)) calls ≡ course_at served (serving listener (served_after c calls))
  reaches_serving c [] a = refl
  reaches_serving c (call ∷ calls) a =
      ap (λ v. course_by r v call) (reaches_serving c calls a.1)
      ∙ served_on_by r listener served (served_after c calls) call (asks_serving r (length served) (served_after c calls) (request_of call) a.0)

  turns_serving : (c : Served) (calls : List Call) → AllServing r (length served) c calls → AllInTurn r (course_at served (serving listener c)) calls
  turns_serving c [] a = tt
  turns_serving c (call ∷ calls) a = (
    ap (turn_at r) (reaches_serving c calls a.1) ∙ ap (closing_by (served_after c calls).socket) a.0,
    turns_serving c calls a.1,
  )

  module _ {N : Type 0} (Becomes : N → List Call → N → Type 0) (x y z : N) (c : Served) (on : (a b c : N) (g h : List Call) → Becomes a g b → Becomes b h c → Becomes a (h ++ g) c) (close : Becomes y (closes c.socket ∷ []) z) where
    -- the exchange over it was over, and it was closed
    pub closes_out : (o : Outcome) (sent : ℕ) (heard : List (List ℕ)) → IsServedOut Becomes r (length served) x y c o sent heard → IsServedNext Becomes r x z listener (course_at served (serving listener c)) served o sent heard
    closes_out o sent heard h =
        let s = h.serves in
        let at : course_from r (course_at served (serving listener c)) s.calls ≡ course_at served (serving listener h.out) = reaches_serving c s.calls s.in_turn ∙ ap (λ v. course_at served (serving listener v)) s.reaches in
        let same : h.out.socket ≡ c.socket = sym (ap (λ (v : Served). v.socket) s.reaches) ∙ socket_after c s.calls in
        record {
          out = h.out;
          goes = record {
            calls = closes c.socket ∷ s.calls;
            becomes = on x y z s.calls (closes c.socket ∷ []) s.becomes close;
            in_turn = (
              ap (turn_at r) at ∙ (ap (closing_by h.out.socket) h.is_over ∙ ap (λ (v : ℕ). asks (to_close v)) same),
              turns_serving c s.calls s.in_turn,
            );
            reaches = ap (λ v. course_by r v (closes c.socket)) at ∙ ap (λ v. course_at (h.out ∷ served) (phase_behind r listener (h.out ∷ served) (outcome_in v))) h.is_over;
          };
          told = h.told;
          own = over_done r (length served) h.out o h.is_over;
        }

    pub closes_short : IsServedShort Becomes r (length served) x y c → IsCutBut Becomes r x z listener (course_at served (serving listener c))
    closes_short h =
        let s = h.serves in
        let same : h.out.socket ≡ c.socket = sym (ap (λ (v : Served). v.socket) s.reaches) ∙ socket_after c s.calls in
        record {
          calls = s.calls;
          course = course_at served (serving listener h.out);
          in_turn = turns_serving c s.calls s.in_turn;
          reaches = reaches_serving c s.calls s.in_turn ∙ ap (λ v. course_at served (serving listener v)) s.reaches;
          listens = refl;
          becomes = subst (λ (v : ℕ). Becomes x (closes v ∷ s.calls) z) (sym same) (on x y z s.calls (closes c.socket ∷ []) s.becomes close);
        }

    pub closes_one : (result : Result Exchanged NoMemory) → HasServed Becomes r (length served) x y c result → HasServedOne Becomes r x z listener (course_at served (serving listener c)) served result
    closes_one (Ok e) h = closes_out e.outcome e.sent e.heard.items h
    closes_one (Err none) h = closes_short h
