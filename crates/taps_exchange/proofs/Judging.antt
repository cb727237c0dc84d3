-- The causes of outcomes follow from the turns.
use Rattle.std.proofs.Common.{◌≡◌, ◌≤◌, ℕ, ◌+◌, Bool, true, false, List, [], ◌∷◌, ◌++◌, length, Option, Some, None, refl, sym, ap, ◌∙◌, subst, arith}
use Rattle.taps_socket.specs.declared.item.Item.{Item}
use Rattle.taps_socket.specs.declared.item.Item.TheVariants as item
use Rattle.taps_socket.specs.declared.answers.SendAnswer.TheVariants as send
use Rattle.taps_socket.specs.declared.answers.RecvAnswer.TheVariants as recv
use Rattle.taps_socket.specs.declared.timed_call.TimedCall.{TimedCall}
use Rattle.taps_socket.specs.Calls.{Call, sends, receives, shuts, closes, begins, starts, waits, listens, accepts, Request, request_of, items_by, items_of}
use Rattle.taps_socket.specs.Shows.{timed_by, timed_after, count_with}
use Rattle.taps_connection.specs.Outboxes.{Stand, begun, ending, refused, all_out}
use Rattle.taps_exchange.specs.declared.outcome.Outcome.{Outcome}
use Rattle.taps_exchange.specs.declared.outcome.Outcome.TheVariants as outcome
use Rattle.taps_exchange.specs.Decodings.{Hearing, enough, lacks, breaks}
use Rattle.taps_exchange.specs.Members.{Member, has_ended, outbox_after, hearing_after}
use Rattle.taps_exchange.specs.Turns.{Turn, asks, over, turn_alone, IsInTurn, IsExchange, stop, stop_by, unless, done_or, turn_in, turn_out}
use Rattle.taps_exchange.specs.Outcomes.{IsOut, EndsTimed, HasCause, count_by, AreExchangeItems, count_failures, JudgesExchanges}
use Rattle.taps_exchange.proofs.Asked.{IsSendOf, send_asks, shut_asks, IsReceiveOf, receive_asks, data_asks}
use Rattle.taps_exchange.proofs.WritingCalls.{written}
use Rattle.taps_exchange.proofs.Expiring.{in_time}

same_outcome : (o p : Outcome) → over o ≡ over p → o ≡ p
same_outcome o p e = cc

not_over : (r : Request) (o : Outcome) → asks r ≡ over o → ⊥
not_over r o e = cc

done_cause : (m : Member) (calls : List Call) (o : Outcome) (x : Option ℕ) (ms : List (List ℕ)) → IsOut m calls → (outbox_after m calls).expired ≡ x → hearing_after m calls ≡ enough ms → done_or x 0 outcome.Done ≡ o → HasCause m calls o
done_cause m calls o None ms out e h p = subst (HasCause m calls) p (out, (e, (ms, h)))
done_cause m calls o (Some n) ms out e h p = subst (HasCause m calls) p (out, (e, (refl, (ms, h))))

cause_in : (m : Member) (calls : List Call) (o : Outcome) (b : Bool) (h : Hearing) → IsOut m calls → has_ended calls ≡ b → hearing_after m calls ≡ h → turn_in m b h (over (done_or (outbox_after m calls).expired 0 outcome.Done)) ≡ over o → HasCause m calls o
cause_in m calls o b (enough ms) out d h p = done_cause m calls o _ ms out refl h (same_outcome _ o p)
cause_in m calls o true (lacks ms u) out d h p = subst (HasCause m calls) (same_outcome outcome.PeerEnded o p) (out, (d, (ms, (u, h))))
cause_in m calls o false (lacks ms u) out d h p = absurd (not_over _ o p)
cause_in m calls o b (breaks ms l q) out d h p =
    subst (HasCause m calls) (same_outcome (outcome.BadFrame (record { message = length ms; layer = l; place = q })) o p)
    (out, record { messages = ms; layer = l; place = q; heard = h; told = refl })

cause_by : (m : Member) (calls : List Call) (o : Outcome) (stand : Stand) → (outbox_after m calls).stand ≡ stand →
    turn_out m 0 stand (turn_in m (has_ended calls) (hearing_after m calls) (over (done_or (outbox_after m calls).expired 0 outcome.Done))) ≡ over o → HasCause m calls o
cause_by m calls o (begun n ends rest behind) e p = absurd (not_over _ o p)
cause_by m calls o (ending behind) e p = absurd (not_over _ o p)
cause_by m calls o (refused n l behind) e p = subst (HasCause m calls) (same_outcome (outcome.NotSpeakable 0 n l) o p) ((behind, e), refl)
cause_by m calls o all_out e p = cause_in m calls o _ _ e refl refl p

-- the newest call ends the exchange
timed_send : (m : Member) (calls : List Call) (s : ℕ) (bytes : List ℕ) (u at : ℕ) (r : IsSendOf m (outbox_after m calls).stand s bytes u) → EndsTimed m (sends s bytes u (send.Timed at) ∷ calls)
timed_send m calls s bytes u at r =
    record { call = sends s bytes u (send.Timed at); earlier = calls; newest = refl; timed = _; told = refl; own = r.own; bounded = r.bounded }

timed_receive : (m : Member) (calls : List Call) (s most u : ℕ) (came : List ℕ) (at : ℕ) (r : IsReceiveOf m s u) → EndsTimed m (receives s most u came (recv.Timed at) ∷ calls)
timed_receive m calls s most u came at r =
    record { call = receives s most u came (recv.Timed at); earlier = calls; newest = refl; timed = _; told = refl; own = r.own; bounded = r.bounded }

stop_cause : (m : Member) (calls : List Call) (call : Call) (o : Outcome) → turn_alone m calls ≡ asks (request_of call) → stop_by call ≡ Some o → HasCause m (call ∷ calls) o
stop_cause m calls (sends s b u (send.Sent count at)) o t e = cc
stop_cause m calls (sends s b u (send.Timed at)) o t e =
    let z : outcome.Timed ≡ o = cc in
    subst (HasCause m (sends s b u (send.Timed at) ∷ calls)) z (timed_send m calls s b u at (send_asks m (stop calls) (outbox_after m calls).stand _ _ _ s b u t))
stop_cause m calls (sends s b u (send.Failed cause)) o t e =
    let z : outcome.DataFailed cause ≡ o = cc in
    let r = send_asks m (stop calls) (outbox_after m calls).stand _ _ _ s b u t in
    subst (HasCause m (sends s b u (send.Failed cause) ∷ calls)) z
    (record { call = sends s b u (send.Failed cause); earlier = calls; newest = refl; sending = true; failed = ap (λ n. item.DataFailed n true cause ∷ []) r.own })
stop_cause m calls (receives s most u came (recv.Got count at)) o t e = cc
stop_cause m calls (receives s most u came recv.End) o t e = cc
stop_cause m calls (receives s most u came (recv.Timed at)) o t e =
    let z : outcome.Timed ≡ o = cc in
    subst (HasCause m (receives s most u came (recv.Timed at) ∷ calls)) z (timed_receive m calls s most u came at (receive_asks m (stop calls) (outbox_after m calls).stand _ _ _ s most u t))
stop_cause m calls (receives s most u came (recv.Failed cause)) o t e =
    let z : outcome.DataFailed cause ≡ o = cc in
    let r = receive_asks m (stop calls) (outbox_after m calls).stand _ _ _ s most u t in
    subst (HasCause m (receives s most u came (recv.Failed cause) ∷ calls)) z
    (record { call = receives s most u came (recv.Failed cause); earlier = calls; newest = refl; sending = false; failed = ap (λ n. item.DataFailed n false cause ∷ []) r.own })
stop_cause m calls (shuts s) o t e = cc
stop_cause m calls (closes s) o t e = cc
stop_cause m calls (begins at) o t e = cc
stop_cause m calls (starts l g a) o t e = cc
stop_cause m calls (waits u a) o t e = cc
stop_cause m calls (listens g a) o t e = cc
stop_cause m calls (accepts l u a) o t e = cc

cause_stop : (m : Member) (calls : List Call) (o : Outcome) → IsInTurn (turn_alone m) calls → stop calls ≡ Some o → HasCause m calls o
cause_stop m [] o t e = cc
cause_stop m (call ∷ calls) o t e = stop_cause m calls call o t.0 e

cause_after : (m : Member) (calls : List Call) (o : Outcome) (s : Option Outcome) → IsInTurn (turn_alone m) calls → stop calls ≡ s →
    unless s (turn_out m 0 (outbox_after m calls).stand (turn_in m (has_ended calls) (hearing_after m calls) (over (done_or (outbox_after m calls).expired 0 outcome.Done)))) ≡ over o → HasCause m calls o
cause_after m calls o None t e p = cause_by m calls o _ refl p
cause_after m calls o (Some q) t e p = cause_stop m calls o t (e ∙ ap (λ v. Some v) (same_outcome q o p))

pub cause_of : (m : Member) (calls : List Call) (o : Outcome) → IsExchange (turn_alone m) calls o → HasCause m calls o
cause_of m calls o x = cause_after m calls o _ x.in_turn refl x.ends

-- one timed call more, where the newest call says so
abbrev count_stop : Option Outcome → ℕ → ℕ
count_stop None n = n
count_stop (Some o) n = count_by o n

asks_go : (o : Option Outcome) (t : Turn) (r : Request) → unless o t ≡ asks r → o ≡ None
asks_go None t r e = refl
asks_go (Some o) t r e = absurd (not_over r o (sym e))

timed_newest : (m : Member) (calls : List Call) (c : Call) (n : ℕ) → turn_alone m calls ≡ asks (request_of c) → count_with (timed_by c) n ≡ count_stop (stop_by c) n
timed_newest m calls (sends s b u (send.Sent count at)) n t = refl
timed_newest m calls (sends s b u (send.Timed at)) n t = refl
timed_newest m calls (sends s b u (send.Failed cause)) n t = refl
timed_newest m calls (receives s most u came (recv.Got count at)) n t = refl
timed_newest m calls (receives s most u came recv.End) n t = refl
timed_newest m calls (receives s most u came (recv.Timed at)) n t = refl
timed_newest m calls (receives s most u came (recv.Failed cause)) n t = refl
timed_newest m calls (shuts s) n t = refl
timed_newest m calls (closes s) n t = refl
timed_newest m calls (begins at) n t = refl
timed_newest m calls (starts l g a) n t = refl
timed_newest m calls (waits u a) n t = refl
timed_newest m calls (listens g a) n t = refl
timed_newest m calls (accepts l u a) n t = absurd (data_asks m (stop calls) (outbox_after m calls).stand _ _ _ (accepts l u a) t)

timed_is : (m : Member) (calls : List Call) (n : ℕ) → IsInTurn (turn_alone m) calls → timed_after calls n ≡ count_stop (stop calls) n
timed_is m [] n t = refl
timed_is m (c ∷ calls) n t =
    ap (λ v. count_with (timed_by c) v) (timed_is m calls n t.1 ∙ ap (λ v. count_stop v n) (asks_go (stop calls) _ _ t.0)) ∙ timed_newest m calls c n t.0

count_outcome : (m : Member) (calls : List Call) (o : Outcome) (s : Option Outcome) (t : Turn) (n : ℕ) → stop calls ≡ s → unless s t ≡ over o → (stop calls ≡ None → o ≡ outcome.Timed → ⊥) → count_stop s n ≡ count_by o n
count_outcome m calls o (Some q) t n e p h = ap (λ v. count_by v n) (same_outcome q o p)
count_outcome m calls outcome.Timed None t n e p h = absurd (h e refl)
count_outcome m calls outcome.Done None t n e p h = refl
count_outcome m calls (outcome.Expired place k) None t n e p h = refl
count_outcome m calls (outcome.DataFailed cause) None t n e p h = refl
count_outcome m calls outcome.PeerEnded None t n e p h = refl
count_outcome m calls (outcome.BadFrame b) None t n e p h = refl
count_outcome m calls (outcome.NotSpeakable place k l) None t n e p h = refl

-- a timed call stops the exchange
stops_timed : (m : Member) (calls : List Call) (c : Call) (earlier : List Call) → calls ≡ c ∷ earlier → IsInTurn (turn_alone m) calls → (t : TimedCall) → timed_by c ≡ Some t → stop calls ≡ None → ⊥
stops_timed m calls c earlier e turn t h n =
    let k : IsInTurn (turn_alone m) (c ∷ earlier) = subst (IsInTurn (turn_alone m)) e turn in
    let s : stop_by c ≡ None = ap stop (sym e) ∙ n in
    let a : count_with (timed_by c) 0 ≡ count_stop (stop_by c) 0 = timed_newest m earlier c 0 k.0 in
    let b : count_with (Some t) 0 ≡ count_stop None 0 = ap (λ v. count_with v 0) (sym h) ∙ (a ∙ ap (λ v. count_stop v 0) s) in
    omega (arith, b)

not_timed : (m : Member) (calls : List Call) (o : Outcome) → IsExchange (turn_alone m) calls o → stop calls ≡ None → o ≡ outcome.Timed → ⊥
not_timed m calls o x n e =
    let h : EndsTimed m calls = subst (HasCause m calls) e (cause_of m calls o x) in
    stops_timed m calls h.call h.earlier h.newest x.in_turn h.timed h.told n

-- the items of a call that comes next
abbrev not_failed : Option Outcome → ℕ
not_failed None = 0
not_failed (Some o) = 1

items_step : (m : Member) (calls : List Call) (c : Call) → turn_alone m calls ≡ asks (request_of c) → AreExchangeItems m.socket (items_by c)
items_step m calls (sends s b u (send.Sent count at)) t = tt
items_step m calls (sends s b u (send.Timed at)) t = tt
items_step m calls (sends s b u (send.Failed cause)) t = ((send_asks m (stop calls) (outbox_after m calls).stand _ _ _ s b u t).own, tt)
items_step m calls (receives s most u came (recv.Got count at)) t = tt
items_step m calls (receives s most u came recv.End) t = ((receive_asks m (stop calls) (outbox_after m calls).stand _ _ _ s most u t).own, tt)
items_step m calls (receives s most u came (recv.Timed at)) t = tt
items_step m calls (receives s most u came (recv.Failed cause)) t = ((receive_asks m (stop calls) (outbox_after m calls).stand _ _ _ s most u t).own, tt)
items_step m calls (shuts s) t = ((shut_asks m (stop calls) (outbox_after m calls).stand _ _ _ s t).own, tt)
items_step m calls (closes s) t = absurd (data_asks m (stop calls) (outbox_after m calls).stand _ _ _ (closes s) t)
items_step m calls (begins at) t = absurd (data_asks m (stop calls) (outbox_after m calls).stand _ _ _ (begins at) t)
items_step m calls (starts l g a) t = absurd (data_asks m (stop calls) (outbox_after m calls).stand _ _ _ (starts l g a) t)
items_step m calls (waits u a) t = absurd (data_asks m (stop calls) (outbox_after m calls).stand _ _ _ (waits u a) t)
items_step m calls (listens g a) t = absurd (data_asks m (stop calls) (outbox_after m calls).stand _ _ _ (listens g a) t)
items_step m calls (accepts l u a) t = absurd (data_asks m (stop calls) (outbox_after m calls).stand _ _ _ (accepts l u a) t)

pub items_are : (m : Member) (calls : List Call) → IsInTurn (turn_alone m) calls → AreExchangeItems m.socket (items_of calls)
items_are m [] t = tt
items_are m (c ∷ calls) t = all_append (items_by c) (items_of calls) (items_step m calls c t.0) (items_are m calls t.1)
  where
    all_append : (a b : List Item) → AreExchangeItems m.socket a → AreExchangeItems m.socket b → AreExchangeItems m.socket (a ++ b)
    all_append [] b h g = g
    all_append (i ∷ a) b h g = (h.0, all_append a b h.1 g)

failures_append : (a b : List Item) → count_failures (a ++ b) ≡ count_failures a + count_failures b
failures_append [] b = omega arith
failures_append (i ∷ a) b = (let h = failures_append a b in omega arith)

failures_step : (m : Member) (calls : List Call) (c : Call) → turn_alone m calls ≡ asks (request_of c) → count_failures (items_by c) ≤ not_failed (stop_by c)
failures_step m calls (sends s b u (send.Sent count at)) t = omega arith
failures_step m calls (sends s b u (send.Timed at)) t = omega arith
failures_step m calls (sends s b u (send.Failed cause)) t = omega arith
failures_step m calls (receives s most u came (recv.Got count at)) t = omega arith
failures_step m calls (receives s most u came recv.End) t = omega arith
failures_step m calls (receives s most u came (recv.Timed at)) t = omega arith
failures_step m calls (receives s most u came (recv.Failed cause)) t = omega arith
failures_step m calls (shuts s) t = omega arith
failures_step m calls (closes s) t = omega arith
failures_step m calls (begins at) t = omega arith
failures_step m calls (starts l g a) t = absurd (data_asks m (stop calls) (outbox_after m calls).stand _ _ _ (starts l g a) t)
failures_step m calls (waits u a) t = omega arith
failures_step m calls (listens g a) t = absurd (data_asks m (stop calls) (outbox_after m calls).stand _ _ _ (listens g a) t)
failures_step m calls (accepts l u a) t = absurd (data_asks m (stop calls) (outbox_after m calls).stand _ _ _ (accepts l u a) t)

failures_are : (m : Member) (calls : List Call) → IsInTurn (turn_alone m) calls → count_failures (items_of calls) ≤ not_failed (stop calls)
failures_are m [] t = omega arith
failures_are m (c ∷ calls) t =
    let before : count_failures (items_of calls) ≤ 0 = subst (λ v. count_failures (items_of calls) ≤ not_failed v) (asks_go (stop calls) _ _ t.0) (failures_are m calls t.1) in
    let newest = failures_step m calls c t.0 in
    let sum = failures_append (items_by c) (items_of calls) in
    omega arith

at_most : (o : Option Outcome) → not_failed o ≤ 1
at_most None = omega arith
at_most (Some o) = omega arith

pub judged : JudgesExchanges
judged m calls o x =
    let few = failures_are m calls x.in_turn in
    let most = at_most (stop calls) in
    let w = written m calls x.in_turn in
    record {
      written = w.written;
      in_time = in_time m calls w.written.turned x.in_turn w.passed;
      cause = cause_of m calls o x;
      timed = λ n. timed_is m calls n x.in_turn ∙ count_outcome m calls o (stop calls) _ n refl x.ends (not_timed m calls o x);
      items = items_are m calls x.in_turn;
      one_failure = omega arith;
    }
