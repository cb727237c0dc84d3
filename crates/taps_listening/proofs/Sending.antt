-- A connection that heard enough accepts its messages at a time, and sends them.
use Rattle.std.proofs.Common.{◌≡◌, ◌≤◌, ℕ, List, [], ◌∷◌, ◌++◌, length, Option, Some, None, refl, ap, sym, subst, ◌∙◌, arith}
use Rattle.std.specs.Prelude.{Result, Ok, Err}
use Rattle.taps_base.specs.declared.no_memory.NoMemory.{NoMemory}
use Rattle.taps_message.specs.declared.message.Message.{Message}
use Rattle.taps_socket.specs.Calls.{Call, begins, request_of}
use Rattle.taps_connection.specs.declared.sender.Sender.{Sender}
use Rattle.taps_connection.specs.Encodings.{Encoding}
use Rattle.taps_connection.specs.Outboxes.{Outbox, take_turn, after_calls, asks_out}
use Rattle.taps_connection.specs.Runs.{AllAsked}
use Rattle.taps_connection.specs.Senders.{settled, queued}
use Rattle.taps_exchange.specs.declared.outcome.Outcome.{Outcome}
use Rattle.taps_exchange.specs.Accepting.{accepted_of}
use Rattle.taps_exchange.specs.Decodings.{messages_of}
use Rattle.taps_exchange.specs.Exchanged.{IsFresh}
use Rattle.taps_exchange.specs.Sendings.{OthersGo, IsSentOut, IsSendingEnd, HasSent}
use Rattle.taps_exchange.specs.Turns.{over, stop, unless, turn_out}
use Rattle.taps_exchange.proofs.Behind.{others_of, no_stop}
use Rattle.taps_exchange.proofs.Exchanging.{asks_next, ends_sending, none_ends, fresh_is}
use Rattle.taps_listening.specs.ListenRules.{ListenRules, deadline_from}
use Rattle.taps_listening.specs.Served.{Serves, IsServedOut, IsServedShort, MayAnswer, outcome_or}
use Rattle.taps_listening.specs.Serving.{Served, member_of, outbox_of, hearing_of, own_outcome, turn_serving, with_call, with_call_by, served_after, AllServing}
use Rattle.taps_listening.proofs.Serves.{serves_on}

-- the sending as it starts from an outbox
pub record HasSentFrom {N : Type 0} (Becomes : N → List Call → N → Type 0) (e : Encoding) (before after : N) (socket until place : ℕ) (start : Outbox) (result : Result (Option Outcome) NoMemory) (t : Sender) : Type 0 where
  pub calls : List Call
  pub becomes : Becomes before calls after
  pub others_go : OthersGo calls
  pub asked : AllAsked e socket until start calls
  pub ended : IsSendingEnd place calls (after_calls e start calls) result t

-- where there is no message nothing is asked
none_asked : (e : Encoding) (socket until at : ℕ) (calls : List Call) → AllAsked e socket until (take_turn e at 0 None []) calls → calls ≡ []
none_asked e socket until at [] a = refl
none_asked e socket until at (c ∷ calls) a =
    let none = none_asked e socket until at calls a.1 in
    let x : asks_out socket until (after_calls e (take_turn e at 0 None []) []).stand ≡ Some (request_of c) = subst (λ v. asks_out socket until (after_calls e (take_turn e at 0 None []) v).stand ≡ Some (request_of c)) none a.0 in
    cc

none_end : (e : Encoding) (place at then : ℕ) (result : Result (Option Outcome) NoMemory) (t : Sender) → IsSendingEnd place [] (take_turn e then 0 None []) result t → IsSendingEnd place [] (take_turn e at 0 None []) result t
none_end e place at then (Ok stopped) t h = record { ends = h.ends; all_had = h.all_had; sent = h.sent; expired = h.expired }
none_end e place at then (Err none) t h = tt

start_of : (e : Encoding) (at : ℕ) (messages : List Message) (s : Sender) → IsFresh s → queued s ≡ accepted_of at messages → settled e s ≡ take_turn e s.moment 0 None (accepted_of at messages)
start_of e at messages s fresh queue = fresh_is e s fresh ∙ ap (take_turn e s.moment 0 None) queue

pub sent_from : {N : Type 0} (Becomes : N → List Call → N → Type 0) (e : Encoding) (a b : N) (socket until place at : ℕ) (messages : List Message) (s : Sender) (result : Result (Option Outcome) NoMemory) (t : Sender) →
    IsFresh s → queued s ≡ accepted_of at messages → (1 ≤ length messages → s.moment ≡ at) → HasSent Becomes e a b socket until place s result t → HasSentFrom Becomes e a b socket until place (take_turn e at 0 None (accepted_of at messages)) result t
sent_from Becomes e a b socket until place at [] s result t fresh queue moment h =
    let start = start_of e at [] s fresh queue in
    let asked : AllAsked e socket until (take_turn e s.moment 0 None []) h.calls = subst (λ v. AllAsked e socket until v h.calls) start h.run.asked in
    let none = none_asked e socket until s.moment h.calls asked in
    let box : h.box ≡ after_calls e (take_turn e s.moment 0 None []) h.calls = sym h.run.reaches ∙ ap (λ v. after_calls e v h.calls) start in
    let ended : IsSendingEnd place h.calls (after_calls e (take_turn e s.moment 0 None []) h.calls) result t = subst (λ v. IsSendingEnd place h.calls v result t) box h.ended in
    record {
      calls = [];
      becomes = subst (λ v. Becomes a v b) none h.becomes;
      others_go = tt;
      asked = tt;
      ended = none_end e place at s.moment result t (subst (λ v. IsSendingEnd place v (after_calls e (take_turn e s.moment 0 None []) v) result t) none ended);
    }
sent_from Becomes e a b socket until place at (m ∷ messages) s result t fresh queue moment h =
    let start : settled e s ≡ take_turn e at 0 None (accepted_of at (m ∷ messages)) = start_of e at (m ∷ messages) s fresh queue ∙ ap (λ (v : ℕ). take_turn e v 0 None (accepted_of at (m ∷ messages))) (moment (omega arith)) in
    let box : h.box ≡ after_calls e (take_turn e at 0 None (accepted_of at (m ∷ messages))) h.calls = sym h.run.reaches ∙ ap (λ v. after_calls e v h.calls) start in
    record {
      calls = h.calls;
      becomes = h.becomes;
      others_go = h.others_go;
      asked = subst (λ v. AllAsked e socket until v h.calls) start h.run.asked;
      ended = subst (λ v. IsSendingEnd place h.calls v result t) box h.ended;
    }

-- a connection that accepted its messages at a time and sent by these calls
abbrev pub answering : Served → ℕ → List Call → Served
answering c at calls = record { socket = c.socket; since = c.since; hears = c.hears; answered = Some at; answers = calls }

module _ (r : ListenRules) (place : ℕ) (c : Served) (at : ℕ) where
  sent_state : (calls : List Call) → served_after (answering c at []) calls ≡ answering c at calls
  sent_state [] = refl
  sent_state (call ∷ calls) = ap (λ v. with_call v call) (sent_state calls)

  turns_out : (calls : List Call) → AllAsked r.encoding c.socket (deadline_from r c.since) (take_turn r.encoding at 0 None (r.messages at)) calls → OthersGo calls → AllServing r place (answering c at []) calls
  turns_out [] a g = tt
  turns_out (call ∷ calls) a g = (
    ap (turn_serving r place) (sent_state calls)
        ∙ (ap (λ v. unless v (turn_out (member_of r (answering c at calls)) place (outbox_of r (answering c at calls)).stand (over (own_outcome r place (answering c at calls))))) (no_stop calls g)
        ∙ asks_next (member_of r (answering c at calls)) place (outbox_of r (answering c at calls)).stand (request_of call) (over (own_outcome r place (answering c at calls))) a.0),
    turns_out calls a.1 (others_of calls g),
  )

  sent_over : (calls : List Call) (stopped : Option Outcome) (t : Sender) → IsSentOut place calls (after_calls r.encoding (take_turn r.encoding at 0 None (r.messages at)) calls) stopped t →
      turn_serving r place (answering c at calls) ≡ over (outcome_or place t.expired stopped)
  sent_over calls (Some o) t h = ends_sending (member_of r (answering c at calls)) place (stop calls) (outbox_of r (answering c at calls)).stand o (over (own_outcome r place (answering c at calls))) h.ends
  sent_over calls None t h =
      ap (λ v. unless v (turn_out (member_of r (answering c at calls)) place (outbox_of r (answering c at calls)).stand (over (own_outcome r place (answering c at calls))))) (none_ends place (stop calls) (outbox_of r (answering c at calls)).stand h.ends)
      ∙ (ap (λ v. turn_out (member_of r (answering c at calls)) place v (over (own_outcome r place (answering c at calls)))) (h.all_had refl)
      ∙ ap (λ v. over (outcome_or place v None)) h.expired)

-- the time is asked, and the messages are accepted at it
time_state : (c : Served) (at : ℕ) → c.answered ≡ None → c.answers ≡ [] → with_call c (begins at) ≡ answering c at []
time_state c at unanswered none =
    ap (λ v. with_call_by c v (begins at)) unanswered
    ∙ ap (λ v. record { socket = c.socket; since = c.since; hears = c.hears; answered = Some at; answers = v }) none

pub serves_time : {N : Type 0} (Becomes : N → List Call → N → Type 0) (r : ListenRules) (place : ℕ) (a b : N) (socket until at : ℕ) (heard : List (List ℕ)) (c : Served) → MayAnswer r place socket until heard c → Becomes a (begins at ∷ []) b → Serves Becomes r place a b c (answering c at [])
serves_time Becomes r place a b socket until at heard c may h =
    record { calls = begins at ∷ []; becomes = h; in_turn = (may.next, tt); reaches = time_state c at may.unanswered may.none_sent }

module _ {N : Type 0} (Becomes : N → List Call → N → Type 0) (r : ListenRules) (place : ℕ) (x y z : N) (socket until at : ℕ) (heard : List (List ℕ)) (c : Served) (may : MayAnswer r place socket until heard c)
    (on : (a b c : N) (g h : List Call) → Becomes a g b → Becomes b h c → Becomes a (h ++ g) c) (time : Becomes x (begins at ∷ []) y) where
  serves_out : (result : Result (Option Outcome) NoMemory) (t : Sender) (h : HasSentFrom Becomes r.encoding y z socket until place (take_turn r.encoding at 0 None (r.messages at)) result t) → Serves Becomes r place x z c (answering c at h.calls)
  serves_out result t h =
      let asked : AllAsked r.encoding c.socket (deadline_from r c.since) (take_turn r.encoding at 0 None (r.messages at)) h.calls =
      subst (λ v. AllAsked r.encoding v (deadline_from r c.since) (take_turn r.encoding at 0 None (r.messages at)) h.calls) (sym may.own)
      (subst (λ v. AllAsked r.encoding socket v (take_turn r.encoding at 0 None (r.messages at)) h.calls) (sym may.bounded) h.asked) in
      serves_on Becomes r place x y z c (answering c at []) (answering c at h.calls) on (serves_time Becomes r place x y socket until at heard c may time)
      (record { calls = h.calls; becomes = h.becomes; in_turn = turns_out r place c at h.calls asked h.others_go; reaches = sent_state r place c at h.calls })

  pub answer_ends : (stopped : Option Outcome) (t : Sender) → HasSentFrom Becomes r.encoding y z socket until place (take_turn r.encoding at 0 None (r.messages at)) (Ok stopped) t → IsServedOut Becomes r place x z c (outcome_or place t.expired stopped) t.sent heard
  answer_ends stopped t h =
      record {
        out = answering c at h.calls;
        serves = serves_out (Ok stopped) t h;
        is_over = sent_over r place c at h.calls stopped t h.ended;
        told = ap (λ (v : ℕ). record { sent = v; heard = messages_of (hearing_of r c) }) h.ended.sent ∙ ap (λ (v : List (List ℕ)). record { sent = t.sent; heard = v }) may.heard_is;
      }

  pub answer_cut : (none : NoMemory) (t : Sender) → HasSentFrom Becomes r.encoding y z socket until place (take_turn r.encoding at 0 None (r.messages at)) (Err none) t → IsServedShort Becomes r place x z c
  answer_cut none t h = record { out = answering c at h.calls; serves = serves_out (Err none) t h }
