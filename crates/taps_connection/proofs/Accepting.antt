-- A message that is accepted leaves sound what is kept.
use Rattle.std.proofs.Common.{◌≡◌, ℕ, ◌+◌, ◌<◌, ◌≤◌, Bool, true, false, ◌||◌, List, [], ◌∷◌, ◌++◌, length, refl, sym, ap, ◌∙◌, arith, if◌then◌else◌, length-append}
use Rattle.std.specs.Prelude.{Option, Some, None, Result, Ok, Err, nat_le, nat_lt}
use Rattle.std.proofs.lemmas.Bool.{leb-false, ltb-false}
use Rattle.std.proofs.lemmas.List.Elements.{All-append, All-cons, All-nil}
use Rattle.taps_framer.specs.Layers.{Layer}
use Rattle.taps_message.specs.declared.message.Message.{Message}
use Rattle.taps_message.specs.declared.accepted.Accepted.{Accepted}
use Rattle.taps_message.specs.declared.queued.PushError.{PushError}
use Rattle.taps_message.specs.Queues.{Queue, SendQueueState, push_refusal, with_message, IsPushed}
use Rattle.taps_connection.specs.declared.sender.Begun.{Begun}
use Rattle.taps_connection.specs.declared.sender.Sender.{Sender}
use Rattle.taps_connection.specs.Senders.{queued, IsNewSender}
use Rattle.taps_connection.specs.Sound.{IsSound, IsOver, one_message, final_sent, IsEnding, HasFinalLast, IsShort, count_begun}

-- no refusal applies
three : (a b c : Bool) (x y z : PushError) → (if a then Some x else if b then Some y else if c then Some z else None) ≡ None → (a ≡ false) × (b ≡ false) × (c ≡ false)
three false false false x y z h = (refl, refl, refl)
three true b c x y z h = cc
three false true c x y z h = cc
three false false true x y z h = cc

record IsAcceptable (q : Queue) (m : Message) : Type 0 where
  pub not_ended : q.ended ≡ false
  pub few : q.accepted < 256
  pub short : length m.body ≤ 4194304

acceptable : (q : Queue) (m : Message) → push_refusal q m ≡ None → IsAcceptable q m
acceptable q m h =
    let (a, b, c) = three q.ended (nat_le 256 q.accepted) (nat_lt 4194304 (q.bytes + length m.body)) _ _ _ h in
    let few : q.accepted < 256 = leb-false 256 q.accepted b in
    let sum : q.bytes + length m.body ≤ 4194304 = ltb-false 4194304 (q.bytes + length m.body) c in
    record { not_ended = a; few = few; short = omega arith }

-- no message was final, so that a new one may be
last_snoc : (has_final : Bool) (messages : List Accepted) (m : Accepted) → has_final ≡ false → HasFinalLast has_final messages → HasFinalLast (has_final || m.message.props.is_final) (messages ++ m ∷ [])
last_snoc has_final [] m e h = ((λ f. (refl, rw (e, f) refl)), tt)
last_snoc has_final (n ∷ messages) m e h = ((λ f. (let z : false ≡ true = sym e ∙ (h.0 f).1 in cc)), last_snoc has_final messages m e h.1)

over_more : (stream : Bool) (fs : List Layer) (sent : ℕ) (q p : Queue) → q.ended ≡ false → IsOver stream fs sent q → IsOver stream fs sent p
over_more stream fs sent q p e (one_message a b c) = one_message a b c
over_more stream fs sent q p e (final_sent a b) = (let z : false ≡ true = sym e ∙ b in cc)

ending_more : (stream : Bool) (fs : List Layer) (sent : ℕ) (q p : Queue) (o : Option Begun) → q.ended ≡ false → IsEnding stream fs sent q o → IsEnding stream fs sent p o
ending_more stream fs sent q p None e h = tt
ending_more stream fs sent q p (Some b) e h = λ x. let (a, over) = h x in (a, over_more stream fs (sent + 1) q p e over)

sound_more : (stream : Bool) (fs : List Layer) (s t : Sender) (m : Message) (at : ℕ) → push_refusal s.queue.queue m ≡ None → t.queue.queue ≡ with_message m at s.queue.queue → t.begun ≡ s.begun → t.sent ≡ s.sent → t.shut ≡ s.shut → IsSound stream fs s → IsSound stream fs t
sound_more stream fs s t m at free queue begun sent is_shut h =
    let ok = acceptable s.queue.queue m free in
    let q : Queue = s.queue.queue in
    let new : Accepted = record { number = q.accepted; at = at; message = m } in
    let few : s.sent + (count_begun s.begun + length (queued s)) ≤ q.accepted = h.few in
    let size : length (queued s ++ new ∷ []) ≡ length (queued s) + 1 = length-append (queued s) (new ∷ []) in
    let room : q.accepted < 256 = ok.few in
    rw (begun, sent, is_shut, queue)
    (record {
      few = omega arith;
      bounded = omega arith;
      short = All-append IsShort (queued s) (new ∷ []) h.short (All-cons IsShort new [] ok.short (All-nil IsShort));
      final_last = last_snoc q.ended (queued s) new ok.not_ended h.final_last;
      ready = h.ready;
      left = h.left;
      ending = ending_more stream fs s.sent q (with_message m at q) s.begun ok.not_ended h.ending;
      still_open = h.still_open;
      over = λ x. over_more stream fs s.sent q (with_message m at q) ok.not_ended (h.over x);
    })

-- the parts of which it speaks did not change, as where a receive raised the greatest time
pub sound_again : (stream : Bool) (fs : List Layer) (s t : Sender) → t.queue.queue ≡ s.queue.queue → t.begun ≡ s.begun → t.sent ≡ s.sent → t.shut ≡ s.shut → IsSound stream fs s → IsSound stream fs t
sound_again stream fs s t queue begun sent is_shut h =
    rw (begun, sent, is_shut, queue)
    (record { few = h.few; bounded = h.bounded; short = h.short; final_last = h.final_last; ready = h.ready; left = h.left; ending = h.ending; still_open = h.still_open; over = h.over })

-- accepted or refused
pub sound_pushed : (stream : Bool) (fs : List Layer) (s t : Sender) (q : SendQueueState) (m : Message) (at : ℕ) (result : Result (Unit {0}) (PushError × Message)) → IsPushed s.queue m at result q → t.queue ≡ q → t.begun ≡ s.begun → t.sent ≡ s.sent → t.shut ≡ s.shut → IsSound stream fs s → IsSound stream fs t
sound_pushed stream fs s t q m at (Ok done) p queue begun sent is_shut h = sound_more stream fs s t m at p.0 (ap (λ (v : SendQueueState). v.queue) (queue ∙ p.1)) begun sent is_shut h
sound_pushed stream fs s t q m at (Err refused) p queue begun sent is_shut h = sound_again stream fs s t (ap (λ (v : SendQueueState). v.queue) (queue ∙ p.2)) begun sent is_shut h

-- nothing was accepted yet
pub sound_new : (at : ℕ) (stream : Bool) (fs : List Layer) (s : Sender) → IsNewSender at s → IsSound stream fs s
sound_new at stream fs s new =
    rw new
    (record {
      few = omega arith;
      bounded = omega arith;
      short = All-nil IsShort;
      final_last = tt;
      ready = tt;
      left = tt;
      ending = tt;
      still_open = λ x. absurd (omega (arith, x));
      over = λ x. (let z : false ≡ true = x in cc);
    })
