-- A connection accepts at most 256 messages.
use Rattle.std.proofs.Common.{◌≡◌, ℕ, ◌+◌, ◌<◌, ◌≤◌, Bool, true, false, List, [], ◌∷◌, length, Option, Some, None, refl, arith, if◌then◌else◌, length-append}
use Rattle.std.specs.Prelude.{nat_le, nat_lt}
use Rattle.std.proofs.lemmas.Bool.{leb-false}
use Rattle.taps_message.specs.declared.message.Message.{Message}
use Rattle.taps_message.specs.declared.queued.PushError.{PushError}
use Rattle.taps_message.specs.declared.queued.PushError.TheVariants.{AfterFinal, TooMany, TooMuch}
use Rattle.taps_message.specs.Queues.{Queue, empty_queue, push_refusal, with_message}
use Rattle.taps_exchange.specs.Accepting.{unless_refused, handed, accepted_of}

record IsSmall (q : Queue) : Type 0 where
  queued : length q.queued ≤ q.accepted
  few : q.accepted ≤ 256

not_full : (ended full much : Bool) (x y z : PushError) → (if ended then Some x else if full then Some y else if much then Some z else None) ≡ None → full ≡ false
not_full true full much x y z e = cc
not_full false true much x y z e = cc
not_full false false much x y z e = refl

pushed_small : (q : Queue) (m : Message) (at : ℕ) → push_refusal q m ≡ None → IsSmall q → IsSmall (with_message m at q)
pushed_small q m at e h =
    let room : q.accepted < 256 = leb-false 256 q.accepted (not_full q.ended (nat_le 256 q.accepted) (nat_lt 4194304 (q.bytes + length m.body)) AfterFinal (TooMany 256) (TooMuch (q.bytes + length m.body)) e) in
    let longer = length-append q.queued (record { number = q.accepted; at = at; message = m } ∷ []) in
    let queued = h.queued in
    record { queued = omega arith; few = omega arith }

next_small : (q : Queue) (m : Message) (at : ℕ) (o : Option PushError) → push_refusal q m ≡ o → IsSmall q → IsSmall (unless_refused o q (with_message m at q))
next_small q m at None e h = pushed_small q m at e h
next_small q m at (Some refusal) e h = h

handed_small : (at : ℕ) (q : Queue) (messages : List Message) → IsSmall q → IsSmall (handed at q messages)
handed_small at q [] h = h
handed_small at q (m ∷ messages) h = handed_small at (unless_refused (push_refusal q m) q (with_message m at q)) messages (next_small q m at (push_refusal q m) refl h)

pub few_accepted : (at : ℕ) (messages : List Message) → length (accepted_of at messages) ≤ 256
few_accepted at messages =
    let h : IsSmall (handed at empty_queue messages) = handed_small at empty_queue messages (record { queued = omega arith; few = omega arith }) in
    let a = h.queued in
    let b = h.few in
    omega arith
