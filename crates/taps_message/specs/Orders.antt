-- The order in which messages go out, over the whole life of a queue.
use Rattle.std.specs.Prelude.{◌≡◌, ℕ, suc, List, [], ◌∷◌, ◌++◌, length, Ok}
use Rattle.std.specs.List.{sum_by, list_any}
use Rattle.taps_message.specs.declared.message.Message.{Message}
use Rattle.taps_message.specs.declared.accepted.Accepted.{Accepted}
use Rattle.taps_message.specs.declared.queued.Queued.{Queued}
use Rattle.taps_message.specs.declared.queued.Queued.TheVariants as queued
use Rattle.taps_message.specs.Queues.{Queue, SendQueueState, with_front, IsPushed, IsNext}

-- each message has its place as its number, from this one on
abbrev pub AreNumberedFrom : ℕ → List Accepted → Type 0
AreNumberedFrom n [] = Unit {0}
AreNumberedFrom n (first ∷ behind) = (first.number ≡ n) × AreNumberedFrom (suc n) behind

-- Of all messages that were accepted, in the order of push, some are gone and the queue holds the others; it counts
-- the accepted ones and the bytes of their bodies, and knows whether one was final.
pub record Holds (accepted gone : List Accepted) (q : Queue) : Type 0 where
  pub order : accepted ≡ gone ++ q.queued
  pub numbers : AreNumberedFrom 0 accepted
  pub count : q.accepted ≡ length accepted
  pub bytes : q.bytes ≡ sum_by (λ m. length m.message.body) accepted
  pub ended : q.ended ≡ list_any (λ m. m.message.props.is_final) accepted

-- The message of a number is the first one that was not gone, and is gone now.
pub record Goes (accepted gone : List Accepted) (number : ℕ) (message : Message) (after : Queue) : Type 0 where
  pub at : ℕ
  pub place : number ≡ length gone
  pub holds : Holds accepted (gone ++ record { number = number; at = at; message = message } ∷ []) after

-- one message more is gone, or all are
abbrev pub GoesInOrder : List Accepted → List Accepted → Queued → Queue → Type 0
GoesInOrder accepted gone (queued.Message number message) after = Goes accepted gone number message after
GoesInOrder accepted gone (queued.Expired number) after = (message : Message) × Goes accepted gone number message after
GoesInOrder accepted gone queued.Empty after = (accepted ≡ gone) × Holds accepted gone after

-- a message that is pushed follows all that were accepted before
abbrev pub PushFollows : Type 0
PushFollows = (accepted gone : List Accepted) (before after : SendQueueState) (m : Message) (at : ℕ) →
    Holds accepted gone before.queue → IsPushed before m at (Ok tt) after →
    Holds (accepted ++ record { number = length accepted; at = at; message = m } ∷ []) gone after.queue

-- messages go out in the order of push, each under its place
abbrev pub NextGoes : Type 0
NextGoes = (accepted gone : List Accepted) (before : Queue) (after : SendQueueState) (now : ℕ) (next : Queued) →
    Holds accepted gone before → IsNext before now next after → GoesInOrder accepted gone next after.queue

-- a message that is put back is not gone
abbrev pub PutBackReturns : Type 0
PutBackReturns = (accepted gone : List Accepted) (last : Accepted) (q : Queue) →
    Holds accepted (gone ++ last ∷ []) q → Holds accepted gone (with_front last q)
