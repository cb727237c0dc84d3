-- What a queue of messages is, and what is accepted into it (RFC 9622 section 9.2; the bounds are local).
use Rattle.std.specs.Prelude.{◌≡◌, ℕ, ◌+◌, List, [], ◌∷◌, ◌++◌, Bool, true, false, ◌||◌, if◌then◌else◌, nat_le, nat_lt, length, Option, Some, None, Result, Ok, Err}
use Rattle.taps_message.specs.declared.message.Message.{Message}
use Rattle.taps_message.specs.declared.accepted.Accepted.{Accepted}
use Rattle.taps_message.specs.declared.accepted.Taken.{Taken}
use Rattle.taps_message.specs.declared.queued.PushError.{PushError}
use Rattle.taps_message.specs.declared.queued.PushError.TheVariants.{AfterFinal, TooMany, TooMuch, NoMemory}
use Rattle.taps_message.specs.declared.queued.Queued.{Queued}
use Rattle.taps_message.specs.declared.queued.Queued.TheVariants as queued
use Rattle.taps_message.specs.Expiry.{has_expired}

-- the messages that are queued, oldest first; how many were accepted so far; the bytes of all their bodies; and
-- whether a final one was
pub record Queue : Type 0 where
  pub queued : List Accepted
  pub accepted : ℕ
  pub bytes : ℕ
  pub ended : Bool

-- a queue, and the message that was given out last and may be put back, if there is one
pub record SendQueueState : Type 0 where
  pub queue : Queue
  pub taken : Option Taken

abbrev pub empty_queue : Queue
empty_queue = record { queued = []; accepted = 0; bytes = 0; ended = false }

-- why a message is refused, if it is: the first of these in this order
abbrev pub push_refusal : Queue → Message → Option PushError
push_refusal q m =
    if q.ended then Some AfterFinal
    else if nat_le 256 q.accepted then Some (TooMany 256)
    else if nat_lt 4194304 (q.bytes + length m.body) then Some (TooMuch (q.bytes + length m.body))
    else None

-- a call tells the refusal that there is, and where there is none that memory ran out
abbrev pub IsRefusal : Option PushError → PushError → Type 0
IsRefusal None told = told ≡ NoMemory
IsRefusal (Some refusal) told = told ≡ refusal

-- a message more at the end, accepted at a moment; its number is its place among the accepted ones
abbrev pub with_message : Message → ℕ → Queue → Queue
with_message m at q = record {
  queued = q.queued ++ record { number = q.accepted; at = at; message = m } ∷ [];
  accepted = q.accepted + 1;
  bytes = q.bytes + length m.body;
  ended = q.ended || m.props.is_final;
}

-- a message that is not refused is accepted; one that is refused is handed back, and then all stays
abbrev pub IsPushed : SendQueueState → Message → ℕ → Result (Unit {0}) (PushError × Message) → SendQueueState → Type 0
IsPushed before m at (Ok done) after =
    (push_refusal before.queue m ≡ None) × (after ≡ record { queue = with_message m at before.queue; taken = None })
IsPushed before m at (Err refused) after =
    IsRefusal (push_refusal before.queue m) refused.0 × (refused.1 ≡ m) × (after ≡ before)

-- a message more at the front
abbrev pub with_front : Accepted → Queue → Queue
with_front first q = record q { queued = first ∷ q.queued }

-- the number of the first message
abbrev pub number_of_first : List Accepted → Option ℕ
number_of_first [] = None
number_of_first (first ∷ behind) = Some first.number

-- A message that was accepted at a moment goes out of the front of the queue and can be put back; it has not expired.
pub record GivesMessage (before : Queue) (now number : ℕ) (message : Message) (after : SendQueueState) : Type 0 where
  pub at : ℕ
  pub front : before ≡ with_front (record { number = number; at = at; message = message }) after.queue
  pub lasts : has_expired (record { number = number; at = at; message = message }) now ≡ false
  pub taken : after.taken ≡ Some (record { number = number; at = at })

-- An expired message goes out of the front of the queue.
pub record GivesExpired (before : Queue) (now number : ℕ) (after : SendQueueState) : Type 0 where
  pub at : ℕ
  pub message : Message
  pub front : before ≡ with_front (record { number = number; at = at; message = message }) after.queue
  pub expired : has_expired (record { number = number; at = at; message = message }) now ≡ true
  pub taken : after.taken ≡ None

-- what is next at a moment, and the queue after it
abbrev pub IsNext : Queue → ℕ → Queued → SendQueueState → Type 0
IsNext before now (queued.Message number message) after = GivesMessage before now number message after
IsNext before now (queued.Expired number) after = GivesExpired before now number after
IsNext before now queued.Empty after = (before.queued ≡ []) × (after ≡ record { queue = before; taken = None })
