-- The messages that a new connection accepts of those that it is handed (RFC 9622 section 9.2; the bounds are local).
use Rattle.std.specs.Prelude.{◌≡◌, ◌≤◌, ℕ, ◌+◌, true, List, [], ◌∷◌, length, Option, Some, None}
use Rattle.taps_message.specs.declared.message.Message.{Message}
use Rattle.taps_message.specs.declared.accepted.Accepted.{Accepted}
use Rattle.taps_message.specs.declared.queued.PushError.{PushError}
use Rattle.taps_message.specs.Queues.{Queue, empty_queue, push_refusal, with_message}

-- a message that is refused is passed over
abbrev pub unless_refused : Option PushError → Queue → Queue → Queue
unless_refused (Some refusal) before after = before
unless_refused None before after = after

-- a queue that was handed messages at a time, one after the other
abbrev pub handed : ℕ → Queue → List Message → Queue
handed at q [] = q
handed at q (m ∷ messages) = handed at (unless_refused (push_refusal q m) q (with_message m at q)) messages

-- the messages that are accepted at a time, numbered from 0
abbrev pub accepted_of : ℕ → List Message → List Accepted
accepted_of at messages = (handed at empty_queue messages).queued

-- the bytes of all bodies
abbrev pub count_bytes : List Message → ℕ
count_bytes [] = 0
count_bytes (m ∷ messages) = length m.body + count_bytes messages

-- a final message is the last one
abbrev pub HasFinalLast : List Message → Type 0
HasFinalLast [] = Unit {0}
HasFinalLast (m ∷ messages) = (m.props.is_final ≡ true → messages ≡ []) × HasFinalLast messages

-- few and short enough, and a final one is the last
pub record AreAcceptable (messages : List Message) : Type 0 where
  pub few : length messages ≤ 256
  pub short : count_bytes messages ≤ 4194304
  pub final_last : HasFinalLast messages

-- at a time, numbered from a number on
abbrev pub numbered : ℕ → ℕ → List Message → List Accepted
numbered number at [] = []
numbered number at (m ∷ messages) = record { number = number; at = at; message = m } ∷ numbered (number + 1) at messages

-- then all of them are accepted
abbrev pub AcceptsAll : Type 0
AcceptsAll = (at : ℕ) (messages : List Message) → AreAcceptable messages →
    accepted_of at messages ≡ numbered 0 at messages
