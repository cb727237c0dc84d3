-- What always holds of what a connection keeps of its sending.
use Rattle.std.specs.Prelude.{◌≡◌, ℕ, ◌+◌, ◌<◌, ◌≤◌, Bool, true, false, List, [], ◌∷◌, length, Option, Some, None}
use Rattle.std.specs.List.{All}
use Rattle.taps_framer.specs.Layers.{Layer}
use Rattle.taps_message.specs.declared.accepted.Accepted.{Accepted}
use Rattle.taps_message.specs.Queues.{Queue}
use Rattle.taps_connection.specs.declared.sender.Begun.{Begun}
use Rattle.taps_connection.specs.declared.sender.Sender.{Sender}
use Rattle.taps_connection.specs.Senders.{queued}

-- no message can go out any more: a stream with no layer carried its one message, or a final one was sent and none is
-- behind it
pub data IsOver (stream : Bool) (fs : List Layer) (sent : ℕ) (q : Queue) : Type 0 where
  one_message : stream ≡ true → fs ≡ [] → 1 ≤ sent → IsOver stream fs sent q
  final_sent : q.queued ≡ [] → q.ended ≡ true → IsOver stream fs sent q

-- a final message is the last one
abbrev pub HasFinalLast : Bool → List Accepted → Type 0
HasFinalLast has_final [] = Unit {0}
HasFinalLast has_final (m ∷ behind) =
    (m.message.props.is_final ≡ true → (behind ≡ []) × (has_final ≡ true)) × HasFinalLast has_final behind

abbrev pub IsShort : Accepted → Type 0
IsShort m = length m.message.body ≤ 4194304

-- a begun message can be sent: of a datagram nothing was taken yet
abbrev pub IsReady : Bool → Option Begun → Type 0
IsReady stream None = ⊥
IsReady stream (Some b) = (b.taken ≤ length b.bytes) ×
    (stream ≡ false → (b.taken ≡ 0) × (1 ≤ length b.bytes) × (length b.bytes ≤ 65507))

-- a begun message has bytes that were not taken yet, if it has any
abbrev pub HasLeft : Option Begun → Type 0
HasLeft None = Unit {0}
HasLeft (Some b) = 1 ≤ length b.bytes → b.taken < length b.bytes

-- a message after which the sending side is ended is of a stream, and no message can go out behind it
abbrev pub IsEnding : Bool → List Layer → ℕ → Queue → Option Begun → Type 0
IsEnding stream fs sent q None = Unit {0}
IsEnding stream fs sent q (Some b) = b.ends ≡ true → (stream ≡ true) × IsOver stream fs (sent + 1) q

-- if a message is begun, it can be sent
abbrev pub IsReadyIf : Bool → Option Begun → Type 0
IsReadyIf stream None = Unit {0}
IsReadyIf stream (Some b) = IsReady stream (Some b)

abbrev pub count_begun : Option Begun → ℕ
count_begun None = 0
count_begun (Some b) = 1

pub record IsSound (stream : Bool) (fs : List Layer) (s : Sender) : Type 0 where
  pub few : s.sent + (count_begun s.begun + length (queued s)) ≤ s.queue.queue.accepted
  pub bounded : s.queue.queue.accepted ≤ 256
  pub short : All IsShort (queued s)
  pub final_last : HasFinalLast s.queue.queue.ended (queued s)
  pub ready : IsReadyIf stream s.begun
  pub left : HasLeft s.begun
  pub ending : IsEnding stream fs s.sent s.queue.queue s.begun
  pub still_open : count_begun s.begun ≡ 1 → s.shut ≡ false
  pub over : s.shut ≡ true → IsOver stream fs s.sent s.queue.queue
