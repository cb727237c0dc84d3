-- The turn of the end that sends: which calls it makes, and what comes behind them.
use Rattle.std.specs.Prelude.{◌≡◌, ◌≢◌, ℕ, ◌+◌, ◌<◌, ◌≤◌, false, nat_le, if◌then◌else◌, List, [], ◌++◌, length, Option, Some, None, Result, Ok, Err}
use Rattle.taps_base.specs.declared.no_memory.NoMemory.{NoMemory}
use Rattle.taps_message.specs.declared.accepted.Accepted.{Accepted}
use Rattle.taps_socket.specs.Calls.{Call}
use Rattle.taps_connection.specs.declared.sender.Begun.{Begun}
use Rattle.taps_connection.specs.declared.sender.Sender.{Sender}
use Rattle.taps_connection.specs.declared.sender.Pushed.{Pushed}
use Rattle.taps_connection.specs.declared.sender.Pushed.TheVariants as pushed
use Rattle.taps_connection.specs.Encodings.{Encoding}
use Rattle.taps_connection.specs.Outboxes.{all_out}
use Rattle.taps_connection.specs.Senders.{queued, settled}
use Rattle.taps_connection.specs.Sound.{count_begun}
use Rattle.taps_exchange.specs.declared.outcome.Outcome.TheVariants as outcome
use Rattle.taps_exchange.specs.Members.{calls_on}
use Rattle.taps_exchange.specs.Turns.{over, IsInTurn}
use Rattle.taps_loop.specs.declared.sending.Out.{Out}
use Rattle.taps_loop.specs.declared.sending.Out.TheVariants as out
use Rattle.taps_loop.specs.Loops.{Ends, sending, sent_in, one_if, had_turn, waiting, hearing, at_once, soon, until_by, turn_sending, turn_then, turn_loop, needs_more}

-- Behind a message that went out whole, and behind a timed call, it is the accepted end's turn; it needs so many more.
pub record HasGone (x : Ends) (calls : List Call) (more : ℕ) : Type 0 where
  pub turn : turn_loop x calls ≡ turn_then x more calls
  pub waits : waiting x calls ≡ more
  pub newest : had_turn calls ≡ false

-- 1 while a message is begun or queued, and else 0
abbrev pub waits_by : Option Begun → List Accepted → ℕ
waits_by (Some b) messages = 1
waits_by None messages = one_if messages

abbrev pub waits : Sender → ℕ
waits s = waits_by s.begun (queued s)

-- how many messages are begun or queued
abbrev pub count_left : Sender → ℕ
count_left s = count_begun s.begun + length (queued s)

-- not all bytes of a begun message were taken
abbrev pub HasRest : Option Begun → Type 0
HasRest None = Unit {0}
HasRest (Some b) = b.taken < length b.bytes

-- what the answer of a connection makes of the turn
abbrev pub timed_out : ℕ → ℕ → Out
timed_out deadline at = if nat_le deadline at then out.Over outcome.Timed else out.Gone

abbrev pub out_by : ℕ → Pushed → Result Out NoMemory
out_by deadline (pushed.Sent number) = Ok out.Gone
out_by deadline pushed.Empty = Ok out.Nothing
out_by deadline (pushed.Expired number) = Ok out.Passed
out_by deadline (pushed.Timed at) = Ok (timed_out deadline at)
out_by deadline (pushed.Failed cause) = Ok (out.Over (outcome.DataFailed cause))
out_by deadline (pushed.NotSpeakable number layer) = Ok (out.Over (outcome.NotSpeakable 0 number layer))
out_by deadline pushed.NoMemory = Err (record {})

-- after these calls it is the turn of the sending end, and what is kept of its sending stands for them. What it asks
-- for goes up to a time
pub record IsToSend (x : Ends) (calls : List Call) (e : Encoding) (socket until deadline : ℕ) (s : Sender) :
    Type 0 where
  pub encoding_is : x.from.encoding ≡ e
  pub socket_is : x.from.socket ≡ socket
  pub deadline_is : x.from.until ≡ deadline
  pub apart : x.to.socket ≢ socket
  pub kept : sending x calls ≡ settled e s
  pub in_turn : IsInTurn (turn_loop x) calls
  pub turn : turn_loop x calls ≡ turn_sending x calls
  pub waits_for : waits s ≡ 1 → waiting x calls ≡ 1
  pub until_is : waits s ≡ 1 → until ≡ until_by (hearing x 1 calls) (at_once x calls) (soon x calls)

-- it is the accepted end's turn; or nothing is left to be sent, or the next message had expired, and no call was made;
-- or the exchange is over
abbrev pub IsOut : Ends → List Call → List Call → Out → Sender → Type 0
IsOut x calls more out.Gone t = HasGone x (more ++ calls) (waits t)
IsOut x calls more out.Nothing t =
    (more ≡ []) × ((sending x calls).stand ≡ all_out) × ((sending x calls).expired ≡ t.expired) × (waits t ≡ 0)
IsOut x calls more out.Passed t = (more ≡ []) × (waits t ≡ 1 → waiting x calls ≡ 1)
IsOut x calls more (out.Over o) t =
    (turn_loop x (more ++ calls) ≡ over o) × (needs_more x (more ++ calls) o ≡ 1)
    × (sent_in x (more ++ calls) ≡ sent_in x calls)

abbrev pub IsOutIf : Ends → List Call → List Call → Result Out NoMemory → Sender → Type 0
IsOutIf x calls more (Ok o) t = IsOut x calls more o t
IsOutIf x calls more (Err none) t = Unit {0}

-- the exchange goes on
abbrev pub IfOutGoesOn : Result Out NoMemory → Type 0 → Type 0
IfOutGoesOn (Ok out.Gone) P = P
IfOutGoesOn (Ok out.Nothing) P = P
IfOutGoesOn (Ok out.Passed) P = P
IfOutGoesOn (Ok (out.Over o)) P = Unit {0}
IfOutGoesOn (Err none) P = Unit {0}

-- Calls on the socket were made, each in turn. While the exchange goes on, what is kept stands for them; and it tells
-- how many messages were sent.
pub record HasTurned {N : Type 0} (Becomes : N → List Call → N → Type 0) (x : Ends) (calls : List Call) (e : Encoding)
    (before after : N) (result : Result Out NoMemory) (t : Sender) : Type 0 where
  pub more : List Call
  pub becomes : Becomes before more after
  pub in_turn : IsInTurn (turn_loop x) (more ++ calls)
  pub elsewhere : calls_on x.to.socket (more ++ calls) ≡ calls_on x.to.socket calls
  pub kept : IfOutGoesOn result (sending x (more ++ calls) ≡ settled e t)
  pub sent_is : sent_in x (more ++ calls) ≡ t.sent
  pub out_so : IsOutIf x calls more result t

-- a call was timed before the deadline, at its time or later, and the message stays begun
pub record IsBlocked (until deadline told : ℕ) (s t : Sender) : Type 0 where
  pub late : until ≤ told
  pub early : told < deadline
  pub same : t.sent ≡ s.sent
  pub waited : waits s ≡ 1
  pub waits_on : waits t ≡ 1

-- a message less is left, or a call was timed; or the next message had expired
abbrev pub IsFurther : ℕ → ℕ → ℕ → Result Out NoMemory → Sender → Sender → Type 0
IsFurther until deadline told (Ok out.Gone) s t =
    (count_left t ≤ count_left s) × (count_left s ≤ count_left t → IsBlocked until deadline told s t)
IsFurther until deadline told (Ok out.Nothing) s t = count_left t ≤ count_left s
IsFurther until deadline told (Ok out.Passed) s t =
    (count_left t < count_left s) × (t.sent ≡ s.sent) × (waits t ≡ 1 → waits s ≡ 1)
IsFurther until deadline told (Ok (out.Over o)) s t = waits s ≡ 1
IsFurther until deadline told (Err none) s t = Unit {0}
