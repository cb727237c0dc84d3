-- What may be begun, and what comes of it.
use Rattle.std.specs.Prelude.{◌≡◌, ◌<◌, ◌≤◌, ℕ, true, length, Result, Ok, Err}
use Rattle.taps_stack.specs.declared.target.Target.{Target}
use Rattle.taps_stack.specs.StackTable.{is_stream}
use Rattle.taps_socket.specs.declared.cause.Cause.{Cause}
use Rattle.taps_socket.specs.declared.answers.StartAnswer.{StartAnswer}
use Rattle.taps_socket.specs.declared.answers.StartAnswer.TheVariants as start
use Rattle.taps_socket.specs.declared.answers.ListenAnswer.{ListenAnswer}
use Rattle.taps_socket.specs.declared.answers.ListenAnswer.TheVariants as listen
use Rattle.taps_socket.specs.declared.answers.SendAnswer.{SendAnswer}
use Rattle.taps_socket.specs.declared.answers.SendAnswer.TheVariants as send
use Rattle.taps_socket.specs.Net.{IsGiven}
use Rattle.taps_socket.specs.Sides.{listeners}
use Rattle.taps_memory.specs.Pairs.{Pair, own_end, free_at}
use Rattle.taps_memory.specs.MemoryAnswers.{next_number, most_listeners}
use Rattle.taps_memory.specs.MemorySteps.{listener_for}
use Rattle.taps_memory.specs.Memory.{Memory, net_of}

-- the answer to a start by the number of its socket, or by the cause
abbrev pub start_by : Result (ℕ × ℕ) Cause → ℕ → StartAnswer
start_by (Ok (listener, socket)) at = start.Started socket at
start_by (Err cause) at = start.Refused cause at

-- the answer to a listen
abbrev pub listen_by : Result ℕ Cause → ℕ → ListenAnswer
listen_by (Ok socket) at = listen.Listening socket at
listen_by (Err cause) at = listen.Refused cause at

-- a connection may be started to a target, from this listening socket, under this number
pub record CanStart (m : Memory) (target : Target) (listener socket : ℕ) : Type 0 where
  pub stream : is_stream target.stack ≡ true
  pub listens : listener ≡ listener_for m.trace target
  pub number : socket ≡ next_number m.trace
  pub given : IsGiven socket (net_of m)
  pub free : length m.links < m.setting.pairs

-- a socket may listen under this number
pub record CanListen (m : Memory) (socket : ℕ) : Type 0 where
  pub number : socket ≡ next_number m.trace
  pub given : IsGiven socket (net_of m)
  pub few : length (listeners m.trace) < most_listeners

-- a send takes no more than may be under way
abbrev pub TakesFree : SendAnswer → Pair → ℕ → Type 0
TakesFree (send.Sent count at) p socket = count ≤ free_at (own_end p socket)
TakesFree (send.Timed at) p socket = Unit {0}
TakesFree (send.Failed cause) p socket = Unit {0}
