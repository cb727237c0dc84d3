-- The parts of a session of both ends behind its race.
use Rattle.std.specs.Prelude.{◌≡◌, ◌⊎◌, ℕ, List, [], ◌∷◌, Option, Some, None, Result, Ok, Err}
use Rattle.taps_base.specs.declared.no_memory.NoMemory.{NoMemory}
use Rattle.taps_framer.specs.Layers.{Layer}
use Rattle.std.specs.Prelude.{slice_get}
use Rattle.taps_stack.specs.declared.stack.Stack.{Stack}
use Rattle.taps_stack.specs.declared.target.Target.{Target}
use Rattle.taps_socket.specs.declared.item.Item.TheVariants as item
use Rattle.taps_socket.specs.declared.race_answer.RaceAnswer.{RaceAnswer}
use Rattle.taps_socket.specs.declared.race_answer.RaceAnswer.TheVariants as answers
use Rattle.taps_socket.specs.Calls.{Call, closes}
use Rattle.taps_socket.specs.Net.{Net}
use Rattle.taps_connection.specs.Listeners.{HasStopped}
use Rattle.taps_loop.specs.Looped.{HasLooped, deadline_by}
use Rattle.taps_loop.specs.declared.looped.Looped.{Looped}
use Rattle.taps_command.specs.Ready.{Ready}
use Rattle.taps_session.specs.Loops.{ends_on}
use Rattle.taps_session.specs.Sessions.{stack_of}

-- the winner and the listener were closed at once
pub record IsDropped {N : Type 0} (Becomes : N → List Call → N → Type 0) (listener socket : ℕ) (before after : N)
    (net net' : Net) : Type 0 where
  pub becomes : Becomes before (closes listener ∷ closes socket ∷ []) after
  pub trace : net'.trace ≡ item.Closed listener ∷ item.Closed socket ∷ net.trace

-- over a winner's socket of this stack a connection was accepted, or not; or memory ran out
abbrev pub LoopsWith : {N : Type 0} → (N → List Call → N → Type 0) → N → N → Net → Net → List Layer → Ready → Target →
    ℕ → Stack → ℕ → Result Looped NoMemory → Type 0
LoopsWith Becomes before after net net' shelf ready target listener stack socket (Ok l) =
    HasLooped Becomes (ends_on shelf ready target stack socket) listener socket
    (deadline_by net.told ready.pre.exchange.deadline_ms) before after net net' (Ok l)
LoopsWith Becomes before after net net' shelf ready target listener stack socket (Err none) =
    HasLooped Becomes (ends_on shelf ready target stack socket) listener socket
    (deadline_by net.told ready.pre.exchange.deadline_ms) before after net net' (Err none)
    ⊎ IsDropped Becomes listener socket before after net net'

abbrev pub GoWith : {N : Type 0} → (N → List Call → N → Type 0) → N → N → Net → Net → List Layer → Ready → Target → ℕ →
    Stack → ℕ → Result (Option Looped) NoMemory → Type 0
GoWith Becomes before after net net' shelf ready target listener stack socket (Ok (Some l)) =
    LoopsWith Becomes before after net net' shelf ready target listener stack socket (Ok l)
GoWith Becomes before after net net' shelf ready target listener stack socket (Ok None) = ⊥
GoWith Becomes before after net net' shelf ready target listener stack socket (Err none) =
    LoopsWith Becomes before after net net' shelf ready target listener stack socket (Err none)

-- without one the listener was closed
abbrev pub GoWithout : {N : Type 0} → (N → List Call → N → Type 0) → N → N → Net → Net → ℕ →
    Result (Option Looped) NoMemory → Type 0
GoWithout Becomes before after net net' listener (Ok (Some l)) = ⊥
GoWithout Becomes before after net net' listener (Ok None) = HasStopped Becomes before after net net' listener
GoWithout Becomes before after net net' listener (Err none) = ⊥

-- what follows a race with this answer
abbrev pub GoBehind : {N : Type 0} → (N → List Call → N → Type 0) → N → N → Net → Net → List Layer → Ready → Target →
    List Target → ℕ → RaceAnswer → Result (Option Looped) NoMemory → Type 0
GoBehind Becomes before after net net' shelf ready target targets listener (answers.Ready leaf socket at) result =
    GoWith Becomes before after net net' shelf ready target listener (stack_of (slice_get targets leaf)) socket result
GoBehind Becomes before after net net' shelf ready target targets listener answers.NoCandidate result =
    GoWithout Becomes before after net net' listener result
GoBehind Becomes before after net net' shelf ready target targets listener answers.AllFailed result =
    GoWithout Becomes before after net net' listener result
GoBehind Becomes before after net net' shelf ready target targets listener answers.Timeout result =
    GoWithout Becomes before after net net' listener result
GoBehind Becomes before after net net' shelf ready target targets listener answers.Closed result =
    GoWithout Becomes before after net net' listener result
GoBehind Becomes before after net net' shelf ready target targets listener answers.SocketFault result =
    GoWithout Becomes before after net net' listener result

-- so many items stand before the answer: those of the race, or all of them
abbrev pub count_before : ℕ → ℕ → Option Looped → ℕ
count_before raced all None = all
count_before raced all (Some l) = raced
