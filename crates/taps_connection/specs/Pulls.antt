-- What is kept after a socket was asked once for bytes.
use Rattle.std.specs.Prelude.{◌≡◌, ℕ, List, Result, Ok, Err}
use Rattle.taps_base.specs.declared.no_memory.NoMemory.{NoMemory}
use Rattle.taps_socket.specs.Calls.{Call}
use Rattle.taps_socket.specs.Net.{Net}
use Rattle.taps_socket.specs.declared.answers.RecvAnswer.{RecvAnswer}
use Rattle.taps_connection.specs.Asks.{HasReceived, HasNotAsked}
use Rattle.taps_connection.specs.Unread.{Unread, most_of, with_answer}

-- the socket was asked once, and what came is kept; or memory ran out before
abbrev pub IsTakenIn : {N : Type 0} → (N → List Call → N → Type 0) → N → N → Net → Net → ℕ → ℕ → Unread →
    Result RecvAnswer NoMemory → Unread → Type 0
IsTakenIn Becomes before after net net' socket until u (Ok answer) v =
    (came : List ℕ) × (HasReceived Becomes before after net net' socket (most_of u) until came answer ×
    (v ≡ with_answer answer came u))
IsTakenIn Becomes before after net net' socket until u (Err none) v =
    HasNotAsked Becomes before after net net' × (v ≡ u)
