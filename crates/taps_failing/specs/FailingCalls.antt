-- Which of the calls on failing sockets fails, and how (local). A list of calls stands with its newest one first.
use Rattle.std.specs.Prelude.{◌≡◌, ℕ, ◌-◌, Bool, true, false, ◌&&◌, ◌==◌, if◌then◌else◌, List, [], ◌∷◌}
use Rattle.taps_socket.specs.declared.cause.Cause.TheVariants.{Other}
use Rattle.taps_socket.specs.declared.item.How.TheVariants as how
use Rattle.taps_socket.specs.declared.answers.StartAnswer.TheVariants as start
use Rattle.taps_socket.specs.declared.answers.ListenAnswer.TheVariants as listen
use Rattle.taps_socket.specs.declared.answers.AcceptAnswer.TheVariants as accept
use Rattle.taps_socket.specs.declared.answers.SendAnswer.TheVariants as send
use Rattle.taps_socket.specs.declared.answers.RecvAnswer.TheVariants as recv
use Rattle.taps_socket.specs.Calls.{Call, begins, starts, waits, closes, listens, accepts, sends, shuts, receives, Request, to_begin, to_start, to_wait, to_close, to_listen, to_accept, to_send, to_shut, to_receive, request_of}
use Rattle.taps_socket.specs.Shows.{told_after, is_faulted}
use Rattle.taps_failing.specs.declared.failure.Failure.{Failure}
use Rattle.taps_failing.specs.declared.failure.Failure.TheVariants.{Ahead, Past, Faulted}

-- the call is one of those that are numbered together
abbrev pub is_numbered : Call → Bool
is_numbered (begins at) = false
is_numbered (starts leaf target answer) = true
is_numbered (waits until answer) = true
is_numbered (closes socket) = false
is_numbered (listens target answer) = true
is_numbered (accepts listener until answer) = true
is_numbered (sends socket bytes until answer) = true
is_numbered (shuts socket) = false
is_numbered (receives socket most until came answer) = true

-- the next numbered call is the one that fails
abbrev pub is_next : Failure → Bool
is_next (Ahead calls) = calls == 0
is_next Past = false
is_next Faulted = false

-- after a numbered call
abbrev pub turned : Failure → Failure
turned (Ahead calls) = if calls == 0 then Past else Ahead (calls - 1)
turned Past = Past
turned Faulted = Faulted

-- the call is the one that fails
abbrev pub is_failing : Call → Failure → Bool
is_failing call failure = is_numbered call && is_next failure

-- after a call
abbrev pub failure_by : Call → Failure → Failure
failure_by call failure =
    if is_failing call failure && is_faulted call then Faulted else if is_numbered call then turned failure else failure

-- after calls
abbrev pub failure_after : List Call → Failure → Failure
failure_after [] failure = failure
failure_after (call ∷ earlier) failure = failure_by call (failure_after earlier failure)

-- the calls that are passed on: all but the one that fails
abbrev pub passed_on : List Call → Failure → List Call
passed_on [] failure = []
passed_on (call ∷ earlier) failure =
    if is_failing call (failure_after earlier failure)
    then passed_on earlier failure else call ∷ passed_on earlier failure

-- what becomes of a request whose call fails, at the last reported time: a start and a listen are refused, a wait and
-- an accept are faulted, a send and a receive fail. No other call is numbered
abbrev pub failed_call : ℕ → Request → Call
failed_call told to_begin = begins told
failed_call told (to_start leaf target) = starts leaf target (start.Refused Other told)
failed_call told (to_wait until) = waits until (record { at = told; how = how.Faulted })
failed_call told (to_close socket) = closes socket
failed_call told (to_listen target) = listens target (listen.Refused Other told)
failed_call told (to_accept listener until) = accepts listener until (accept.Faulted told)
failed_call told (to_send socket bytes until) = sends socket bytes until (send.Failed Other)
failed_call told (to_shut socket) = shuts socket
failed_call told (to_receive socket most until) = receives socket most until [] (recv.Failed Other)

-- the one of these calls that fails, if one does, was answered so
abbrev pub AreFailed : List Call → Failure → ℕ → Type 0
AreFailed [] failure told = Unit {0}
AreFailed (call ∷ earlier) failure told =
    (is_failing call (failure_after earlier failure) ≡ true
    → call ≡ failed_call (told_after earlier told) (request_of call))
    × AreFailed earlier failure told
