-- What comes of a request to sockets in memory (local): a function of what was set and of the calls so far. A list of
-- calls stands with its newest one first.
use Rattle.std.specs.Prelude.{◌≡◌, ℕ, List, [], ◌∷◌, ◌++◌, length, unwrap_or}
use Rattle.taps_base.specs.Counts.{one_more}
use Rattle.taps_stack.specs.declared.target.Target.{Target}
use Rattle.taps_socket.specs.declared.answers.StartAnswer.{StartAnswer}
use Rattle.taps_socket.specs.declared.answers.StartAnswer.TheVariants as start
use Rattle.taps_socket.specs.declared.answers.AcceptAnswer.{AcceptAnswer}
use Rattle.taps_socket.specs.declared.answers.AcceptAnswer.TheVariants as accept
use Rattle.taps_socket.specs.declared.answers.SendAnswer.{SendAnswer}
use Rattle.taps_socket.specs.declared.answers.SendAnswer.TheVariants as send
use Rattle.taps_socket.specs.declared.answers.RecvAnswer.{RecvAnswer}
use Rattle.taps_socket.specs.declared.answers.RecvAnswer.TheVariants as recv
use Rattle.taps_socket.specs.declared.item.Item.{Item}
use Rattle.taps_socket.specs.Calls.{Call, begins, starts, waits, closes, listens, accepts, sends, shuts, receives, Request, to_begin, to_start, to_wait, to_close, to_listen, to_accept, to_send, to_shut, to_receive, request_of, items_by, taken_of}
use Rattle.taps_socket.specs.Shows.{told_by}
use Rattle.taps_memory.specs.Pairs.{Pair, new_pair, change_first, has_end, waits_for, accepted_pair, with_own, with_other, closed_end, shut_end, written_end, taken_end}
use Rattle.taps_memory.specs.Listeners.{listener_on}
use Rattle.taps_memory.specs.MemoryAnswers.{Setting, State, first_state, start_answer, wait_answer, listen_answer, accept_answer, send_answer, Receipt, receive_answer}

-- the socket that listens on a target, on which one does
abbrev pub listener_for : List Item → Target → ℕ
listener_for trace target = unwrap_or (listener_on trace target) 0

-- a start that was given a socket begins a connection
abbrev pub pairs_started : Setting → List Item → Target → StartAnswer → List Pair → List Pair
pairs_started set trace target (start.Started socket at) pairs =
    pairs ++ new_pair set.capacity (listener_for trace target) socket ∷ []
pairs_started set trace target (start.Refused cause at) pairs = pairs

-- an accept gives its socket to the earliest connection that waits
abbrev pub pairs_accepted : ℕ → AcceptAnswer → List Pair → List Pair
pairs_accepted listener (accept.Accepted socket at) pairs =
    change_first (λ p. waits_for p listener) (accepted_pair socket) pairs
pairs_accepted listener (accept.Timed at) pairs = pairs
pairs_accepted listener (accept.Faulted at) pairs = pairs

-- the bytes that were taken of a send are written at its end
abbrev pub pairs_sent : ℕ → List ℕ → SendAnswer → List Pair → List Pair
pairs_sent socket bytes (send.Sent count at) pairs =
    change_first (λ p. has_end p socket) (with_own (written_end (taken_of bytes (send.Sent count at))) socket) pairs
pairs_sent socket bytes (send.Timed at) pairs = pairs
pairs_sent socket bytes (send.Failed cause) pairs = pairs

-- those that came by a receive are no more under way from the other end
abbrev pub pairs_received : ℕ → RecvAnswer → List Pair → List Pair
pairs_received socket (recv.Got count at) pairs =
    change_first (λ p. has_end p socket) (with_other (taken_end count) socket) pairs
pairs_received socket recv.End pairs = pairs
pairs_received socket (recv.Timed at) pairs = pairs
pairs_received socket (recv.Failed cause) pairs = pairs

-- the connections after a call behind this trace
abbrev pub pairs_by : Setting → List Item → Call → List Pair → List Pair
pairs_by set trace (begins at) pairs = pairs
pairs_by set trace (starts leaf target answer) pairs = pairs_started set trace target answer pairs
pairs_by set trace (waits until answer) pairs = pairs
pairs_by set trace (closes socket) pairs = change_first (λ p. has_end p socket) (with_own closed_end socket) pairs
pairs_by set trace (listens target answer) pairs = pairs
pairs_by set trace (accepts listener until answer) pairs = pairs_accepted listener answer pairs
pairs_by set trace (sends socket bytes until answer) pairs = pairs_sent socket bytes answer pairs
pairs_by set trace (shuts socket) pairs = change_first (λ p. has_end p socket) (with_own shut_end socket) pairs
pairs_by set trace (receives socket most until came answer) pairs = pairs_received socket answer pairs

-- the number of the next wait or accept after a call. It stays at its last value
abbrev pub turns_by : Call → ℕ → ℕ
turns_by (waits until answer) turns = one_more turns
turns_by (accepts listener until answer) turns = one_more turns
turns_by _ turns = turns

-- the state after a call, and after these calls
abbrev pub after_call : Setting → Call → State → State
after_call set call s =
    record {
      trace = items_by call ++ s.trace;
      clock = told_by call s.clock;
      turns = turns_by call s.turns;
      pairs = pairs_by set s.trace call s.pairs;
    }

abbrev pub state_after : Setting → List Call → State
state_after set [] = first_state
state_after set (call ∷ earlier) = after_call set call (state_after set earlier)

-- the call of a receive, by what came
abbrev pub received_call : ℕ → ℕ → ℕ → Receipt → Call
received_call socket most until receipt = receives socket most until receipt.came receipt.answer

-- the call that a request becomes. The time of a beginning is that of the clock
abbrev pub answer_to : Setting → State → Request → Call
answer_to set s to_begin = begins s.clock
answer_to set s (to_start leaf target) = starts leaf target (start_answer set s target)
answer_to set s (to_wait until) = waits until (wait_answer set s until)
answer_to set s (to_close socket) = closes socket
answer_to set s (to_listen target) = listens target (listen_answer s target)
answer_to set s (to_accept listener until) = accepts listener until (accept_answer set s listener until)
answer_to set s (to_send socket bytes until) = sends socket bytes until (send_answer s socket (length bytes) until)
answer_to set s (to_shut socket) = shuts socket
answer_to set s (to_receive socket most until) = received_call socket most until (receive_answer s socket most until)

-- each call, with its answer, is what comes of its request behind the earlier ones
abbrev pub Follows : Setting → List Call → Type 0
Follows set [] = Unit {0}
Follows set (call ∷ earlier) =
    (call ≡ answer_to set (state_after set earlier) (request_of call)) × Follows set earlier
