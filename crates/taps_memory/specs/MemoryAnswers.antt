-- What sockets in memory answer (local): functions of what was set, and of the items, the clock and the connections so
-- far. A trace stands with its newest item first.
use Rattle.std.specs.Prelude.{ℕ, ◌^◌, Bool, true, false, ◌||◌, ◌==◌, nat_lt, min, max, if◌then◌else◌, List, [], ◌∷◌, length, take, Option, None, Some}
use Rattle.std.specs.List.{list_any}
use Rattle.taps_stack.specs.declared.target.Target.{Target}
use Rattle.taps_stack.specs.StackTable.{is_stream}
use Rattle.taps_socket.specs.declared.cause.Cause.TheVariants as cause
use Rattle.taps_socket.specs.declared.item.How.TheVariants.{Reached, Completed, Faulted}
use Rattle.taps_socket.specs.declared.item.Item.{Item}
use Rattle.taps_socket.specs.declared.answers.StartAnswer.{StartAnswer}
use Rattle.taps_socket.specs.declared.answers.StartAnswer.TheVariants as start
use Rattle.taps_socket.specs.declared.answers.WaitAnswer.{WaitAnswer}
use Rattle.taps_socket.specs.declared.answers.ListenAnswer.{ListenAnswer}
use Rattle.taps_socket.specs.declared.answers.ListenAnswer.TheVariants as listen
use Rattle.taps_socket.specs.declared.answers.AcceptAnswer.{AcceptAnswer}
use Rattle.taps_socket.specs.declared.answers.AcceptAnswer.TheVariants as accept
use Rattle.taps_socket.specs.declared.answers.SendAnswer.{SendAnswer}
use Rattle.taps_socket.specs.declared.answers.SendAnswer.TheVariants as send
use Rattle.taps_socket.specs.declared.answers.RecvAnswer.{RecvAnswer}
use Rattle.taps_socket.specs.declared.answers.RecvAnswer.TheVariants as recv
use Rattle.taps_socket.specs.RaceSockets.{pending_sockets}
use Rattle.taps_socket.specs.LiveSockets.{given}
use Rattle.taps_socket.specs.Sides.{listeners}
use Rattle.taps_memory.specs.Pairs.{Pair, first_of, has_end, waits_for, own_end, other_end, under_way, free_at}
use Rattle.taps_memory.specs.Listeners.{listener_on}

-- what is set from the beginning: at most so many connections; at most so many bytes under way from each end; and the
-- numbers of the waits and accepts that fault, which are counted together from 0
pub record Setting : Type 0 where
  pub pairs : ℕ
  pub capacity : ℕ
  pub plan : List ℕ

-- what the calls so far made: the items, newest first; the clock; the number of the next wait or accept; and the
-- connections, the earliest started first
pub record State : Type 0 where
  pub trace : List Item
  pub clock : ℕ
  pub turns : ℕ
  pub pairs : List Pair

-- before the first call
abbrev pub first_state : State
first_state = record { trace = []; clock = 0; turns = 0; pairs = [] }

-- the number of the next socket: they are numbered from 0 in the order in which they are given
abbrev pub next_number : List Item → ℕ
next_number trace = length (given trace)

-- the wait or accept of this number faults
abbrev pub is_to_fault : List ℕ → ℕ → Bool
is_to_fault plan turns = list_any (λ k. k == turns) plan

-- how many sockets may listen, one after the other
abbrev pub most_listeners : ℕ
most_listeners = 1048576

-- a start over a stack, to a target on which this socket listens, if one does
abbrev pub start_to : Setting → State → Option ℕ → StartAnswer
start_to set s None = start.Refused cause.Refused s.clock
start_to set s (Some listener) = if length s.pairs == set.pairs then start.Refused cause.Memory s.clock
    else start.Started (next_number s.trace) s.clock

-- a start is refused over datagrams and where no socket listens; and where all connections were used. Else it is given
-- a socket
abbrev pub start_answer : Setting → State → Target → StartAnswer
start_answer set s target = if is_stream target.stack then start_to set s (listener_on s.trace target)
    else start.Refused cause.Refused s.clock

-- a wait that finds nothing: it is reached at its time, if that comes
abbrev pub wait_idle : ℕ → ℕ → WaitAnswer
wait_idle clock until = if nat_lt until (2 ^ 63) then record { at = max clock until; how = Reached }
    else record { at = clock; how = Faulted }

-- a wait completes the first of the pending sockets, which has the smallest number
abbrev pub wait_by : ℕ → ℕ → List ℕ → WaitAnswer
wait_by clock until [] = wait_idle clock until
wait_by clock until (socket ∷ others) = record { at = clock; how = Completed socket }

-- and it faults where that was set
abbrev pub wait_answer : Setting → State → ℕ → WaitAnswer
wait_answer set s until = if is_to_fault set.plan s.turns then record { at = s.clock; how = Faulted }
    else wait_by s.clock until (pending_sockets s.trace)

-- a listen is refused on the target of another, and once so many were given
abbrev pub listen_by : Option ℕ → List Item → ℕ → ListenAnswer
listen_by (Some listener) trace clock = listen.Refused cause.Other clock
listen_by None trace clock = if nat_lt (length (listeners trace)) most_listeners
    then listen.Listening (next_number trace) clock else listen.Refused cause.Other clock

abbrev pub listen_answer : State → Target → ListenAnswer
listen_answer s target = listen_by (listener_on s.trace target) s.trace s.clock

-- an accept gives a socket to the earliest connection that waits for it, if one does; else it is timed
abbrev pub accept_by : Option Pair → List Item → ℕ → ℕ → AcceptAnswer
accept_by (Some p) trace clock until = accept.Accepted (next_number trace) clock
accept_by None trace clock until = accept.Timed (max clock until)

-- and it faults where that was set
abbrev pub accept_answer : Setting → State → ℕ → ℕ → AcceptAnswer
accept_answer set s listener until = if is_to_fault set.plan s.turns then accept.Faulted s.clock
    else accept_by (first_of (λ p. waits_for p listener) s.pairs) s.trace s.clock until

-- a send of so many bytes fails where the other end was closed; it is timed where no more bytes may be under way; else
-- it takes as many as may
abbrev pub send_by : Bool → ℕ → ℕ → ℕ → ℕ → SendAnswer
send_by true free n clock until = send.Failed cause.Reset
send_by false free n clock until =
    if free == 0 then send.Timed (max clock until) else send.Sent (min n free) clock

-- a socket that is no end cannot send
abbrev pub send_in : Option Pair → ℕ → ℕ → ℕ → ℕ → SendAnswer
send_in None socket n clock until = send.Failed cause.Other
send_in (Some p) socket n clock until =
    send_by (other_end p socket).closed (free_at (own_end p socket)) n clock until

abbrev pub send_answer : State → ℕ → ℕ → ℕ → SendAnswer
send_answer s socket n until = send_in (first_of (λ p. has_end p socket) s.pairs) socket n s.clock until

-- the bytes that came, and the answer
pub record Receipt : Type 0 where
  pub came : List ℕ
  pub answer : RecvAnswer

-- a receive gives the bytes that it finds; where it finds none, the stream ends if the other end ended its sending side
-- or was closed, and else it is timed
abbrev pub receive_by : List ℕ → Bool → ℕ → ℕ → Receipt
receive_by [] over clock until =
    record { came = []; answer = if over then recv.End else recv.Timed (max clock until) }
receive_by (b ∷ bytes) over clock until =
    record { came = b ∷ bytes; answer = recv.Got (length (b ∷ bytes)) clock }

-- it finds the oldest bytes that are under way, at most so many. A socket that is no end cannot receive
abbrev pub receive_in : Option Pair → ℕ → ℕ → ℕ → ℕ → Receipt
receive_in None socket most clock until = record { came = []; answer = recv.Failed cause.Other }
receive_in (Some p) socket most clock until =
    receive_by (take most (under_way (other_end p socket)))
    ((other_end p socket).shut || (other_end p socket).closed) clock until

abbrev pub receive_answer : State → ℕ → ℕ → ℕ → Receipt
receive_answer s socket most until = receive_in (first_of (λ p. has_end p socket) s.pairs) socket most s.clock until
