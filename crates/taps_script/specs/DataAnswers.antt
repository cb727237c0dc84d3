-- What a script answers to sends and receives (local). Times at which something comes are plain sums; those past 2^63 -
-- 1 never come, since every time of a call is below 2^63.
use Rattle.std.specs.Prelude.{ℕ, ◌+◌, Bool, true, false, ◌&&◌, nat_le, nat_lt, min, max, if◌then◌else◌, List, [], ◌∷◌, length, take, drop, Option, None, Some, unwrap_or, option_map}
use Rattle.std.specs.List.{concat}
use Rattle.std.specs.Option.{option_and_then, option_or, option_map_or}
use Rattle.taps_socket.specs.declared.cause.Cause.{Cause}
use Rattle.taps_socket.specs.declared.answers.SendAnswer.TheVariants as send
use Rattle.taps_socket.specs.declared.answers.RecvAnswer.{RecvAnswer}
use Rattle.taps_socket.specs.declared.answers.RecvAnswer.TheVariants as recv
use Rattle.taps_socket.specs.Calls.{came_in}
use Rattle.taps_script.specs.declared.sending.SendStep.{SendStep}
use Rattle.taps_script.specs.declared.line.Line.{Line}
use Rattle.taps_script.specs.ScriptLines.{take_in, give_in, hold_in, is_echoing}
use Rattle.taps_script.specs.PeerTimes.{arrived, has_ended, failure, next_time}

-- one connected socket: whether it carries a stream, when it completed, and the pieces that were written on it and read
-- from it, oldest first
pub record Link : Type 0 where
  pub stream : Bool
  pub done : ℕ
  pub written : List (List ℕ)
  pub read : List (List ℕ)

-- a number of bytes, or the limit if there is a lesser one
abbrev pub limited : Option ℕ → ℕ → ℕ
limited limit n = option_map_or (λ most. min most n) limit n

-- how many bytes of so many a send takes: datagrams go whole
abbrev pub taken : List Line → Bool → ℕ → ℕ
taken lines true n = limited (take_in lines) n
taken lines false n = n

-- a send that is not held, at this time
abbrev pub send_by : Option Cause → ℕ → ℕ → SendStep
send_by (Some cause) now count = record { clock = now; answer = send.Failed cause }
send_by None now count = record { clock = now; answer = send.Sent count now }

-- a send of so many bytes at a time, on a socket that a script answers
abbrev pub send_at : List Line → Link → ℕ → ℕ → SendStep
send_at lines link now n = send_by (failure link.done now lines) now (taken lines link.stream n)

-- a send of so many bytes, held up to a time, if it is
abbrev pub send_held : List Line → Link → ℕ → ℕ → ℕ → ℕ → SendStep
send_held lines link now n until hold =
    if nat_lt now hold then (if nat_le hold until then send_at lines link hold n
    else record { clock = max now until; answer = send.Timed (max now until) })
    else send_at lines link now n

-- a send of so many bytes up to a time, at this time of the clock
abbrev pub send_step : List Line → Link → ℕ → ℕ → ℕ → SendStep
send_step lines link now n until =
    option_map_or (λ delay. send_held lines link now n until (link.done + delay))
    (hold_in lines) (send_at lines link now n)

-- the clock after a receive, the bytes that came, and its answer
pub record ReceiveStep : Type 0 where
  pub clock : ℕ
  pub came : List ℕ
  pub answer : RecvAnswer

-- the first of these pieces, or no bytes
abbrev pub first_piece : List (List ℕ) → List ℕ
first_piece [] = []
first_piece (piece ∷ pieces) = piece

-- the pieces that came in up to a time
abbrev pub incoming : List Line → Link → ℕ → List (List ℕ)
incoming lines link now = if is_echoing lines then link.written else arrived link.done now lines

-- what a receive of at most so many bytes finds unread: bytes of the stream, or the first datagram whole, for which
-- there is room
abbrev pub found_in : Bool → ℕ → List (List ℕ) → List (List ℕ) → List ℕ
found_in true most pieces read = take most (drop (length (concat read)) (concat pieces))
found_in false most pieces read = first_piece (drop (length read) pieces)

-- what a receive of at most so many bytes finds at a time
abbrev pub found : List Line → Link → ℕ → ℕ → List ℕ
found lines link now most = found_in link.stream (limited (give_in lines) most) (incoming lines link now) link.read

-- the end of a stream or a failure, where nothing is unread
abbrev pub closing_by : Bool → Option Cause → Option RecvAnswer
closing_by true failed = Some recv.End
closing_by false failed = option_map recv.Failed failed

-- how a receive that finds nothing ends at a time, if it ends
abbrev pub closing : List Line → Link → ℕ → Option RecvAnswer
closing lines link now = closing_by (link.stream && has_ended link.done now lines) (failure link.done now lines)

-- a receive that finds something at a time
abbrev pub receive_by : ℕ → List ℕ → Option RecvAnswer → Option ReceiveStep
receive_by now [] closed = option_map (λ answer. record { clock = now; came = []; answer = answer }) closed
receive_by now (b ∷ came) closed =
    Some (record { clock = now; came = b ∷ came; answer = recv.Got (length (b ∷ came)) now })

-- what comes of a receive at a time, if anything does
abbrev pub receive_at : List Line → Link → ℕ → ℕ → Option ReceiveStep
receive_at lines link most now = receive_by now (found lines link now most) (closing lines link now)

-- a time that is not past another
abbrev pub up_to : ℕ → ℕ → Option ℕ
up_to until at = if nat_le at until then Some at else None

-- a receive that finds something at the next time of the other end, if that comes in time
abbrev pub receive_next : List Line → Link → ℕ → ℕ → ℕ → Option ReceiveStep
receive_next lines link most now until = option_and_then (receive_at lines link most)
    (option_and_then (up_to until) (next_time link.stream link.done now lines))

-- a receive of at most so many bytes up to a time, at this time of the clock: what it finds now, or else then; or it is
-- timed
abbrev pub receive_step : List Line → Link → ℕ → ℕ → ℕ → ReceiveStep
receive_step lines link now most until =
    unwrap_or (option_or (receive_at lines link most now) (receive_next lines link most now until))
    (record { clock = max now until; came = []; answer = recv.Timed (max now until) })

-- the same by the bytes in front of which a receive put what came
abbrev pub received : ℕ → List ℕ → RecvAnswer → ReceiveStep
received clock out answer = record { clock = clock; came = came_in out answer; answer = answer }
