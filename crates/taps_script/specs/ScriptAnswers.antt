-- What scripted sockets answer to starts and waits (local), by the lines, the clock and the items so far. A trace
-- stands with its newest item first.
use Rattle.std.specs.Prelude.{ℕ, ◌+◌, ◌-◌, ◌^◌, Bool, ◌==◌, nat_le, nat_lt, min, max, if◌then◌else◌, List, [], ◌∷◌, length, fold, Option, None, Some}
use Rattle.std.specs.List.{filter_map}
use Rattle.std.specs.Option.{option_map_or}
use Rattle.taps_socket.specs.declared.cause.Cause.TheVariants.{Memory}
use Rattle.taps_socket.specs.declared.item.How.{How}
use Rattle.taps_socket.specs.declared.item.How.TheVariants.{Reached, Completed, Broke, Faulted}
use Rattle.taps_socket.specs.declared.item.Item.{Item}
use Rattle.taps_socket.specs.declared.item.Item.TheVariants as item
use Rattle.taps_script.specs.declared.line.Fate.{Fate}
use Rattle.taps_script.specs.declared.line.Fate.TheVariants.{Refuses, Completes, Breaks}
use Rattle.taps_script.specs.declared.line.Line.{Line}
use Rattle.taps_socket.specs.declared.answers.StartAnswer.{StartAnswer}
use Rattle.taps_socket.specs.declared.answers.StartAnswer.TheVariants.{Started, Refused}
use Rattle.taps_socket.specs.declared.answers.WaitAnswer.{WaitAnswer}
use Rattle.taps_socket.specs.RaceSockets.{has, started, pending_sockets}
use Rattle.taps_socket.specs.LiveSockets.{named_by_end}
use Rattle.taps_script.specs.ScriptLines.{late_of, is_to_fault, fate_under}

-- how many waits were made
abbrev pub waits : List Item → ℕ
waits [] = 0
waits (item.Waited until at how ∷ earlier) = waits earlier + 1
waits (_ ∷ earlier) = waits earlier

-- an event at a moment, if that comes before the end of time
abbrev pub in_time : ℕ → How → Option WaitAnswer
in_time at how = if nat_lt at (2 ^ 63) then Some (record { at = at; how = how }) else None

-- what is to come of a socket that was started at a moment with such a fate
abbrev pub to_come : Fate → ℕ → ℕ → Option WaitAnswer
to_come (Completes delay) socket at = in_time (at + delay) (Completed socket)
to_come (Breaks delay cause) socket at = in_time (at + delay) (Broke socket cause)
to_come _ socket at = None

-- the event of a socket, by the line of the leaf for which it was started
abbrev pub event : List Line → List Item → ℕ → Option WaitAnswer
event lines [] s = None
event lines (item.Started leaf target socket at ∷ earlier) s =
    if socket == s then to_come (fate_under leaf lines) socket at else event lines earlier s
event lines (_ ∷ earlier) s = event lines earlier s

-- the events of the pending sockets, the first started first, so that the numbers of their sockets rise
abbrev pub events : List Line → List Item → List WaitAnswer
events lines trace = filter_map (event lines trace) (pending_sockets trace)

-- the event is of this socket
abbrev pub is_of : ℕ → WaitAnswer → Bool
is_of s event = has (named_by_end event.how) s

-- of these events the one with the least moment, and on a tie that of the smallest socket
abbrev pub earlier : Option WaitAnswer → WaitAnswer → Option WaitAnswer
earlier None next = Some next
earlier (Some best) next = if nat_lt next.at best.at then Some next else Some best

-- the earliest of the events, if there are any
abbrev pub first_event : List WaitAnswer → Option WaitAnswer
first_event events = fold earlier None events

-- a wait in which nothing comes of a socket, at this moment of the clock
abbrev pub idle_answer : ℕ → ℕ → ℕ → WaitAnswer
idle_answer now late until = if nat_lt until (2 ^ 63) then record {
  at = min (max now until + late) (2 ^ 63 - 1);
  how = Reached;
} else record { at = now; how = Faulted }

-- a wait that is not to fault, by the event that comes first
abbrev pub answer_by : ℕ → ℕ → ℕ → Option WaitAnswer → WaitAnswer
answer_by now late until None = idle_answer now late until
answer_by now late until (Some event) =
    if nat_le event.at until then record { at = max now event.at; how = event.how } else idle_answer now late until

-- the answer to a wait, at this time of the clock
abbrev pub wait_answer : List Line → ℕ → List Item → ℕ → WaitAnswer
wait_answer lines now trace until =
    if is_to_fault lines (waits trace) then record { at = now; how = Faulted }
    else answer_by now (late_of lines) until (first_event (events lines trace))

-- a start, by its fate, as the next socket
abbrev pub start_by : Fate → ℕ → ℕ → StartAnswer
start_by (Refuses cause) socket at = Refused cause at
start_by _ socket at = Started socket at

-- the answer to a start, at this time of the clock: sockets are numbered from 0 in the order in which they were started
abbrev pub start_answer : List Line → ℕ → List Item → ℕ → StartAnswer
start_answer lines now trace leaf =
    if length (started trace) == 2 ^ 32 - 1 then Refused Memory now
    else start_by (fate_under leaf lines) (length (started trace)) now

-- the time at which a socket completes or breaks, from which its delays count
abbrev pub time_in : Option WaitAnswer → ℕ
time_in event = option_map_or (λ e. e.at) event 0

-- the time from which the delays of a socket count
abbrev pub done_of : List Line → List Item → ℕ → ℕ
done_of lines trace s = time_in (event lines trace s)
