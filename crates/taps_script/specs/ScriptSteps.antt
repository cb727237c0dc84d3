-- What comes of a request to scripted sockets (local): a function of the lines and of the calls so far. A list of calls
-- stands with its newest one first.
use Rattle.std.specs.Prelude.{◌≡◌, ℕ, max, List, [], ◌∷◌, length, Option, Some, unwrap_or}
use Rattle.taps_socket.specs.declared.cause.Cause.TheVariants.{Other}
use Rattle.taps_socket.specs.declared.item.Item.{Item}
use Rattle.taps_socket.specs.declared.answers.ListenAnswer.TheVariants as listen
use Rattle.taps_socket.specs.declared.answers.AcceptAnswer.TheVariants as accept
use Rattle.taps_socket.specs.Sides.{carries_stream}
use Rattle.taps_socket.specs.Calls.{Call, begins, starts, waits, closes, listens, accepts, sends, shuts, receives, Request, to_begin, to_start, to_wait, to_close, to_listen, to_accept, to_send, to_shut, to_receive, request_of, items_of}
use Rattle.taps_socket.specs.Shows.{written_after, read_after}
use Rattle.taps_script.specs.declared.line.Line.{Line}
use Rattle.taps_script.specs.declared.sending.SendStep.{SendStep}
use Rattle.taps_script.specs.ScriptLines.{begin_of}
use Rattle.taps_script.specs.ScriptAnswers.{start_answer, wait_answer, done_of}
use Rattle.taps_script.specs.DataAnswers.{Link, ReceiveStep, send_step, receive_step}

-- the clock after a request, and the call that it becomes
pub record Step : Type 0 where
  pub clock : ℕ
  pub call : Call

-- the link of a socket by its pieces, where observable
abbrev pub link_by : List Line → List Item → ℕ → Option (List (List ℕ)) → Option (List (List ℕ)) → Link
link_by lines trace s written read =
    record {
      stream = carries_stream trace s;
      done = done_of lines trace s;
      written = unwrap_or written [];
      read = unwrap_or read [];
    }

-- the clock and the call after a send
abbrev pub sent_step : ℕ → List ℕ → ℕ → SendStep → Step
sent_step socket bytes until step = record { clock = step.clock; call = sends socket bytes until step.answer }

-- the clock and the call after a receive
abbrev pub received_step : ℕ → ℕ → ℕ → ReceiveStep → Step
received_step socket most until step =
    record { clock = step.clock; call = receives socket most until step.came step.answer }

-- what comes of a request at this time of the clock, after these items, by the link of each socket. Nothing listens: a
-- listen is refused, and an accept, of which there is none, would be timed
abbrev pub step : List Line → ℕ → List Item → (ℕ → Link) → Request → Step
step lines now trace link to_begin = record { clock = now; call = begins now }
step lines now trace link (to_start leaf target) =
    record { clock = now; call = starts leaf target (start_answer lines now trace leaf) }
step lines now trace link (to_wait until) =
    record { clock = (wait_answer lines now trace until).at; call = waits until (wait_answer lines now trace until) }
step lines now trace link (to_close socket) = record { clock = now; call = closes socket }
step lines now trace link (to_listen target) = record { clock = now; call = listens target (listen.Refused Other now) }
step lines now trace link (to_accept listener until) =
    record { clock = max now until; call = accepts listener until (accept.Timed (max now until)) }
step lines now trace link (to_send socket bytes until) =
    sent_step socket bytes until (send_step lines (link socket) now (length bytes) until)
step lines now trace link (to_shut socket) = record { clock = now; call = shuts socket }
step lines now trace link (to_receive socket most until) =
    received_step socket most until (receive_step lines (link socket) now most until)

-- the link of a socket after these calls
abbrev pub link_after : List Line → List Call → ℕ → Link
link_after lines calls s =
    link_by lines (items_of calls) s (written_after [] calls s (Some [])) (read_after [] calls s (Some []))

-- the clock after these calls, and what comes of a request then
abbrev pub clock_after : List Line → List Call → ℕ
clock_after lines [] = begin_of lines
clock_after lines (call ∷ earlier) =
    (step lines (clock_after lines earlier) (items_of earlier) (link_after lines earlier) (request_of call)).clock

-- the call that a request becomes behind these calls
abbrev pub answer : List Line → List Call → Request → Call
answer lines calls request =
    (step lines (clock_after lines calls) (items_of calls) (link_after lines calls) request).call

-- each call, with its answer, is what comes of its request
abbrev pub Follows : List Line → List Call → Type 0
Follows lines [] = Unit {0}
Follows lines (call ∷ earlier) = (call ≡ answer lines earlier (request_of call)) × Follows lines earlier
