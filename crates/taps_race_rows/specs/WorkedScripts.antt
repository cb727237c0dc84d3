-- Sends and receives by scripts worked by hand, on a socket that completed at 10, and what the definitions answer.
use Rattle.std.specs.Prelude.{◌≡◌, ℕ, ◌-◌, ◌^◌, true, false, List, [], ◌∷◌}
use Rattle.taps_socket.specs.declared.cause.Cause.TheVariants.{Reset}
use Rattle.taps_socket.specs.declared.answers.SendAnswer.{SendAnswer}
use Rattle.taps_socket.specs.declared.answers.SendAnswer.TheVariants as send
use Rattle.taps_socket.specs.declared.answers.RecvAnswer.{RecvAnswer}
use Rattle.taps_socket.specs.declared.answers.RecvAnswer.TheVariants as recv
use Rattle.taps_script.specs.declared.line.Line.TheVariants.{Take, Give, Peer}
use Rattle.taps_script.specs.declared.line.PeerLine.TheVariants.{Holds, Echo, Sends, Ends, Fails}
use Rattle.taps_script.specs.declared.sending.SendStep.{SendStep}
use Rattle.taps_script.specs.DataAnswers.{Link, ReceiveStep, send_step, receive_step}

-- a socket over a stream, of which these pieces were written and read
abbrev pub stream : List (List ℕ) → List (List ℕ) → Link
stream written read = record { stream = true; done = 10; written = written; read = read }

-- a socket over datagrams, of which these pieces were written and read
abbrev pub datagrams : List (List ℕ) → List (List ℕ) → Link
datagrams written read = record { stream = false; done = 10; written = written; read = read }

-- what comes of a send, with the clock after it
abbrev pub sent : ℕ → SendAnswer → SendStep
sent clock answer = record { clock = clock; answer = answer }

-- what comes of a receive, with the clock after it and the bytes that came
abbrev pub received : ℕ → List ℕ → RecvAnswer → ReceiveStep
received clock came answer = record { clock = clock; came = came; answer = answer }

-- sends of three bytes: all of them or as many as the line `take` says, datagrams whole; held up to a time; and failed
-- from a time on
pub record WorkedSends : Type 0 where
  pub all : send_step [] (stream [] []) 12 3 50 ≡ sent 12 (send.Sent 3 12)
  pub take_1 : send_step (Take 1 ∷ []) (stream [] []) 12 3 50 ≡ sent 12 (send.Sent 1 12)
  pub take_more : send_step (Take 9 ∷ []) (stream [] []) 12 3 50 ≡ sent 12 (send.Sent 3 12)
  pub datagram_whole : send_step (Take 1 ∷ []) (datagrams [] []) 12 3 50 ≡ sent 12 (send.Sent 3 12)
  pub held_to_the_end : send_step (Peer (Holds 40) ∷ []) (stream [] []) 12 3 50 ≡ sent 50 (send.Sent 3 50)
  pub held_past_the_end : send_step (Peer (Holds 41) ∷ []) (stream [] []) 12 3 50 ≡ sent 50 (send.Timed 50)
  pub held_before : send_step (Peer (Holds 2) ∷ []) (stream [] []) 12 3 50 ≡ sent 12 (send.Sent 3 12)
  pub before_the_failure : send_step (Peer (Fails 3 Reset) ∷ []) (stream [] []) 12 3 50 ≡ sent 12 (send.Sent 3 12)
  pub at_the_failure : send_step (Peer (Fails 2 Reset) ∷ []) (stream [] []) 12 3 50 ≡ sent 12 (send.Failed Reset)
  pub held_into_the_failure : send_step (Peer (Holds 20) ∷ Peer (Fails 15 Reset) ∷ []) (stream [] []) 12 3 50 ≡
      sent 30 (send.Failed Reset)
  pub an_end_stops_no_send : send_step (Peer (Ends 0) ∷ []) (stream [] []) 12 3 50 ≡ sent 12 (send.Sent 3 12)

-- receives: what is there, in parts; what comes later, in time or not; an end and a failure, each behind the bytes
-- before it; datagrams whole; echoes
pub record WorkedReceives : Type 0 where
  pub all : receive_step (Peer (Sends 0 (1 ∷ 2 ∷ 3 ∷ [])) ∷ []) (stream [] []) 12 9 50 ≡
      received 12 (1 ∷ 2 ∷ 3 ∷ []) (recv.Got 3 12)
  pub as_asked : receive_step (Peer (Sends 0 (1 ∷ 2 ∷ 3 ∷ [])) ∷ []) (stream [] []) 12 2 50 ≡
      received 12 (1 ∷ 2 ∷ []) (recv.Got 2 12)
  pub the_rest : receive_step (Peer (Sends 0 (1 ∷ 2 ∷ 3 ∷ [])) ∷ []) (stream [] ((1 ∷ 2 ∷ []) ∷ [])) 12 2 50 ≡
      received 12 (3 ∷ []) (recv.Got 1 12)
  pub give_1 : receive_step (Give 1 ∷ Peer (Sends 0 (1 ∷ 2 ∷ 3 ∷ [])) ∷ []) (stream [] []) 12 9 50 ≡
      received 12 (1 ∷ []) (recv.Got 1 12)
  pub give_more_than_asked : receive_step (Give 9 ∷ Peer (Sends 0 (1 ∷ 2 ∷ 3 ∷ [])) ∷ []) (stream [] []) 12 2 50 ≡
      received 12 (1 ∷ 2 ∷ []) (recv.Got 2 12)
  pub two_lines_are_one_stream : receive_step (Peer (Sends 0 (1 ∷ [])) ∷ Peer (Sends 2 (2 ∷ [])) ∷ [])
      (stream [] []) 12 9 50 ≡ received 12 (1 ∷ 2 ∷ []) (recv.Got 2 12)
  pub nothing_comes : receive_step [] (stream [] []) 12 9 50 ≡ received 50 [] (recv.Timed 50)
  pub at_the_end_of_time_asked : receive_step (Peer (Sends 40 (1 ∷ [])) ∷ []) (stream [] []) 12 9 50 ≡
      received 50 (1 ∷ []) (recv.Got 1 50)
  pub too_late : receive_step (Peer (Sends 41 (1 ∷ [])) ∷ []) (stream [] []) 12 9 50 ≡ received 50 [] (recv.Timed 50)
  pub bytes_before_the_end : receive_step (Peer (Sends 0 (1 ∷ [])) ∷ Peer (Ends 0) ∷ []) (stream [] []) 12 9 50 ≡
      received 12 (1 ∷ []) (recv.Got 1 12)
  pub the_end : receive_step (Peer (Sends 0 (1 ∷ [])) ∷ Peer (Ends 0) ∷ []) (stream [] ((1 ∷ []) ∷ [])) 12 9 50 ≡
      received 12 [] recv.End
  pub the_end_later : receive_step (Peer (Ends 20) ∷ []) (stream [] []) 12 9 50 ≡ received 30 [] recv.End
  pub bytes_before_the_failure : receive_step (Peer (Sends 1 (1 ∷ [])) ∷ Peer (Fails 1 Reset) ∷ [])
      (stream [] []) 12 9 50 ≡ received 12 (1 ∷ []) (recv.Got 1 12)
  pub the_failure : receive_step (Peer (Sends 1 (1 ∷ [])) ∷ Peer (Fails 1 Reset) ∷ [])
      (stream [] ((1 ∷ []) ∷ [])) 12 9 50 ≡ received 12 [] (recv.Failed Reset)
  pub first_datagram : receive_step (Peer (Sends 0 (1 ∷ 2 ∷ [])) ∷ Peer (Sends 0 (3 ∷ [])) ∷ [])
      (datagrams [] []) 12 65535 50 ≡ received 12 (1 ∷ 2 ∷ []) (recv.Got 2 12)
  pub second_datagram : receive_step (Peer (Sends 0 (1 ∷ 2 ∷ [])) ∷ Peer (Sends 0 (3 ∷ [])) ∷ [])
      (datagrams [] ((1 ∷ 2 ∷ []) ∷ [])) 12 65535 50 ≡ received 12 (3 ∷ []) (recv.Got 1 12)
  pub give_cuts_no_datagram : receive_step (Give 1 ∷ Peer (Sends 0 (1 ∷ 2 ∷ [])) ∷ []) (datagrams [] []) 12 65535 50 ≡
      received 12 (1 ∷ 2 ∷ []) (recv.Got 2 12)
  pub datagrams_do_not_end : receive_step (Peer (Ends 0) ∷ []) (datagrams [] []) 12 65535 50 ≡
      received 50 [] (recv.Timed 50)
  pub echo : receive_step (Peer Echo ∷ []) (stream ((1 ∷ 2 ∷ 3 ∷ []) ∷ []) []) 12 2 50 ≡
      received 12 (1 ∷ 2 ∷ []) (recv.Got 2 12)
  pub echo_of_the_rest : receive_step (Peer Echo ∷ []) (stream ((1 ∷ 2 ∷ 3 ∷ []) ∷ []) ((1 ∷ 2 ∷ []) ∷ [])) 12 2 50 ≡
      received 12 (3 ∷ []) (recv.Got 1 12)
  pub echo_of_datagrams : receive_step (Peer Echo ∷ [])
      (datagrams ((1 ∷ 2 ∷ []) ∷ (3 ∷ []) ∷ []) ((1 ∷ 2 ∷ []) ∷ [])) 12 65535 50 ≡ received 12 (3 ∷ []) (recv.Got 1 12)
  pub past_the_end_of_time : receive_step (Peer (Sends 5 (1 ∷ [])) ∷ []) (record {
    stream = true;
    done = 2 ^ 63 - 2;
    written = [];
    read = [];
  }) (2 ^ 63 - 2) 9 (2 ^ 63 - 1) ≡ received (2 ^ 63 - 1) [] (recv.Timed (2 ^ 63 - 1))

-- what the definitions say of both
pub record JudgesWorkedScripts : Type 0 where
  pub sends : WorkedSends
  pub receives : WorkedReceives
