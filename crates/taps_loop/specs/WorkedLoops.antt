-- Exchanges between both ends worked by hand, call by call, and what the definitions say of them.
use Rattle.std.specs.Prelude.{◌≡◌, ℕ, true, false, if◌then◌else◌, ◌==◌, List, [], ◌∷◌, length, reverse, Some, None}
use Rattle.taps_property.specs.declared.message_props.MessageProps.{MessageProps}
use Rattle.taps_message.specs.declared.accepted.Accepted.{Accepted}
use Rattle.taps_socket.specs.declared.cause.Cause.TheVariants as cause
use Rattle.taps_socket.specs.declared.answers.SendAnswer.TheVariants.{Sent, Timed, Failed}
use Rattle.taps_socket.specs.declared.answers.RecvAnswer.TheVariants as recv
use Rattle.taps_socket.specs.Calls.{Call, sends, receives, shuts}
use Rattle.taps_connection.specs.Encodings.{Encoding, encoding_of}
use Rattle.taps_exchange.specs.declared.outcome.Outcome.{Outcome}
use Rattle.taps_exchange.specs.declared.outcome.Outcome.TheVariants as outcome
use Rattle.taps_exchange.specs.Decodings.{Decoding, framed_decoding, decoding_of}
use Rattle.taps_exchange.specs.Turns.{IsExchange}
use Rattle.taps_exchange.specs.WorkedExchanges.{len8, len16, first_of_8, first_of_16, first_of_none, text}
use Rattle.taps_loop.specs.Loops.{Ends, turn_loop, sent_in, heard_in}

-- socket 1 initiated and socket 2 was accepted, at time 0, up to a deadline
abbrev pub ends : Encoding → Decoding → List Accepted → ℕ → Ends
ends e d messages until = record {
  from = record {
    socket = 1;
    encoding = e;
    decoding = d;
    messages = messages;
    accepted = 0;
    needs = 0;
    piece = 4096;
    until = until;
  };
  to = record {
    socket = 2;
    encoding = e;
    decoding = d;
    messages = [];
    accepted = 0;
    needs = 0;
    piece = 4096;
    until = until;
  };
}

abbrev pub in_16 : List Accepted → ℕ → Ends
in_16 messages until = ends len16 (framed_decoding first_of_16) messages until

abbrev pub in_8 : List Accepted → ℕ → Ends
in_8 messages until = ends len8 (framed_decoding first_of_8) messages until

-- it encodes one message, and no byte begins a frame of it
abbrev pub once : Encoding
once = record { refusal = λ k b. if k == 0 then None else Some 0; bytes = λ k b. b; ends = λ final. final }

abbrev pub in_once : List Accepted → ℕ → Ends
in_once messages until = ends once (framed_decoding first_of_none) messages until

abbrev pub plain : List Accepted → ℕ → Ends
plain messages until = ends (encoding_of true []) (decoding_of true []) messages until

-- the calls of each end
abbrev pub out : List ℕ → ℕ → ℕ → ℕ → Call
out bytes until count at = sends 1 bytes until (Sent count at)

abbrev pub blocked : List ℕ → ℕ → ℕ → Call
blocked bytes until at = sends 1 bytes until (Timed at)

abbrev pub came : List ℕ → ℕ → ℕ → Call
came bytes until at = receives 2 4096 until bytes (recv.Got (length bytes) at)

abbrev pub idle : ℕ → ℕ → Call
idle until at = receives 2 4096 until [] (recv.Timed at)

abbrev pub a : MessageProps → Accepted
a p = text p 0 0 (97 ∷ []) None false

abbrev pub b : MessageProps → Accepted
b p = text p 1 0 (98 ∷ []) None false

-- it expires after 50 milliseconds
abbrev pub short : MessageProps → Accepted
short p = text p 1 0 (98 ∷ []) (Some 50) false

-- the calls, in the order in which they came, are an exchange with this outcome; so many messages were sent, and these
-- were heard
pub record Has (x : Ends) (calls : List Call) (o : Outcome) (sent : ℕ) (heard : List (List ℕ)) : Type 0 where
  pub exchange : IsExchange (turn_loop x) (reverse calls) o
  pub sent_is : sent_in x (reverse calls) ≡ sent
  pub heard_is : heard_in x (reverse calls) o ≡ heard

pub record RightLoops (p : MessageProps) : Type 0 where
  pub idle_at_once : Has (in_16 [] 10000) [] outcome.Done 0 []
  pub four_bytes_under_way : Has (in_16 (a p ∷ b p ∷ []) 10000)
      (out (0 ∷ 1 ∷ 97 ∷ []) 0 3 0 ∷ came (0 ∷ 1 ∷ 97 ∷ []) 1 0
      ∷ out (0 ∷ 1 ∷ 98 ∷ []) 0 3 0 ∷ came (0 ∷ 1 ∷ 98 ∷ []) 1 0 ∷ [])
      outcome.Done 2 ((97 ∷ []) ∷ (98 ∷ []) ∷ [])
  pub one_byte_under_way : Has (in_16 (a p ∷ []) 10000)
      (out (0 ∷ 1 ∷ 97 ∷ []) 0 1 0 ∷ blocked (1 ∷ 97 ∷ []) 0 0 ∷ came (0 ∷ []) 1 0
      ∷ out (1 ∷ 97 ∷ []) 0 1 0 ∷ blocked (97 ∷ []) 0 0 ∷ came (1 ∷ []) 1 0
      ∷ out (97 ∷ []) 0 1 0 ∷ came (97 ∷ []) 1 0 ∷ [])
      outcome.Done 1 ((97 ∷ []) ∷ [])
  pub both_with_one_receive : Has (in_16 (a p ∷ b p ∷ []) 10000)
      (out (0 ∷ 1 ∷ 97 ∷ []) 0 3 0 ∷ idle 1 1 ∷ out (0 ∷ 1 ∷ 98 ∷ []) 1 3 1
      ∷ came (0 ∷ 1 ∷ 97 ∷ 0 ∷ 1 ∷ 98 ∷ []) 2 1 ∷ [])
      outcome.Done 2 ((97 ∷ []) ∷ (98 ∷ []) ∷ [])
  pub another_connection_was_accepted : Has (in_16 (a p ∷ []) 2)
      (out (0 ∷ 1 ∷ 97 ∷ []) 0 3 0 ∷ idle 1 1 ∷ idle 2 2 ∷ []) outcome.Timed 1 []
  pub times_out_in_sending : Has (in_16 (a p ∷ []) 2)
      (blocked (0 ∷ 1 ∷ 97 ∷ []) 0 0 ∷ idle 1 1 ∷ blocked (0 ∷ 1 ∷ 97 ∷ []) 1 1 ∷ idle 2 2
      ∷ blocked (0 ∷ 1 ∷ 97 ∷ []) 2 2 ∷ []) outcome.Timed 0 []
  pub the_other_is_closed : Has (in_16 (a p ∷ []) 2)
      (sends 1 (0 ∷ 1 ∷ 97 ∷ []) 0 (Failed cause.Reset) ∷ []) (outcome.DataFailed cause.Reset) 0 []
  pub fails_in_hearing : Has (in_16 (a p ∷ []) 9)
      (out (0 ∷ 1 ∷ 97 ∷ []) 0 3 0 ∷ receives 2 4096 1 [] (recv.Failed cause.Reset) ∷ [])
      (outcome.DataFailed cause.Reset) 1 []
  pub peer_ends : Has (in_16 (a p ∷ b p ∷ []) 9)
      (out (0 ∷ 1 ∷ 97 ∷ []) 0 3 0 ∷ receives 2 4096 1 [] recv.End ∷ []) outcome.PeerEnded 1 []
  pub bad_though_a_message_is_refused : Has (in_once (a p ∷ b p ∷ []) 9)
      (out (97 ∷ []) 0 1 0 ∷ came (97 ∷ []) 1 0 ∷ [])
      (outcome.BadFrame (record { message = 0; layer = 0; place = 0 })) 1 []
  pub refused_in_its_turn : Has (in_once (a p ∷ b p ∷ []) 9)
      (out (97 ∷ []) 0 1 0 ∷ idle 1 1 ∷ []) (outcome.NotSpeakable 0 1 0) 1 []
  pub expires_in_its_turn : Has (in_16 (a p ∷ short p ∷ []) 100)
      (out (0 ∷ 1 ∷ 97 ∷ []) 0 3 60 ∷ came (0 ∷ 1 ∷ 97 ∷ []) 61 60 ∷ [])
      (outcome.Expired 0 1) 1 ((97 ∷ []) ∷ [])
  pub heard_before_the_need_fell : Has (in_16 (a p ∷ short p ∷ []) 100)
      (out (0 ∷ 1 ∷ 97 ∷ []) 0 3 60 ∷ came (0 ∷ 1 ∷ 97 ∷ 0 ∷ 1 ∷ 98 ∷ []) 61 60 ∷ [])
      (outcome.Expired 0 1) 1 ((97 ∷ []) ∷ [])
  pub waits_where_no_more_is_needed : Has (in_8 (a p ∷ []) 9)
      (blocked (1 ∷ 97 ∷ []) 0 0 ∷ came (1 ∷ 99 ∷ []) 1 0 ∷ blocked (1 ∷ 97 ∷ []) 1 1
      ∷ blocked (1 ∷ 97 ∷ []) 2 3 ∷ out (1 ∷ 97 ∷ []) 4 2 3 ∷ []) outcome.Done 1 ((99 ∷ []) ∷ [])
  pub ends_its_side : Has (plain (a p ∷ []) 9)
      (out (97 ∷ []) 0 1 0 ∷ shuts 1 ∷ came (97 ∷ []) 1 0 ∷ receives 2 4096 1 [] recv.End ∷ [])
      outcome.Done 1 ((97 ∷ []) ∷ [])

-- no exchange is so
abbrev pub Wrong : Ends → List Call → Outcome → Type 0
Wrong x calls o = IsExchange (turn_loop x) (reverse calls) o → ⊥

pub record WrongLoops (p : MessageProps) : Type 0 where
  pub needs_too_few : Wrong (in_16 (a p ∷ []) 9) (out (0 ∷ 1 ∷ 97 ∷ []) 0 3 0 ∷ []) outcome.Done
  pub receives_first : Wrong (in_16 (a p ∷ []) 9)
      (idle 1 1 ∷ out (0 ∷ 1 ∷ 97 ∷ []) 1 3 1 ∷ came (0 ∷ 1 ∷ 97 ∷ []) 2 1 ∷ []) outcome.Done
  pub sends_twice_in_a_row : Wrong (in_16 (a p ∷ b p ∷ []) 9)
      (out (0 ∷ 1 ∷ 97 ∷ []) 0 3 0 ∷ out (0 ∷ 1 ∷ 98 ∷ []) 0 3 0
      ∷ came (0 ∷ 1 ∷ 97 ∷ 0 ∷ 1 ∷ 98 ∷ []) 1 0 ∷ []) outcome.Done
  pub receives_twice_in_a_row : Wrong (in_16 (a p ∷ b p ∷ []) 9)
      (out (0 ∷ 1 ∷ 97 ∷ []) 0 3 0 ∷ came (0 ∷ []) 1 0 ∷ came (1 ∷ 97 ∷ []) 1 0
      ∷ out (0 ∷ 1 ∷ 98 ∷ []) 0 3 0 ∷ came (0 ∷ 1 ∷ 98 ∷ []) 1 0 ∷ []) outcome.Done
  pub times_out_on_a_turn : Wrong (in_16 (a p ∷ []) 9)
      (blocked (0 ∷ 1 ∷ 97 ∷ []) 0 0 ∷ []) outcome.Timed
  pub times_out_though_a_message_waits : Wrong (in_16 (a p ∷ []) 1)
      (blocked (0 ∷ 1 ∷ 97 ∷ []) 0 0 ∷ idle 1 1 ∷ []) outcome.Timed
  pub waits_too_long : Wrong (in_16 (a p ∷ []) 9)
      (out (0 ∷ 1 ∷ 97 ∷ []) 9 3 0 ∷ came (0 ∷ 1 ∷ 97 ∷ []) 1 0 ∷ []) outcome.Done
  pub past_the_deadline : Wrong (in_16 (a p ∷ []) 0)
      (out (0 ∷ 1 ∷ 97 ∷ []) 0 3 0 ∷ came (0 ∷ 1 ∷ 97 ∷ []) 1 0 ∷ []) outcome.Done
  pub on_the_other_socket : Wrong (in_16 (a p ∷ []) 9)
      (out (0 ∷ 1 ∷ 97 ∷ []) 0 3 0 ∷ receives 1 4096 1 (0 ∷ 1 ∷ 97 ∷ []) (recv.Got 3 0) ∷ []) outcome.Done

abbrev pub JudgesWorkedLoops : Type 0
JudgesWorkedLoops = (p : MessageProps) → RightLoops p × WrongLoops p
