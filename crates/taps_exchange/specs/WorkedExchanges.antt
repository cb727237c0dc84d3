-- Exchanges worked by hand, call by call, and what the definitions say of them.
use Rattle.std.specs.Prelude.{◌≡◌, ℕ, ◌+◌, ◌*◌, ◌/◌, ◌%◌, Bool, true, false, nat_le, if◌then◌else◌, List, [], ◌∷◌, take, length, reverse, Option, Some, None}
use Rattle.taps_property.specs.declared.message_props.MessageProps.{MessageProps}
use Rattle.taps_message.specs.declared.accepted.Accepted.{Accepted}
use Rattle.taps_socket.specs.declared.cause.Cause.TheVariants as cause
use Rattle.taps_socket.specs.declared.item.Item.{Item}
use Rattle.taps_socket.specs.declared.item.Item.TheVariants as item
use Rattle.taps_socket.specs.declared.answers.SendAnswer.TheVariants.{Sent, Timed, Failed}
use Rattle.taps_socket.specs.declared.answers.RecvAnswer.TheVariants as recv
use Rattle.taps_socket.specs.Calls.{Call, sends, receives, shuts, items_of}
use Rattle.taps_connection.specs.Encodings.{Encoding, encoding_of}
use Rattle.taps_exchange.specs.declared.outcome.Outcome.{Outcome}
use Rattle.taps_exchange.specs.declared.outcome.Outcome.TheVariants as outcome
use Rattle.taps_exchange.specs.Decodings.{First, message, need, bad, Decoding, framed_decoding, decoding_of, messages_of}
use Rattle.taps_exchange.specs.Expiries.{HasPassedBySent}
use Rattle.taps_exchange.specs.Members.{Member, calls_on, outbox_after, hearing_after}
use Rattle.taps_exchange.specs.Turns.{Role, initiate, turn_of, IsExchange}

-- a length in one byte, of bodies of at most 63 bytes
abbrev pub first_of_8 : ℕ → List ℕ → First
first_of_8 k [] = need
first_of_8 k (n ∷ x) = if nat_le n (length x) then message (take n x) (n + 1) else need

abbrev pub len8 : Encoding
len8 = record {
  refusal = λ k b. if nat_le (length b) 63 then None else Some 0;
  bytes = λ k b. length b ∷ b;
  ends = λ final. final;
}

-- a length in two bytes
abbrev pub first_of_16 : ℕ → List ℕ → First
first_of_16 k [] = need
first_of_16 k (a ∷ []) = need
first_of_16 k (a ∷ b ∷ x) =
    if nat_le (256 * a + b) (length x) then message (take (256 * a + b) x) (256 * a + b + 2) else need

abbrev pub len16 : Encoding
len16 = record {
  refusal = λ k b. if nat_le (length b) 65535 then None else Some 0;
  bytes = λ k b. (length b / 256) ∷ (length b % 256) ∷ b;
  ends = λ final. final;
}

-- it encodes nothing, and no byte begins a frame of it
abbrev pub first_of_none : ℕ → List ℕ → First
first_of_none k [] = need
first_of_none k (a ∷ x) = bad 0 0

abbrev pub none : Encoding
none = record { refusal = λ k b. Some 0; bytes = λ k b. b; ends = λ final. final }

-- a message: its number, when it was accepted, its body, its lifetime, and whether it is final
abbrev pub text : MessageProps → ℕ → ℕ → List ℕ → Option ℕ → Bool → Accepted
text p number at body life final = record {
  number = number;
  at = at;
  message = record { body = body; props = record p { msg_lifetime = life; is_final = final } };
}

abbrev pub hi : List ℕ
hi = 104 ∷ 105 ∷ []

-- a connection over socket 0: what it accepted and when, how many it needs, the piece and the deadline
abbrev pub member : Encoding → Decoding → List Accepted → ℕ → ℕ → ℕ → ℕ → Member
member e d messages accepted needs piece until = record {
  socket = 0;
  encoding = e;
  decoding = d;
  messages = messages;
  accepted = accepted;
  needs = needs;
  piece = piece;
  until = until;
}

abbrev pub in_8 : List Accepted → ℕ → ℕ → ℕ → ℕ → Member
in_8 messages accepted needs piece until =
    member len8 (framed_decoding first_of_8) messages accepted needs piece until

abbrev pub in_16 : List Accepted → ℕ → ℕ → Member
in_16 messages needs until = member len16 (framed_decoding first_of_16) messages 0 needs 4096 until

abbrev pub in_none : List Accepted → ℕ → Member
in_none messages needs = member none (framed_decoding first_of_none) messages 5 needs 4096 10005

-- a stream with no layer, and datagrams with none
abbrev pub plain : List Accepted → ℕ → Member
plain messages needs = member (encoding_of true []) (decoding_of true []) messages 0 needs 4096 90

abbrev pub datagrams : List Accepted → ℕ → Member
datagrams messages needs = member (encoding_of false []) (decoding_of false []) messages 0 needs 4096 90

abbrev pub alone : Member → Role
alone m = initiate (record { member = m; priority = 100; orders = [] } ∷ [])

-- the calls, in the order in which they came, are an exchange with this outcome; so many messages were sent, these were
-- heard, and these items were added, the newest first
pub record Has (m : Member) (calls : List Call) (o : Outcome) (sent : ℕ) (heard : List (List ℕ))
    (items : List Item) : Type 0 where
  pub exchange : IsExchange (turn_of (alone m)) (reverse calls) o
  pub sent_is : (outbox_after m (calls_on m.socket (reverse calls))).sent ≡ sent
  pub heard_is : messages_of (hearing_after m (calls_on m.socket (reverse calls))) ≡ heard
  pub items_are : items_of (reverse calls) ≡ items

abbrev pub a : MessageProps → Accepted
a p = text p 0 0 (97 ∷ []) None false

pub record RightExchanges (p : MessageProps) : Type 0 where
  pub idle : Has (in_8 [] 5 0 4096 10005) [] outcome.Done 0 [] []
  pub echoed : Has (in_8 (text p 0 5 hi None false ∷ []) 5 1 4096 10005)
      (sends 0 (2 ∷ hi) 10005 (Sent 3 5) ∷ receives 0 4096 10005 (2 ∷ hi) (recv.Got 3 5) ∷ [])
      outcome.Done 1 (hi ∷ []) []
  pub peer_ends : Has (in_8 [] 5 2 4096 10005)
      (receives 0 4096 10005 (2 ∷ hi) (recv.Got 3 15) ∷ receives 0 4096 10005 [] recv.End ∷ [])
      outcome.PeerEnded 0 (hi ∷ []) (item.Ended 0 ∷ [])
  pub expires_while_held : Has (in_16 (a p ∷ text p 1 0 (98 ∷ []) (Some 50) false ∷ []) 0 10000)
      (sends 0 (0 ∷ 1 ∷ 97 ∷ []) 10000 (Sent 3 60) ∷ []) (outcome.Expired 0 1) 1 [] []
  pub timed : Has (in_16 (a p ∷ []) 0 40) (sends 0 (0 ∷ 1 ∷ 97 ∷ []) 40 (Timed 40) ∷ []) outcome.Timed 0 [] []
  pub timed_in_hearing : Has (in_8 [] 0 1 4096 40) (receives 0 4096 40 [] (recv.Timed 41) ∷ []) outcome.Timed 0 [] []
  pub heard_at_once : Has (in_8 [] 0 1 4096 10000)
      (receives 0 4096 10000 (2 ∷ hi) (recv.Got 3 0) ∷ []) outcome.Done 0 (hi ∷ []) []
  pub heard_byte_by_byte : Has (in_8 [] 0 1 1 10000)
      (receives 0 1 10000 (2 ∷ []) (recv.Got 1 0) ∷ receives 0 1 10000 (104 ∷ []) (recv.Got 1 0)
      ∷ receives 0 1 10000 (105 ∷ []) (recv.Got 1 0) ∷ []) outcome.Done 0 (hi ∷ []) []
  pub ends_its_side_behind_a_final_one : Has (in_16 (text p 0 0 (97 ∷ []) None true ∷ []) 0 40)
      (sends 0 (0 ∷ 1 ∷ 97 ∷ []) 40 (Sent 1 7) ∷ sends 0 (1 ∷ 97 ∷ []) 40 (Sent 2 8) ∷ shuts 0 ∷ [])
      outcome.Done 1 [] (item.Shut 0 ∷ [])
  pub not_speakable : Has (in_none (text p 0 5 hi None false ∷ []) 1) [] (outcome.NotSpeakable 0 0 0) 0 [] []
  pub fails : Has (in_8 (text p 0 5 hi None false ∷ []) 5 1 4096 10005)
      (sends 0 (2 ∷ hi) 10005 (Sent 1 5) ∷ sends 0 hi 10005 (Failed cause.Reset) ∷ [])
      (outcome.DataFailed cause.Reset) 0 [] (item.DataFailed 0 true cause.Reset ∷ [])
  pub fails_in_hearing : Has (in_8 [] 5 1 4096 10005) (receives 0 4096 10005 [] (recv.Failed cause.Reset) ∷ [])
      (outcome.DataFailed cause.Reset) 0 [] (item.DataFailed 0 false cause.Reset ∷ [])
  pub bad_frame : Has (in_none [] 1) (receives 0 4096 10005 (7 ∷ []) (recv.Got 1 6) ∷ [])
      (outcome.BadFrame (record { message = 0; layer = 0; place = 0 })) 0 [] []
  pub one_message_each_way : Has (plain (text p 0 0 hi None false ∷ []) 1)
      (sends 0 hi 90 (Sent 2 1) ∷ shuts 0 ∷ receives 0 4096 90 (97 ∷ []) (recv.Got 1 2)
      ∷ receives 0 4096 90 (98 ∷ []) (recv.Got 1 3) ∷ receives 0 4096 90 [] recv.End ∷ [])
      outcome.Done 1 ((97 ∷ 98 ∷ []) ∷ []) (item.Ended 0 ∷ item.Shut 0 ∷ [])
  pub an_empty_message_has_no_call : Has (plain (text p 0 0 [] None false ∷ []) 0) (shuts 0 ∷ [])
      outcome.Done 1 [] (item.Shut 0 ∷ [])
  pub refuses_its_second_message : Has (plain (text p 0 0 hi None false ∷ text p 1 0 hi None false ∷ []) 0)
      (sends 0 hi 90 (Sent 2 1) ∷ shuts 0 ∷ []) (outcome.NotSpeakable 0 1 0) 1 [] (item.Shut 0 ∷ [])
  pub datagram_each_way : Has (datagrams (text p 0 0 hi None true ∷ []) 1)
      (sends 0 hi 90 (Sent 2 1) ∷ receives 0 65535 90 (97 ∷ []) (recv.Got 1 2) ∷ [])
      outcome.Done 1 ((97 ∷ []) ∷ []) []
  pub refuses_an_empty_datagram : Has (datagrams (text p 0 0 [] None false ∷ []) 0) []
      (outcome.NotSpeakable 0 0 0) 0 [] []
  pub expired_by_a_sent : HasPassedBySent 0 (sends 0 (0 ∷ 1 ∷ 97 ∷ []) 10000 (Sent 3 60) ∷ [])
      (text p 1 10 (98 ∷ []) (Some 50) false)

-- no exchange is so
abbrev pub Wrong : Member → List Call → Outcome → Type 0
Wrong m calls o = IsExchange (turn_of (alone m)) (reverse calls) o → ⊥

pub record WrongExchanges (p : MessageProps) : Type 0 where
  pub receives_first : Wrong (in_8 (text p 0 5 hi None false ∷ []) 5 1 4096 10005)
      (receives 0 4096 10005 (2 ∷ hi) (recv.Got 3 5) ∷ sends 0 (2 ∷ hi) 10005 (Sent 3 5) ∷ []) outcome.Done
  pub other_bytes : Wrong (in_8 (text p 0 5 hi None false ∷ []) 5 0 4096 10005)
      (sends 0 (3 ∷ hi) 10005 (Sent 3 5) ∷ []) outcome.Done
  pub the_rest_from_the_beginning : Wrong (in_8 (text p 0 5 hi None false ∷ []) 5 0 4096 10005)
      (sends 0 (2 ∷ hi) 10005 (Sent 1 5) ∷ sends 0 (2 ∷ hi) 10005 (Sent 3 5) ∷ []) outcome.Done
  pub done_too_soon : Wrong (in_8 [] 5 1 4096 10005) (receives 0 4096 10005 (2 ∷ []) (recv.Got 1 5) ∷ []) outcome.Done
  pub timed_without_a_call : Wrong (in_8 [] 5 1 4096 10005) [] outcome.Timed
  pub done_though_timed : Wrong (in_16 (a p ∷ []) 0 40) (sends 0 (0 ∷ 1 ∷ 97 ∷ []) 40 (Timed 40) ∷ []) outcome.Done
  pub side_not_ended : Wrong (in_16 (text p 0 0 (97 ∷ []) None true ∷ []) 0 40)
      (sends 0 (0 ∷ 1 ∷ 97 ∷ []) 40 (Sent 3 7) ∷ []) outcome.Done
  pub peer_ended_with_enough_heard : Wrong (in_8 [] 5 1 4096 10005)
      (receives 0 4096 10005 (2 ∷ hi) (recv.Got 3 15) ∷ receives 0 4096 10005 [] recv.End ∷ []) outcome.PeerEnded
  pub counts_the_expired_as_done : Wrong (in_16 (a p ∷ text p 1 0 (98 ∷ []) (Some 50) false ∷ []) 0 10000)
      (sends 0 (0 ∷ 1 ∷ 97 ∷ []) 10000 (Sent 3 60) ∷ []) outcome.Done
  pub sends_the_expired : Wrong (in_16 (a p ∷ text p 1 0 (98 ∷ []) (Some 50) false ∷ []) 0 10000)
      (sends 0 (0 ∷ 1 ∷ 97 ∷ []) 10000 (Sent 3 60) ∷ sends 0 (0 ∷ 1 ∷ 98 ∷ []) 10000 (Sent 3 60) ∷ []) outcome.Done
  pub on_another_socket : Wrong (in_8 (text p 0 5 hi None false ∷ []) 5 0 4096 10005)
      (sends 1 (2 ∷ hi) 10005 (Sent 3 5) ∷ []) outcome.Done
  pub past_the_deadline : Wrong (in_8 (text p 0 0 hi None false ∷ []) 0 0 4096 2)
      (sends 0 (2 ∷ hi) 3 (Sent 3 1) ∷ []) outcome.Done
  pub a_stream_before_its_end : Wrong (plain [] 1) (receives 0 4096 90 hi (recv.Got 2 2) ∷ []) outcome.Done
  pub expired_too_soon : HasPassedBySent 0 (sends 0 (0 ∷ 1 ∷ 97 ∷ []) 10000 (Sent 3 59) ∷ [])
      (text p 1 10 (98 ∷ []) (Some 50) false) → ⊥
  pub expired_by_a_receive : HasPassedBySent 0 (receives 0 4096 10000 hi (recv.Got 2 60) ∷ [])
      (text p 1 10 (98 ∷ []) (Some 50) false) → ⊥
  pub expired_without_a_lifetime : HasPassedBySent 0 (sends 0 (0 ∷ 1 ∷ 97 ∷ []) 10000 (Sent 3 60) ∷ [])
      (text p 1 10 (98 ∷ []) None false) → ⊥

-- two members: the one with the least priority number sends first, and on a tie the one whose message was accepted
-- first; then the second one hears
abbrev pub second : MessageProps → Member
second p = record {
  socket = 1;
  encoding = len8;
  decoding = framed_decoding first_of_8;
  messages = text p 0 5 (98 ∷ []) None false ∷ [];
  accepted = 5;
  needs = 1;
  piece = 4096;
  until = 90;
}

abbrev pub two : MessageProps → ℕ → ℕ → ℕ → ℕ → Role
two p priority priority' order order' = initiate (
    record {
      member = in_8 (text p 0 5 (97 ∷ []) None false ∷ []) 5 0 4096 90;
      priority = priority;
      orders = order ∷ [];
    }
    ∷ record { member = second p; priority = priority'; orders = order' ∷ [] } ∷ [])

pub record RightGroups (p : MessageProps) : Type 0 where
  pub by_priority : IsExchange (turn_of (two p 100 5 0 1)) (reverse (
      sends 1 (1 ∷ 98 ∷ []) 90 (Sent 2 6) ∷ sends 0 (1 ∷ 97 ∷ []) 90 (Sent 2 7)
      ∷ receives 1 4096 90 (1 ∷ 99 ∷ []) (recv.Got 2 8) ∷ [])) outcome.Done
  pub by_order : IsExchange (turn_of (two p 7 7 0 1)) (reverse (
      sends 0 (1 ∷ 97 ∷ []) 90 (Sent 1 6) ∷ sends 0 (97 ∷ []) 90 (Sent 1 6) ∷ sends 1 (1 ∷ 98 ∷ []) 90 (Sent 2 7)
      ∷ receives 1 4096 90 (1 ∷ 99 ∷ []) (recv.Got 2 8) ∷ [])) outcome.Done
  pub by_other_order : IsExchange (turn_of (two p 7 7 1 0)) (reverse (
      sends 1 (1 ∷ 98 ∷ []) 90 (Sent 2 6) ∷ sends 0 (1 ∷ 97 ∷ []) 90 (Sent 2 7)
      ∷ receives 1 4096 90 (1 ∷ 99 ∷ []) (recv.Got 2 8) ∷ [])) outcome.Done

abbrev pub JudgesWorkedExchanges : Type 0
JudgesWorkedExchanges = (p : MessageProps) → RightExchanges p × (WrongExchanges p × RightGroups p)
