-- Turns of messages worked by hand, and what the definitions say of them. A history stands with its newest call first.
use Rattle.std.specs.Prelude.{◌≡◌, ℕ, Bool, true, false, List, [], ◌∷◌, Option, None, Some}
use Rattle.taps_property.specs.declared.message_props.MessageProps.{MessageProps}
use Rattle.taps_message.specs.declared.accepted.Accepted.{Accepted}
use Rattle.taps_socket.specs.declared.answers.SendAnswer.TheVariants as send
use Rattle.taps_socket.specs.Calls.{Call, sends, shuts}
use Rattle.taps_connection.specs.Encodings.{Encoding, encoding_of}
use Rattle.taps_connection.specs.Outboxes.{Stand, begun, ending, refused, all_out, Outbox, take_turn, after_calls}
use Rattle.taps_connection.specs.Runs.{AllAsked}

-- an encoding that spells the index before a body
abbrev pub indexed : Encoding
indexed = record { refusal = λ sent body. None; bytes = λ sent body. sent ∷ body; ends = λ final. final }

-- a message that was accepted at 0, with this lifetime, and final or not
abbrev pub message : MessageProps → ℕ → List ℕ → Option ℕ → Bool → Accepted
message p number body life final = record {
  number = number;
  at = 0;
  message = record { body = body; props = record p { msg_lifetime = life; is_final = final } };
}

-- two messages: the first has two bytes, the second expires after 20 and is final or not
abbrev pub first : MessageProps → Accepted
first p = message p 0 (7 ∷ 8 ∷ []) None false

abbrev pub second : MessageProps → Bool → Accepted
second p final = message p 1 (9 ∷ []) (Some 20) final

-- how they stand, accepted at 0, after these calls on socket 5
abbrev pub outbox : Encoding → MessageProps → Bool → List Call → Outbox
outbox e p final calls = after_calls e (take_turn e 0 0 None (first p ∷ second p final ∷ [])) calls

abbrev pub stands : Stand → ℕ → Option ℕ → ℕ → Outbox
stands stand sent expired moment = record { stand = stand; sent = sent; expired = expired; moment = moment }

-- two of the first message's three bytes were taken at 11, and the last one at 12, or at 30
abbrev pub half_sent : List Call
half_sent = sends 5 (0 ∷ 7 ∷ 8 ∷ []) 50 (send.Sent 2 11) ∷ []

abbrev pub sent_at : ℕ → List Call
sent_at at = sends 5 (8 ∷ []) 50 (send.Sent 1 at) ∷ half_sent

pub record WorkedTurns (p : MessageProps) : Type 0 where
  pub begins_with_the_first : outbox indexed p false []
      ≡ stands (begun 0 false (0 ∷ 7 ∷ 8 ∷ []) (second p false ∷ [])) 0 None 0
  pub keeps_the_rest : outbox indexed p false half_sent
      ≡ stands (begun 0 false (8 ∷ []) (second p false ∷ [])) 0 None 11
  pub keeps_it_when_timed : outbox indexed p false (sends 5 (8 ∷ []) 50 (send.Timed 50) ∷ half_sent)
      ≡ stands (begun 0 false (8 ∷ []) (second p false ∷ [])) 0 None 50
  pub begins_the_second_at_its_index : outbox indexed p false (sent_at 12)
      ≡ stands (begun 1 false (1 ∷ 9 ∷ []) []) 1 None 12
  pub passes_over_an_expired_one : outbox indexed p false (sent_at 30) ≡ stands all_out 1 (Some 1) 30
  pub expires_at_its_lifetime : outbox indexed p false (sent_at 20) ≡ stands all_out 1 (Some 1) 20
  pub ends_behind_a_final_one :
      outbox indexed p true (sends 5 (1 ∷ 9 ∷ []) 50 (send.Sent 2 13) ∷ sent_at 12)
      ≡ stands (ending []) 2 None 13
  pub ended : outbox indexed p true (shuts 5 ∷ sends 5 (1 ∷ 9 ∷ []) 50 (send.Sent 2 13) ∷ sent_at 12)
      ≡ stands all_out 2 None 13
  pub ends_a_stream_with_no_layer :
      outbox (encoding_of true []) p false (sends 5 (7 ∷ 8 ∷ []) 50 (send.Sent 2 11) ∷ [])
      ≡ stands (ending (second p false ∷ [])) 1 None 11
  pub refuses_its_second_message :
      outbox (encoding_of true []) p false (shuts 5 ∷ sends 5 (7 ∷ 8 ∷ []) 50 (send.Sent 2 11) ∷ [])
      ≡ stands (refused 1 0 []) 1 None 11
  pub datagrams_one_by_one :
      outbox (encoding_of false []) p true (sends 5 (7 ∷ 8 ∷ []) 50 (send.Sent 2 11) ∷ [])
      ≡ stands (begun 1 false (9 ∷ []) []) 1 None 11
  pub refuses_an_empty_datagram : (encoding_of false []).refusal 0 [] ≡ Some 0

-- not the calls of these messages
abbrev pub Wrong : MessageProps → Bool → List Call → Type 0
Wrong p final calls = AllAsked indexed 5 50 (take_turn indexed 0 0 None (first p ∷ second p final ∷ [])) calls → ⊥

pub record WrongRuns (p : MessageProps) : Type 0 where
  pub sends_the_rest_anew : Wrong p false (sends 5 (0 ∷ 7 ∷ 8 ∷ []) 50 (send.Sent 3 12) ∷ half_sent)
  pub sends_at_the_next_index : Wrong p false (sends 5 (1 ∷ 7 ∷ 8 ∷ []) 50 (send.Sent 3 12) ∷ [])
  pub skips_a_message : Wrong p false (sends 5 (0 ∷ 9 ∷ []) 50 (send.Sent 2 12) ∷ [])
  pub ends_before_the_final_one : Wrong p true (shuts 5 ∷ sent_at 12)
  pub ends_twice : Wrong p true (shuts 5 ∷ shuts 5 ∷ sends 5 (1 ∷ 9 ∷ []) 50 (send.Sent 2 13) ∷ sent_at 12)
  pub sends_until_another_time : Wrong p false (sends 5 (0 ∷ 7 ∷ 8 ∷ []) 0 (send.Sent 3 12) ∷ [])
  pub sends_on_another_socket : Wrong p false (sends 6 (0 ∷ 7 ∷ 8 ∷ []) 50 (send.Sent 3 12) ∷ [])
  pub sends_when_all_is_out : Wrong p false (sends 5 (1 ∷ 9 ∷ []) 50 (send.Sent 2 31) ∷ sent_at 30)

abbrev pub JudgesWorkedSends : Type 0
JudgesWorkedSends = (p : MessageProps) → WorkedTurns p × WrongRuns p
