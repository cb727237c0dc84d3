-- One connection of an exchange, and how it stands after the calls on its socket. A list of calls stands with its
-- newest one first.
use Rattle.std.specs.Prelude.{ℕ, Bool, true, false, ◌==◌, List, [], ◌∷◌, ◌++◌, filter, None}
use Rattle.taps_socket.specs.declared.answers.RecvAnswer.{RecvAnswer}
use Rattle.taps_socket.specs.declared.answers.RecvAnswer.TheVariants as recv
use Rattle.taps_socket.specs.Calls.{Call, sends, receives, shuts, closes}
use Rattle.taps_message.specs.declared.accepted.Accepted.{Accepted}
use Rattle.taps_connection.specs.Encodings.{Encoding}
use Rattle.taps_connection.specs.Outboxes.{Outbox, take_turn, after_calls}
use Rattle.taps_exchange.specs.Decodings.{Decoding, Hearing}

-- the connection's socket; how its messages become bytes there, and bytes messages; the messages that it accepted, at a
-- time; how many it needs to hear; how many bytes it asks for at once over a stream; and the deadline
pub record Member : Type 0 where
  pub socket : ℕ
  pub encoding : Encoding
  pub decoding : Decoding
  pub messages : List Accepted
  pub accepted : ℕ
  pub needs : ℕ
  pub piece : ℕ
  pub until : ℕ

-- the calls on a socket
abbrev pub is_on : ℕ → Call → Bool
is_on s (sends socket bytes until answer) = socket == s
is_on s (receives socket most until came answer) = socket == s
is_on s (shuts socket) = socket == s
is_on s (closes socket) = socket == s
is_on s _ = false

abbrev pub calls_on : ℕ → List Call → List Call
calls_on s calls = filter (is_on s) calls

-- the pieces that were read, oldest first
abbrev pub piece_by : List ℕ → RecvAnswer → List (List ℕ)
piece_by came (recv.Got count at) = came ∷ []
piece_by came recv.End = []
piece_by came (recv.Timed at) = []
piece_by came (recv.Failed cause) = []

abbrev pub pieces_read : List Call → List (List ℕ)
pieces_read [] = []
pieces_read (receives socket most until came answer ∷ earlier) = pieces_read earlier ++ piece_by came answer
pieces_read (_ ∷ earlier) = pieces_read earlier

-- the other end ended its sending side
abbrev pub has_ended : List Call → Bool
has_ended [] = false
has_ended (receives socket most until came recv.End ∷ earlier) = true
has_ended (_ ∷ earlier) = has_ended earlier

-- how the sending stands after these calls on the socket, and what was heard
abbrev pub outbox_after : Member → List Call → Outbox
outbox_after m calls = after_calls m.encoding (take_turn m.encoding m.accepted 0 None m.messages) calls

abbrev pub hearing_after : Member → List Call → Hearing
hearing_after m calls = m.decoding.hearing m.needs (pieces_read calls) (has_ended calls)
