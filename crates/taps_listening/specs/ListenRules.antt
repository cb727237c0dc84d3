-- What a session listens on, and what it does with each connection (RFC 9622 section 7.2; the numbers are local).
use Rattle.std.specs.Prelude.{ℕ, ◌+◌, ◌-◌, ◌^◌, min, List}
use Rattle.taps_framer.specs.Layers.{Layer}
use Rattle.taps_message.specs.declared.message.Message.{Message}
use Rattle.taps_message.specs.declared.accepted.Accepted.{Accepted}
use Rattle.taps_stack.specs.declared.target.Target.{Target}
use Rattle.taps_stack.specs.StackTable.{is_stream}
use Rattle.taps_connection.specs.Encodings.{Encoding, encoding_of}
use Rattle.taps_exchange.specs.Accepting.{accepted_of}
use Rattle.taps_exchange.specs.Decodings.{Decoding, decoding_of}
use Rattle.taps_listening.specs.declared.service.Service.{Service}

-- the target; how many connections are accepted; how messages become bytes on them, and bytes messages; the messages that
-- a connection accepts at a time; how many it needs to hear before; how many bytes it asks for at once; and how long an
-- accept may take, and the exchange from it on
pub record ListenRules : Type 0 where
  pub target : Target
  pub limit : ℕ
  pub encoding : Encoding
  pub decoding : Decoding
  pub messages : ℕ → List Accepted
  pub needs : ℕ
  pub piece : ℕ
  pub patience : ℕ

-- of a service whose connections send these messages through these layers
abbrev pub rules_of : Service → List Layer → List Message → ListenRules
rules_of service fs messages = record {
  target = service.target;
  limit = service.connections;
  encoding = encoding_of (is_stream service.target.stack) fs;
  decoding = decoding_of (is_stream service.target.stack) fs;
  messages = λ at. accepted_of at messages;
  needs = service.expect;
  piece = service.piece;
  patience = service.deadline_ms;
}

-- the deadline that counts from a time on: the last time that there is, if it would be past that
abbrev pub deadline_from : ListenRules → ℕ → ℕ
deadline_from r at = min (at + r.patience) (2 ^ 63 - 1)
