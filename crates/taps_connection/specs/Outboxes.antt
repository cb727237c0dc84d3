-- The turns of the messages that one connection accepted, by the calls on its socket (RFC 9622 section 9.2).
use Rattle.std.specs.Prelude.{ℕ, ◌+◌, Bool, true, false, max, if◌then◌else◌, List, [], ◌∷◌, drop, Option, Some, None}
use Rattle.taps_message.specs.declared.accepted.Accepted.{Accepted}
use Rattle.taps_message.specs.Expiry.{has_expired}
use Rattle.taps_socket.specs.declared.answers.SendAnswer.{SendAnswer}
use Rattle.taps_socket.specs.declared.answers.SendAnswer.TheVariants as send
use Rattle.taps_socket.specs.declared.answers.RecvAnswer.{RecvAnswer}
use Rattle.taps_socket.specs.declared.answers.RecvAnswer.TheVariants as recv
use Rattle.taps_socket.specs.Calls.{Call, sends, shuts, receives, Request, to_send, to_shut}
use Rattle.taps_connection.specs.Encodings.{Encoding}

-- A message is begun, with the rest of its bytes, and these are behind it; or the sending side is to be ended;
-- or the message whose turn it is is refused by a layer; or all messages had their turn.
pub data Stand : Type 0 where
  begun : (number : ℕ) → (ends : Bool) → (rest : List ℕ) → (behind : List Accepted) → Stand
  ending : (behind : List Accepted) → Stand
  refused : (number layer : ℕ) → (behind : List Accepted) → Stand
  all_out : Stand

-- how it stands; how many messages were sent; the first that expired, if one did; and the greatest moment so far
pub record Outbox : Type 0 where
  pub stand : Stand
  pub sent : ℕ
  pub expired : Option ℕ
  pub moment : ℕ

-- the first of the expired ones stays
abbrev pub or_else : Option ℕ → ℕ → ℕ
or_else (Some first) number = first
or_else None number = number

-- of the begun message this rest is left; where none is, it was sent
abbrev pub with_rest : Outbox → Outbox → ℕ → Bool → List ℕ → List Accepted → Outbox
with_rest next box number true [] behind = record box { stand = ending behind; sent = box.sent + 1 }
with_rest next box number false [] behind = next
with_rest next box number ends (b ∷ rest) behind = record box { stand = begun number ends (b ∷ rest) behind }

-- it is refused, or begun
abbrev pub turn_by : Option ℕ → Outbox → ℕ → List Accepted → Outbox → Outbox
turn_by (Some layer) box number behind opened = record box { stand = refused number layer behind }
turn_by None box number behind opened = opened

-- the next messages have their turn at a moment: the expired ones go, up to one that has not expired
abbrev pub take_turn : Encoding → ℕ → ℕ → Option ℕ → List Accepted → Outbox
take_turn e at sent expired [] = record { stand = all_out; sent = sent; expired = expired; moment = at }
take_turn e at sent expired (m ∷ behind) =
    if has_expired m at then take_turn e at sent (Some (or_else expired m.number)) behind
    else turn_by (e.refusal sent m.message.body)
    (record { stand = all_out; sent = sent; expired = expired; moment = at }) m.number behind
    (with_rest (take_turn e at (sent + 1) expired behind)
    (record { stand = all_out; sent = sent; expired = expired; moment = at })
    m.number (e.ends m.message.props.is_final) (e.bytes sent m.message.body) behind)

-- so many bytes of the begun message were taken
abbrev pub after_taken : Encoding → Outbox → ℕ → ℕ → Stand → Outbox
after_taken e box count at (begun number ends rest behind) =
    with_rest (take_turn e at (box.sent + 1) box.expired behind) (record box { moment = at }) number ends
    (drop count rest) behind
after_taken e box count at _ = record box { moment = at }

-- the sending side was ended
abbrev pub after_shut : Encoding → Outbox → Stand → Outbox
after_shut e box (ending behind) = take_turn e box.moment box.sent box.expired behind
after_shut e box _ = box

-- how it stands after one more call on the socket, by its answer
abbrev pub after_send : Encoding → Outbox → SendAnswer → Outbox
after_send e box (send.Sent count at) = after_taken e box count (max box.moment at) box.stand
after_send e box (send.Timed at) = record box { moment = max box.moment at }
after_send e box (send.Failed cause) = box

abbrev pub after_receive : Outbox → RecvAnswer → Outbox
after_receive box (recv.Got count at) = record box { moment = max box.moment at }
after_receive box recv.End = box
after_receive box (recv.Timed at) = record box { moment = max box.moment at }
after_receive box (recv.Failed cause) = box

abbrev pub after_call : Encoding → Outbox → Call → Outbox
after_call e box (sends socket bytes until answer) = after_send e box answer
after_call e box (receives socket most until came answer) = after_receive box answer
after_call e box (shuts socket) = after_shut e box box.stand
after_call e box _ = box

-- and after these calls, the newest first
abbrev pub after_calls : Encoding → Outbox → List Call → Outbox
after_calls e box [] = box
after_calls e box (call ∷ earlier) = after_call e (after_calls e box earlier) call

-- what is asked of the socket: a send of the unsent rest, or the end of the sending side
abbrev pub asks_out : ℕ → ℕ → Stand → Option Request
asks_out socket until (begun number ends rest behind) = Some (to_send socket rest until)
asks_out socket until (ending behind) = Some (to_shut socket)
asks_out socket until (refused number layer behind) = None
asks_out socket until all_out = None
