-- What became of the messages that a connection accepted, and what stands in the bytes written on its socket.
use Rattle.std.specs.Prelude.{◌≡◌, ℕ, ◌≤◌, List, [], ◌∷◌, ◌++◌, length, map, take, Option, Some, None}
use Rattle.std.specs.List.{concat}
use Rattle.taps_socket.specs.declared.answers.SendAnswer.{SendAnswer}
use Rattle.taps_socket.specs.declared.answers.SendAnswer.TheVariants as send
use Rattle.taps_socket.specs.Calls.{Call, sends}
use Rattle.taps_message.specs.declared.accepted.Accepted.{Accepted}
use Rattle.taps_connection.specs.Encodings.{Encoding}
use Rattle.taps_connection.specs.Outboxes.{Stand, begun, ending, refused, all_out, Outbox}
use Rattle.taps_connection.specs.Written.{pieces_of, AreEncoded}

-- a message that had its turn: it was sent whole, or it had expired
pub data Turned : Type 0 where
  was_sent : (m : Accepted) → Turned
  was_expired : (m : Accepted) → Turned

abbrev pub message_of : Turned → Accepted
message_of (was_sent m) = m
message_of (was_expired m) = m

-- the bodies of those that were sent, in their order
abbrev pub bodies_of : List Turned → List (List ℕ)
bodies_of [] = []
bodies_of (was_sent m ∷ turned) = m.message.body ∷ bodies_of turned
bodies_of (was_expired m ∷ turned) = bodies_of turned

-- the number of the first that had expired, if one had
abbrev pub first_expired : List Turned → Option ℕ
first_expired [] = None
first_expired (was_sent m ∷ turned) = first_expired turned
first_expired (was_expired m ∷ turned) = Some m.number

-- a message is begun behind so many sent ones: these bytes of it were taken, and this rest was not
pub record IsBegun (e : Encoding) (sent number : ℕ) (front rest : List ℕ) (m : Accepted) : Type 0 where
  pub named : m.number ≡ number
  pub encoded : e.refusal sent m.message.body ≡ None
  pub bytes : front ++ rest ≡ e.bytes sent m.message.body

-- a layer refuses it
pub record IsRefused (e : Encoding) (sent number layer : ℕ) (m : Accepted) : Type 0 where
  pub named : m.number ≡ number
  pub refused : e.refusal sent m.message.body ≡ Some layer

-- the messages that had no turn yet, or have theirs now, behind so many sent ones; and what was taken of the begun one
abbrev pub AreLeft : Encoding → ℕ → Stand → List ℕ → List Accepted → Type 0
AreLeft e sent (begun number ends rest behind) front left =
    (m : Accepted) × ((left ≡ m ∷ behind) × IsBegun e sent number front rest m)
AreLeft e sent (ending behind) front left = (front ≡ []) × (left ≡ behind)
AreLeft e sent (refused number layer behind) front left =
    (front ≡ []) × ((m : Accepted) × ((left ≡ m ∷ behind) × IsRefused e sent number layer m))
AreLeft e sent all_out front left = (front ≡ []) × (left ≡ [])

-- the pieces that sends on a socket took, oldest first
abbrev pub taken_by : List ℕ → SendAnswer → List (List ℕ)
taken_by bytes (send.Sent count at) = take count bytes ∷ []
taken_by bytes (send.Timed at) = []
taken_by bytes (send.Failed cause) = []

abbrev pub pieces_written : List Call → List (List ℕ)
pieces_written [] = []
pieces_written (sends socket bytes until answer ∷ earlier) = pieces_written earlier ++ taken_by bytes answer
pieces_written (_ ∷ earlier) = pieces_written earlier

-- each of them took all that it was asked to, as over datagrams
abbrev pub TookAll : List ℕ → SendAnswer → Type 0
TookAll bytes (send.Sent count at) = count ≡ length bytes
TookAll bytes (send.Timed at) = Unit {0}
TookAll bytes (send.Failed cause) = Unit {0}

abbrev pub AllTookAll : List Call → Type 0
AllTookAll [] = Unit {0}
AllTookAll (sends socket bytes until answer ∷ earlier) = TookAll bytes answer × AllTookAll earlier
AllTookAll (_ ∷ earlier) = AllTookAll earlier

-- no message has no bytes
abbrev pub HasSomeBytes : Encoding → Type 0
HasSomeBytes e = (sent : ℕ) (body : List ℕ) → e.refusal sent body ≡ None → 1 ≤ length (e.bytes sent body)

-- the accepted messages are those that had their turn, each one sent or expired, and then those that are left. The
-- bytes written are those of the sent messages and then the front of the begun one; and where each send took all, each
-- piece is one sent message
pub record IsWritten (e : Encoding) (messages : List Accepted) (box : Outbox) (pieces : List (List ℕ))
    (Apart : Type 0) : Type 0 where
  pub turned : List Turned
  pub left : List Accepted
  pub front : List ℕ
  pub split : messages ≡ map message_of turned ++ left
  pub are_left : AreLeft e box.sent box.stand front left
  pub bytes : concat pieces ≡ concat (pieces_of e 0 (bodies_of turned)) ++ front
  pub apart : Apart → (pieces ≡ pieces_of e 0 (bodies_of turned)) × (front ≡ [])
  pub encoded : AreEncoded e 0 (bodies_of turned)
  pub count : box.sent ≡ length (bodies_of turned)
  pub first : box.expired ≡ first_expired turned
