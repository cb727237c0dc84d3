-- What stands in the bytes written on a connection's socket over its life: the messages that were sent, and a
-- front of the begun one.
use Rattle.std.specs.Prelude.{◌≡◌, ℕ, ◌+◌, Bool, true, false, List, [], ◌∷◌, ◌++◌, length, Option, Some, None}
use Rattle.std.specs.List.{concat}
use Rattle.taps_message.specs.declared.accepted.Accepted.{Accepted}
use Rattle.taps_connection.specs.declared.sender.Begun.{Begun}
use Rattle.taps_connection.specs.declared.sender.Sender.{Sender}
use Rattle.taps_connection.specs.declared.sender.Pushed.{Pushed}
use Rattle.taps_connection.specs.declared.sender.Pushed.TheVariants as pushed
use Rattle.taps_connection.specs.Encodings.{Encoding}
use Rattle.taps_connection.specs.Pushes.{HasFront}
use Rattle.taps_connection.specs.Senders.{queued}

-- the bytes of each of a list of bodies, of which the first is behind so many others
abbrev pub pieces_of : Encoding → ℕ → List (List ℕ) → List (List ℕ)
pieces_of e k [] = []
pieces_of e k (m ∷ ms) = e.bytes k m ∷ pieces_of e (k + 1) ms

-- no layer refuses any of them
abbrev pub AreEncoded : Encoding → ℕ → List (List ℕ) → Type 0
AreEncoded e k [] = Unit {0}
AreEncoded e k (m ∷ ms) = (e.refusal k m ≡ None) × AreEncoded e (k + 1) ms

-- where observable, the pieces are these ones: over a stream in one flow, over datagrams one by one
abbrev pub AreWhole : Bool → List (List ℕ) → List (List ℕ) → Type 0
AreWhole true base pieces = concat pieces ≡ concat base
AreWhole false base pieces = pieces ≡ base

abbrev pub HasWhole : Bool → List (List ℕ) → Option (List (List ℕ)) → Type 0
HasWhole stream base None = Unit {0}
HasWhole stream base (Some pieces) = AreWhole stream base pieces

-- and then so many bytes of the begun message, if one is begun
abbrev pub HasPieces : Bool → List (List ℕ) → Option Begun → Option (List (List ℕ)) → Type 0
HasPieces stream base None written = HasWhole stream base written
HasPieces stream base (Some b) written = HasFront stream base b.bytes b.taken written

-- the begun message has this body
abbrev pub IsBegunAs : Encoding → ℕ → List ℕ → Option Begun → Type 0
IsBegunAs e number front None = Unit {0}
IsBegunAs e number front (Some b) = (e.refusal number front ≡ None) × (b.bytes ≡ e.bytes number front)

-- these bodies were sent, so many, and this is the body of the begun message, if one is begun
pub record Writes (e : Encoding) (stream : Bool) (written : Option (List (List ℕ))) (sent : List (List ℕ))
    (front : List ℕ) (number : ℕ) (b : Option Begun) : Type 0 where
  pub pieces : HasPieces stream (pieces_of e 0 sent) b written
  pub encoded : AreEncoded e 0 sent
  pub count : number ≡ length sent
  pub begun : IsBegunAs e number front b

-- the bodies sent, where the one whose turn it was was sent too
abbrev pub sent_by : Pushed → List ℕ → List (List ℕ) → List (List ℕ)
sent_by (pushed.Sent number) front sent = sent ++ front ∷ []
sent_by pushed.Empty front sent = sent
sent_by (pushed.Expired number) front sent = sent
sent_by (pushed.Timed at) front sent = sent
sent_by (pushed.Failed cause) front sent = sent
sent_by (pushed.NotSpeakable number layer) front sent = sent
sent_by pushed.NoMemory front sent = sent

-- the body whose turn it is: that of the begun message, or else of the next one
abbrev pub body_in : List Accepted → List ℕ → List ℕ
body_in [] front = front
body_in (m ∷ behind) front = m.message.body

abbrev pub body_by : Option Begun → List Accepted → List ℕ → List ℕ
body_by (Some b) messages front = front
body_by None messages front = body_in messages front

abbrev pub body_of : Sender → List ℕ → List ℕ
body_of s front = body_by s.begun (queued s) front

-- what was written so before a call is written so after it, where the message whose turn it was was sent or not
abbrev pub KeepsWritten : Encoding → Bool → Option (List (List ℕ)) → Option (List (List ℕ)) → Sender → Pushed →
    Sender → Type 0
KeepsWritten e stream before after s answer t = (sent : List (List ℕ)) (front : List ℕ) →
    Writes e stream before sent front s.sent s.begun →
    Writes e stream after (sent_by answer (body_of s front) sent) (body_of s front) t.sent t.begun
