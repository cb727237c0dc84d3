-- What the end of a session that listens says of its calls, in other words (local).
use Rattle.std.specs.Prelude.{◌≡◌, ◌⊎◌, ℕ, true, List, [], ◌∷◌, length, Option, Some, None}
use Rattle.taps_message.specs.declared.accepted.Accepted.{Accepted}
use Rattle.taps_socket.specs.declared.answers.AcceptAnswer.TheVariants as accept
use Rattle.taps_socket.specs.declared.answers.ListenAnswer.TheVariants as listen
use Rattle.taps_socket.specs.Calls.{Call, listens, accepts}
use Rattle.taps_connection.specs.Outboxes.{all_out, refused}
use Rattle.taps_exchange.specs.declared.outcome.Outcome.{Outcome}
use Rattle.taps_exchange.specs.declared.outcome.Outcome.TheVariants as outcome
use Rattle.taps_exchange.specs.Decodings.{enough}
use Rattle.taps_exchange.specs.Members.{has_ended}
use Rattle.taps_exchange.specs.Outcomes.{EndsTimed, EndsFailed, HasHeardLess, HasHeardBad}
use Rattle.taps_exchange.specs.Turns.{IsInTurn}
use Rattle.taps_exchange.specs.Written.{pieces_written, AllTookAll, HasSomeBytes, IsWritten}
use Rattle.taps_listening.specs.declared.listened.ListenEnd.{ListenEnd}
use Rattle.taps_listening.specs.declared.listened.ListenEnd.TheVariants as ends
use Rattle.taps_listening.specs.ListenRules.{ListenRules}
use Rattle.taps_listening.specs.Listening.{stopped, course_after, turn_listening}
use Rattle.taps_listening.specs.Serving.{Served, messages_by, member_of, outbox_of, hearing_of}

-- a connection heard as many messages as it needs
abbrev pub HeardEnough : ListenRules → Served → Type 0
HeardEnough r c = (ms : List (List ℕ)) × (hearing_of r c ≡ enough ms)

-- a connection heard enough, accepted its messages then, and each of them was sent or expired
pub record IsAnswered (r : ListenRules) (c : Served) : Type 0 where
  pub at : ℕ
  pub answered : c.answered ≡ Some at
  pub heard : HeardEnough r c
  pub out : (outbox_of r c).stand ≡ all_out

abbrev pub AllAnswered : ListenRules → List Served → Type 0
AllAnswered r [] = Unit {0}
AllAnswered r (c ∷ earlier) = IsAnswered r c × AllAnswered r earlier

-- no message of these connections expired; or that of this number, at this place, is the first one by place that did
abbrev pub NoneExpired : ListenRules → List Served → Type 0
NoneExpired r [] = Unit {0}
NoneExpired r (c ∷ earlier) = ((outbox_of r c).expired ≡ None) × NoneExpired r earlier

pub record IsExpiredLast (r : ListenRules) (c : Served) (earlier : List Served) (place number : ℕ) : Type 0 where
  pub none_before : NoneExpired r earlier
  pub place_is : place ≡ length earlier
  pub expired : (outbox_of r c).expired ≡ Some number

abbrev pub IsFirstExpired : ListenRules → List Served → ℕ → ℕ → Type 0
IsFirstExpired r [] place number = ⊥
IsFirstExpired r (c ∷ earlier) place number =
    IsExpiredLast r c earlier place number ⊎ IsFirstExpired r earlier place number

-- the calls in which a connection is: those by which it hears, or those by which it sends
abbrev pub newest_calls : Served → Option ℕ → List Call
newest_calls c None = c.hears
newest_calls c (Some at) = c.answers

-- a layer refuses a message of a connection at a place, which heard enough
pub record IsRefusedAt (r : ListenRules) (place : ℕ) (c : Served) (of number layer : ℕ) : Type 0 where
  pub behind : List Accepted
  pub stands : (outbox_of r c).stand ≡ refused number layer behind
  pub heard : HeardEnough r c
  pub place_is : of ≡ place

-- the outcome by which the exchange over a connection at a place ended the session, and where it comes
abbrev pub HasOwnCause : ListenRules → ℕ → Served → Outcome → Type 0
HasOwnCause r place c outcome.Done = ⊥
HasOwnCause r place c (outcome.Expired of number) = ⊥
HasOwnCause r place c outcome.Timed = EndsTimed (member_of r c) (newest_calls c c.answered)
HasOwnCause r place c (outcome.DataFailed cause) = EndsFailed (member_of r c) (newest_calls c c.answered) cause
HasOwnCause r place c outcome.PeerEnded =
    (c.answered ≡ None) × ((has_ended c.hears ≡ true) × HasHeardLess (member_of r c) c.hears)
HasOwnCause r place c (outcome.BadFrame b) = (c.answered ≡ None) × HasHeardBad (member_of r c) c.hears b
HasOwnCause r place c (outcome.NotSpeakable of number layer) = IsRefusedAt r place c of number layer

-- it is that of the connection that was accepted last
abbrev pub LastEnds : ListenRules → List Served → Outcome → Type 0
LastEnds r [] o = ⊥
LastEnds r (c ∷ earlier) o = HasOwnCause r (length earlier) c o

-- a call is one of these
abbrev pub IsAmong : Call → List Call → Type 0
IsAmong call [] = ⊥
IsAmong call (c ∷ calls) = (call ≡ c) ⊎ IsAmong call calls

abbrev pub HasTimedAccept : List Call → Type 0
HasTimedAccept calls = (l until at : ℕ) × IsAmong (accepts l until (accept.Timed at)) calls

-- as many connections as the limit were accepted, and all are answered
pub record AreAllAnswered (r : ListenRules) (served : List Served) : Type 0 where
  pub answered : AllAnswered r served
  pub count : length served ≡ r.limit

-- each end, and where it comes
abbrev pub HasEnd : ListenRules → List Call → List Served → ListenEnd → Type 0
HasEnd r calls served (ends.Exchanged outcome.Done) = AreAllAnswered r served × NoneExpired r served
HasEnd r calls served (ends.Exchanged (outcome.Expired place number)) =
    AreAllAnswered r served × IsFirstExpired r served place number
HasEnd r calls served (ends.Exchanged outcome.Timed) = HasTimedAccept calls ⊎ LastEnds r served outcome.Timed
HasEnd r calls served (ends.Exchanged o) = LastEnds r served o
HasEnd r calls served (ends.NotListening cause) =
    (at : ℕ) × IsAmong (listens r.target (listen.Refused cause at)) calls
HasEnd r calls served ends.Faulted = (l until at : ℕ) × IsAmong (accepts l until (accept.Faulted at)) calls

-- what a connection wrote is what it accepted: the messages that were sent, and the front of the begun one; and it
-- accepted them when it had heard enough
pub record IsServedRightly (r : ListenRules) (c : Served) : Type 0 where
  pub written : IsWritten r.encoding (messages_by r c.answered) (outbox_of r c) (pieces_written c.answers)
      (AllTookAll c.answers × HasSomeBytes r.encoding)
  pub heard : (at : ℕ) → c.answered ≡ Some at → HeardEnough r c

abbrev pub AreServedRightly : ListenRules → List Served → Type 0
AreServedRightly r [] = Unit {0}
AreServedRightly r (c ∷ earlier) = IsServedRightly r c × AreServedRightly r earlier

pub record IsEndOf (r : ListenRules) (calls : List Call) (served : List Served) (end : ListenEnd) : Type 0 where
  pub cause : HasEnd r calls served end
  pub rightly : AreServedRightly r served

-- so it is for each session that listens
abbrev pub JudgesSessions : Type 0
JudgesSessions = (r : ListenRules) (calls : List Call) (end : ListenEnd) → IsInTurn (turn_listening r) calls →
    (course_after r calls).phase ≡ stopped end → IsEndOf r calls (course_after r calls).served end
