-- Sessions that listen worked by hand, call by call, and what the definitions say of them.
use Rattle.std.specs.Prelude.{◌≡◌, ℕ, true, false, List, [], ◌∷◌, reverse, Some, None}
use Rattle.taps_property.specs.declared.message_props.MessageProps.{MessageProps}
use Rattle.taps_message.specs.declared.accepted.Accepted.{Accepted}
use Rattle.taps_stack.specs.declared.target.Target.{Target}
use Rattle.taps_socket.specs.declared.cause.Cause.TheVariants as cause
use Rattle.taps_socket.specs.declared.item.Item.{Item}
use Rattle.taps_socket.specs.declared.item.Item.TheVariants as item
use Rattle.taps_socket.specs.declared.answers.ListenAnswer.TheVariants as listen
use Rattle.taps_socket.specs.declared.answers.AcceptAnswer.TheVariants as accept
use Rattle.taps_socket.specs.declared.answers.SendAnswer.TheVariants.{Sent, Failed}
use Rattle.taps_socket.specs.declared.answers.RecvAnswer.TheVariants as recv
use Rattle.taps_socket.specs.Calls.{Call, begins, listens, accepts, sends, receives, closes, items_of}
use Rattle.taps_exchange.specs.declared.outcome.Outcome.{Outcome}
use Rattle.taps_exchange.specs.declared.outcome.Outcome.TheVariants as outcome
use Rattle.taps_exchange.specs.Decodings.{framed_decoding}
use Rattle.taps_exchange.specs.Turns.{IsExchange}
use Rattle.taps_exchange.specs.WorkedExchanges.{first_of_8, len8, text, hi}
use Rattle.taps_listening.specs.declared.listened.ListenEnd.{ListenEnd}
use Rattle.taps_listening.specs.declared.listened.ListenEnd.TheVariants as ends
use Rattle.taps_listening.specs.AnsweredStates.{AnsweredState}
use Rattle.taps_listening.specs.ListenRules.{ListenRules}
use Rattle.taps_listening.specs.Listening.{stopped, course_after, turn_listening, answered_all, outcome_of}

-- bodies with their length in one byte, in pieces of 4096 bytes: the target, how many connections, what each sends, and
-- how many messages it hears before; the deadline is 100 milliseconds away
abbrev pub rules : Target → ℕ → (ℕ → List Accepted) → ℕ → ListenRules
rules t limit messages needs = record {
  target = t;
  limit = limit;
  encoding = len8;
  decoding = framed_decoding first_of_8;
  messages = messages;
  needs = needs;
  piece = 4096;
  patience = 100;
}

-- one message, and one that lives for 50 milliseconds behind it
abbrev pub one : MessageProps → ℕ → List Accepted
one p at = text p 0 at (97 ∷ []) None false ∷ []

abbrev pub one_and_short : MessageProps → ℕ → List Accepted
one_and_short p at = text p 0 at (97 ∷ []) None false ∷ text p 1 at (98 ∷ []) (Some 50) false ∷ []

-- the calls, in the order in which they came, are a session with this end; the connections sent and heard these; and
-- these items were added, the newest first
pub record Has (r : ListenRules) (calls : List Call) (end : ListenEnd) (members : List AnsweredState)
    (items : List Item) : Type 0 where
  pub exchange : IsExchange (turn_listening r) (reverse calls) (outcome_of end)
  pub ended : (course_after r (reverse calls)).phase ≡ stopped end
  pub members_are : answered_all r (course_after r (reverse calls)).served ≡ members
  pub items_are : items_of (reverse calls) ≡ items

abbrev pub told : ℕ → List (List ℕ) → AnsweredState
told sent heard = record { sent = sent; heard = heard }

pub record RightSessions (p : MessageProps) (t : Target) : Type 0 where
  pub refused : Has (rules t 1 (one p) 0)
      (begins 5 ∷ listens t (listen.Refused cause.Other 6) ∷ []) (ends.NotListening cause.Other) []
      (item.NotListening t cause.Other 6 ∷ item.Began 5 ∷ [])
  pub timed : Has (rules t 1 (one p) 0)
      (begins 5 ∷ listens t (listen.Listening 0 6) ∷ accepts 0 106 (accept.Timed 106) ∷ closes 0 ∷ [])
      (ends.Exchanged outcome.Timed) []
      (item.Closed 0 ∷ item.Listening t 0 6 ∷ item.Began 5 ∷ [])
  pub faulted : Has (rules t 1 (one p) 0)
      (begins 5 ∷ listens t (listen.Listening 0 6) ∷ accepts 0 106 (accept.Faulted 7) ∷ closes 0 ∷ [])
      ends.Faulted []
      (item.Closed 0 ∷ item.Faulted 7 ∷ item.Listening t 0 6 ∷ item.Began 5 ∷ [])
  pub hears_and_answers : Has (rules t 1 (one p) 1)
      (begins 5 ∷ listens t (listen.Listening 0 6) ∷ accepts 0 106 (accept.Accepted 1 20)
      ∷ receives 1 4096 120 (2 ∷ hi) (recv.Got 3 30) ∷ begins 31 ∷ sends 1 (1 ∷ 97 ∷ []) 120 (Sent 2 32) ∷ closes 1
      ∷ closes 0 ∷ []) (ends.Exchanged outcome.Done) (told 1 (hi ∷ []) ∷ [])
      (item.Closed 0 ∷ item.Closed 1 ∷ item.Began 31 ∷ item.Accepted 0 1 20 ∷ item.Listening t 0 6 ∷ item.Began 5 ∷ [])
  pub two : Has (rules t 2 (one p) 0)
      (begins 5 ∷ listens t (listen.Listening 0 6) ∷ accepts 0 106 (accept.Accepted 1 20) ∷ begins 31
      ∷ sends 1 (1 ∷ 97 ∷ []) 120 (Sent 2 32) ∷ closes 1 ∷ begins 40 ∷ accepts 0 140 (accept.Accepted 2 50) ∷ begins 51
      ∷ sends 2 (1 ∷ 97 ∷ []) 150 (Sent 1 52) ∷ sends 2 (97 ∷ []) 150 (Sent 1 53) ∷ closes 2 ∷ closes 0 ∷ [])
      (ends.Exchanged outcome.Done) (told 1 [] ∷ told 1 [] ∷ [])
      (item.Closed 0 ∷ item.Closed 2 ∷ item.Began 51 ∷ item.Accepted 0 2 50 ∷ item.Began 40 ∷ item.Closed 1
      ∷ item.Began 31 ∷ item.Accepted 0 1 20 ∷ item.Listening t 0 6 ∷ item.Began 5 ∷ [])
  pub ends_early : Has (rules t 2 (one p) 2)
      (begins 5 ∷ listens t (listen.Listening 0 6) ∷ accepts 0 106 (accept.Accepted 1 20)
      ∷ receives 1 4096 120 (2 ∷ hi) (recv.Got 3 30) ∷ receives 1 4096 120 [] recv.End ∷ closes 1 ∷ closes 0 ∷ [])
      (ends.Exchanged outcome.PeerEnded) (told 0 (hi ∷ []) ∷ [])
      (item.Closed 0 ∷ item.Closed 1 ∷ item.Ended 1 ∷ item.Accepted 0 1 20 ∷ item.Listening t 0 6 ∷ item.Began 5 ∷ [])
  pub second_faulted : Has (rules t 2 (one p) 0)
      (begins 5 ∷ listens t (listen.Listening 0 6) ∷ accepts 0 106 (accept.Accepted 1 20) ∷ begins 31
      ∷ sends 1 (1 ∷ 97 ∷ []) 120 (Sent 2 32) ∷ closes 1 ∷ begins 40 ∷ accepts 0 140 (accept.Faulted 41) ∷ closes 0 ∷ [])
      ends.Faulted (told 1 [] ∷ [])
      (item.Closed 0 ∷ item.Faulted 41 ∷ item.Began 40 ∷ item.Closed 1 ∷ item.Began 31 ∷ item.Accepted 0 1 20
      ∷ item.Listening t 0 6 ∷ item.Began 5 ∷ [])
  pub expires : Has (rules t 2 (one_and_short p) 0)
      (begins 5 ∷ listens t (listen.Listening 0 6) ∷ accepts 0 106 (accept.Accepted 1 20) ∷ begins 31
      ∷ sends 1 (1 ∷ 97 ∷ []) 120 (Sent 2 32) ∷ sends 1 (1 ∷ 98 ∷ []) 120 (Sent 2 33) ∷ closes 1 ∷ begins 40
      ∷ accepts 0 140 (accept.Accepted 2 50) ∷ begins 51 ∷ sends 2 (1 ∷ 97 ∷ []) 150 (Sent 2 101) ∷ closes 2 ∷ closes 0
      ∷ []) (ends.Exchanged (outcome.Expired 1 1)) (told 2 [] ∷ told 1 [] ∷ [])
      (item.Closed 0 ∷ item.Closed 2 ∷ item.Began 51 ∷ item.Accepted 0 2 50 ∷ item.Began 40 ∷ item.Closed 1
      ∷ item.Began 31 ∷ item.Accepted 0 1 20 ∷ item.Listening t 0 6 ∷ item.Began 5 ∷ [])
  pub fails_in_sending : Has (rules t 2 (one p) 0)
      (begins 5 ∷ listens t (listen.Listening 0 6) ∷ accepts 0 106 (accept.Accepted 1 20) ∷ begins 31
      ∷ sends 1 (1 ∷ 97 ∷ []) 120 (Failed cause.Reset) ∷ closes 1 ∷ closes 0 ∷ [])
      (ends.Exchanged (outcome.DataFailed cause.Reset)) (told 0 [] ∷ [])
      (item.Closed 0 ∷ item.Closed 1 ∷ item.DataFailed 1 true cause.Reset ∷ item.Began 31 ∷ item.Accepted 0 1 20
      ∷ item.Listening t 0 6 ∷ item.Began 5 ∷ [])

-- no session is so
abbrev pub Wrong : ListenRules → List Call → Outcome → Type 0
Wrong r calls o = IsExchange (turn_listening r) (reverse calls) o → ⊥

pub record WrongSessions (p : MessageProps) (t : Target) : Type 0 where
  pub without_the_time : Wrong (rules t 1 (one p) 0) (listens t (listen.Refused cause.Other 6) ∷ []) outcome.Done
  pub leaves_the_listener_open : Wrong (rules t 1 (one p) 0)
      (begins 5 ∷ listens t (listen.Listening 0 6) ∷ accepts 0 106 (accept.Timed 106) ∷ []) outcome.Timed
  pub listens_twice : Wrong (rules t 1 (one p) 0)
      (begins 5 ∷ listens t (listen.Refused cause.Other 6) ∷ listens t (listen.Refused cause.Other 7) ∷ []) outcome.Done
  pub answers_before_it_heard : Wrong (rules t 1 (one p) 1)
      (begins 5 ∷ listens t (listen.Listening 0 6) ∷ accepts 0 106 (accept.Accepted 1 20) ∷ begins 21
      ∷ sends 1 (1 ∷ 97 ∷ []) 120 (Sent 2 32) ∷ receives 1 4096 120 (2 ∷ hi) (recv.Got 3 33) ∷ closes 1 ∷ closes 0 ∷ [])
      outcome.Done
  pub deadline_of_the_listen : Wrong (rules t 1 (one p) 0)
      (begins 5 ∷ listens t (listen.Listening 0 6) ∷ accepts 0 105 (accept.Timed 105) ∷ closes 0 ∷ []) outcome.Timed
  pub accepts_too_few : Wrong (rules t 2 (one p) 0)
      (begins 5 ∷ listens t (listen.Listening 0 6) ∷ accepts 0 106 (accept.Accepted 1 20) ∷ begins 31
      ∷ sends 1 (1 ∷ 97 ∷ []) 120 (Sent 2 32) ∷ closes 1 ∷ closes 0 ∷ []) outcome.Done
  pub accepts_again_without_the_time : Wrong (rules t 2 (one p) 0)
      (begins 5 ∷ listens t (listen.Listening 0 6) ∷ accepts 0 106 (accept.Accepted 1 20) ∷ begins 31
      ∷ sends 1 (1 ∷ 97 ∷ []) 120 (Sent 2 32) ∷ closes 1 ∷ accepts 0 132 (accept.Faulted 41) ∷ closes 0 ∷ [])
      outcome.Done
  pub leaves_a_connection_open : Wrong (rules t 1 (one p) 0)
      (begins 5 ∷ listens t (listen.Listening 0 6) ∷ accepts 0 106 (accept.Accepted 1 20) ∷ begins 31
      ∷ sends 1 (1 ∷ 97 ∷ []) 120 (Sent 2 32) ∷ closes 0 ∷ []) outcome.Done

abbrev pub JudgesWorkedListening : Type 0
JudgesWorkedListening = (p : MessageProps) (t : Target) → RightSessions p t × WrongSessions p t
