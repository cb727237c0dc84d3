-- An accepted connection: it hears messages, then accepts its own at one time, and sends them (RFC 9622 sections 9.2 and
-- 9.3). A list of calls stands with its newest one first.
use Rattle.std.specs.Prelude.{◌≡◌, ℕ, List, [], ◌∷◌, Option, Some, None}
use Rattle.taps_message.specs.declared.accepted.Accepted.{Accepted}
use Rattle.taps_socket.specs.Calls.{Call, begins, to_begin, request_of}
use Rattle.taps_connection.specs.Outboxes.{Outbox}
use Rattle.taps_exchange.specs.declared.outcome.Outcome.{Outcome}
use Rattle.taps_exchange.specs.declared.outcome.Outcome.TheVariants as outcome
use Rattle.taps_exchange.specs.Decodings.{Hearing, messages_of}
use Rattle.taps_exchange.specs.Members.{Member, has_ended, outbox_after, hearing_after}
use Rattle.taps_exchange.specs.Turns.{Turn, asks, over, stop, unless, done_or, turn_in, turn_out}
use Rattle.taps_listening.specs.AnsweredStates.{AnsweredState}
use Rattle.taps_listening.specs.ListenRules.{ListenRules, deadline_from}

-- its socket, and when it was accepted; the calls by which it heard; when it accepted its messages, if it did; and the
-- calls by which it sent them
pub record Served : Type 0 where
  pub socket : ℕ
  pub since : ℕ
  pub hears : List Call
  pub answered : Option ℕ
  pub answers : List Call

-- as it was accepted
abbrev pub first_served : ℕ → ℕ → Served
first_served socket since = record { socket = socket; since = since; hears = []; answered = None; answers = [] }

-- the messages that it accepted
abbrev pub messages_by : ListenRules → Option ℕ → List Accepted
messages_by r None = []
messages_by r (Some at) = r.messages at

abbrev pub time_by : Option ℕ → ℕ
time_by None = 0
time_by (Some at) = at

-- the connection as a member of an exchange, whose deadline counts from its accept
abbrev pub member_of : ListenRules → Served → Member
member_of r c = record {
  socket = c.socket;
  encoding = r.encoding;
  decoding = r.decoding;
  messages = messages_by r c.answered;
  accepted = time_by c.answered;
  needs = r.needs;
  piece = r.piece;
  until = deadline_from r c.since;
}

-- how its sending stands, what it heard, and what is told of both
abbrev pub outbox_of : ListenRules → Served → Outbox
outbox_of r c = outbox_after (member_of r c) c.answers

abbrev pub hearing_of : ListenRules → Served → Hearing
hearing_of r c = hearing_after (member_of r c) c.hears

abbrev pub answered_by : ListenRules → Served → AnsweredState
answered_by r c = record { sent = (outbox_of r c).sent; heard = messages_of (hearing_of r c) }

-- a connection that sent all its messages, but for those that expired, is done
abbrev pub own_outcome : ListenRules → ℕ → Served → Outcome
own_outcome r place c = done_or (outbox_of r c).expired place outcome.Done

-- what comes next on the connection at a place: it hears until it heard enough; then the time is asked, at which its
-- messages are accepted; then it sends, and it is over
abbrev pub turn_by : ListenRules → ℕ → Served → Option ℕ → Turn
turn_by r place c None =
    unless (stop c.hears) (turn_in (member_of r c) (has_ended c.hears) (hearing_of r c) (asks to_begin))
turn_by r place c (Some at) =
    unless (stop c.answers)
    (turn_out (member_of r c) place (outbox_of r c).stand (over (own_outcome r place c)))

abbrev pub turn_serving : ListenRules → ℕ → Served → Turn
turn_serving r place c = turn_by r place c c.answered

-- after one call more
abbrev pub with_call_by : Served → Option ℕ → Call → Served
with_call_by c None (begins at) = record c { answered = Some at }
with_call_by c None call = record c { hears = call ∷ c.hears }
with_call_by c (Some at) call = record c { answers = call ∷ c.answers }

abbrev pub with_call : Served → Call → Served
with_call c call = with_call_by c c.answered call

-- and after these calls
abbrev pub served_after : Served → List Call → Served
served_after c [] = c
served_after c (call ∷ earlier) = with_call (served_after c earlier) call

-- each call is the one that comes next on the connection
abbrev pub AllServing : ListenRules → ℕ → Served → List Call → Type 0
AllServing r place c [] = Unit {0}
AllServing r place c (call ∷ earlier) =
    (turn_serving r place (served_after c earlier) ≡ asks (request_of call)) × AllServing r place c earlier
