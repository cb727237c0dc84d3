-- Which call comes next in a session that listens, and how it ends (local; RFC 9622 sections 7.2, 9.2 and 9.3). A list of
-- calls stands with its newest one first.
use Rattle.std.specs.Prelude.{◌≡◌, ℕ, nat_lt, if◌then◌else◌, List, [], ◌∷◌, ◌++◌, length, Option, Some, None}
use Rattle.taps_socket.specs.declared.answers.ListenAnswer.TheVariants as listen
use Rattle.taps_socket.specs.declared.answers.AcceptAnswer.TheVariants as accept
use Rattle.taps_socket.specs.Calls.{Call, begins, closes, listens, accepts, to_begin, to_close, to_listen, to_accept, request_of}
use Rattle.taps_exchange.specs.declared.outcome.Outcome.{Outcome}
use Rattle.taps_exchange.specs.declared.outcome.Outcome.TheVariants as outcome
use Rattle.taps_exchange.specs.Turns.{Turn, asks, over}
use Rattle.taps_listening.specs.declared.listened.ListenEnd.{ListenEnd}
use Rattle.taps_listening.specs.declared.listened.ListenEnd.TheVariants as ends
use Rattle.taps_listening.specs.AnsweredStates.{AnsweredState}
use Rattle.taps_listening.specs.ListenRules.{ListenRules, deadline_from}
use Rattle.taps_listening.specs.Serving.{Served, first_served, answered_by, own_outcome, turn_serving, with_call}

-- How far a session has come. The time is asked; then the target is listened on; then the listener accepts a connection,
-- its deadline counting from this time; the connection is served; before the next accept the time is asked again; the
-- listener is closed, with this end; and it is over.
pub data Phase : Type 0 where
  beginning : Phase
  opening : Phase
  accepting : (listener told : ℕ) → Phase
  serving : (listener : ℕ) → (connection : Served) → Phase
  pausing : (listener : ℕ) → Phase
  stopping : (listener : ℕ) → (end : ListenEnd) → Phase
  stopped : (end : ListenEnd) → Phase

-- the connections that were served, the newest first, and how far it has come
pub record Course : Type 0 where
  pub served : List Served
  pub phase : Phase

abbrev pub course_at : List Served → Phase → Course
course_at served phase = record { served = served; phase = phase }

-- the first of two outcomes that is not Done
abbrev pub or_later : Outcome → Outcome → Outcome
or_later outcome.Done later = later
or_later first later = first

-- all connections are done: the first one by place with an expired message tells it
abbrev pub outcome_by : ListenRules → List Served → Outcome
outcome_by r [] = outcome.Done
outcome_by r (c ∷ earlier) = or_later (outcome_by r earlier) (own_outcome r (length earlier) c)

-- another connection is to be accepted, or there were enough
abbrev pub next_phase : ListenRules → ℕ → List Served → Phase
next_phase r listener served =
    if nat_lt (length served) r.limit then pausing listener
    else stopping listener (ends.Exchanged (outcome_by r served))

-- behind a connection that ended so: an outcome that is neither Done nor Expired ends the session
abbrev pub phase_behind : ListenRules → ℕ → List Served → Outcome → Phase
phase_behind r listener served outcome.Done = next_phase r listener served
phase_behind r listener served (outcome.Expired place number) = next_phase r listener served
phase_behind r listener served o = stopping listener (ends.Exchanged o)

-- the outcome of what is over
abbrev pub outcome_in : Turn → Outcome
outcome_in (asks request) = outcome.Done
outcome_in (over o) = o

-- a connection was closed
abbrev pub course_behind : ListenRules → ℕ → List Served → Served → Course
course_behind r listener served c =
    course_at (c ∷ served)
    (phase_behind r listener (c ∷ served) (outcome_in (turn_serving r (length served) c)))

-- how far it has come by one call more, in each phase
abbrev pub begun_by : Call → Phase
begun_by (begins at) = opening
begun_by _ = beginning

-- the target is listened on, for a connection more than none; or the listen was refused
abbrev pub opened_by : ListenRules → Call → Phase
opened_by r (listens target (listen.Listening socket at)) =
    if nat_lt 0 r.limit then accepting socket at else stopping socket (ends.Exchanged outcome.Done)
opened_by r (listens target (listen.Refused cause at)) = stopped (ends.NotListening cause)
opened_by r _ = opening

abbrev pub accepted_by : ℕ → ℕ → Call → Phase
accepted_by listener told (accepts l until (accept.Accepted socket at)) = serving listener (first_served socket at)
accepted_by listener told (accepts l until (accept.Timed at)) = stopping listener (ends.Exchanged outcome.Timed)
accepted_by listener told (accepts l until (accept.Faulted at)) = stopping listener ends.Faulted
accepted_by listener told _ = accepting listener told

abbrev pub served_by : ListenRules → ℕ → List Served → Served → Call → Course
served_by r listener served c (closes socket) = course_behind r listener served c
served_by r listener served c call = course_at served (serving listener (with_call c call))

abbrev pub resumed_by : ℕ → Call → Phase
resumed_by listener (begins at) = accepting listener at
resumed_by listener _ = pausing listener

abbrev pub stopped_by : ℕ → ListenEnd → Call → Phase
stopped_by listener end (closes socket) = stopped end
stopped_by listener end _ = stopping listener end

abbrev pub course_in : ListenRules → List Served → Phase → Call → Course
course_in r served beginning call = course_at served (begun_by call)
course_in r served opening call = course_at served (opened_by r call)
course_in r served (accepting listener told) call = course_at served (accepted_by listener told call)
course_in r served (serving listener c) call = served_by r listener served c call
course_in r served (pausing listener) call = course_at served (resumed_by listener call)
course_in r served (stopping listener end) call = course_at served (stopped_by listener end call)
course_in r served (stopped end) call = course_at served (stopped end)

abbrev pub course_by : ListenRules → Course → Call → Course
course_by r k call = course_in r k.served k.phase call

-- and by these calls
abbrev pub course_from : ListenRules → Course → List Call → Course
course_from r k [] = k
course_from r k (call ∷ earlier) = course_by r (course_from r k earlier) call

-- from the beginning
abbrev pub course_after : ListenRules → List Call → Course
course_after r calls = course_from r (course_at [] beginning) calls

-- the outcome of a session that ends so: where no exchange ended it, there is none but Done
abbrev pub outcome_of : ListenEnd → Outcome
outcome_of (ends.Exchanged o) = o
outcome_of (ends.NotListening cause) = outcome.Done
outcome_of ends.Faulted = outcome.Done

-- where a connection's exchange is over, its socket is closed
abbrev pub closing_by : ℕ → Turn → Turn
closing_by socket (asks request) = asks request
closing_by socket (over o) = asks (to_close socket)

-- what comes next
abbrev pub turn_in_phase : ListenRules → List Served → Phase → Turn
turn_in_phase r served beginning = asks to_begin
turn_in_phase r served opening = asks (to_listen r.target)
turn_in_phase r served (accepting listener told) = asks (to_accept listener (deadline_from r told))
turn_in_phase r served (serving listener c) = closing_by c.socket (turn_serving r (length served) c)
turn_in_phase r served (pausing listener) = asks to_begin
turn_in_phase r served (stopping listener end) = asks (to_close listener)
turn_in_phase r served (stopped end) = over (outcome_of end)

abbrev pub turn_at : ListenRules → Course → Turn
turn_at r k = turn_in_phase r k.served k.phase

-- The role: what comes next after these calls.
abbrev pub turn_listening : ListenRules → List Call → Turn
turn_listening r calls = turn_at r (course_after r calls)

-- what the connections sent and heard, in the order in which they were accepted
abbrev pub answered_all : ListenRules → List Served → List AnsweredState
answered_all r [] = []
answered_all r (c ∷ earlier) = answered_all r earlier ++ answered_by r c ∷ []

-- the listener that is open in a phase, and the connection's socket
abbrev pub listener_in : Phase → Option ℕ
listener_in beginning = None
listener_in opening = None
listener_in (accepting listener told) = Some listener
listener_in (serving listener c) = Some listener
listener_in (pausing listener) = Some listener
listener_in (stopping listener end) = Some listener
listener_in (stopped end) = None

abbrev pub connection_in : Phase → Option ℕ
connection_in (serving listener c) = Some c.socket
connection_in _ = None

-- their closes: the connection's socket, and then the listener
abbrev pub closes_if : Option ℕ → List Call
closes_if None = []
closes_if (Some socket) = closes socket ∷ []

abbrev pub closes_of : Phase → List Call
closes_of phase = closes_if (listener_in phase) ++ closes_if (connection_in phase)

-- each call is the one that comes next, from one course on
abbrev pub AllInTurn : ListenRules → Course → List Call → Type 0
AllInTurn r k [] = Unit {0}
AllInTurn r k (call ∷ earlier) = (turn_at r (course_from r k earlier) ≡ asks (request_of call)) × AllInTurn r k earlier

-- such calls led from one course to another
pub record Goes {N : Type 0} (Becomes : N → List Call → N → Type 0) (r : ListenRules) (before after : N)
    (k k' : Course) : Type 0 where
  pub calls : List Call
  pub becomes : Becomes before calls after
  pub in_turn : AllInTurn r k calls
  pub reaches : course_from r k calls ≡ k'
