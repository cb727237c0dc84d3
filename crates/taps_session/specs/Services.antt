-- A session of the role Listen: a target is listened on, and the connections that are accepted, one after the other,
-- hear and then send (RFC 9622 sections 7.2, 9.2 and 9.3; what a file asks for is local).
use Rattle.std.specs.Prelude.{◌≡◌, ◌⊎◌, ℕ, List, [], ◌++◌, map, slice_get, Option, Some, None, Result, IfOk}
use Rattle.std.specs.Option.{option_map}
use Rattle.taps_base.specs.Counts.{Rose}
use Rattle.taps_base.specs.declared.no_memory.NoMemory.{NoMemory}
use Rattle.taps_framer.specs.Layers.{Layer}
use Rattle.taps_stack.specs.declared.target.Target.{Target}
use Rattle.taps_socket.specs.declared.race_answer.RaceAnswer.{RaceAnswer}
use Rattle.taps_socket.specs.declared.race_answer.RaceAnswer.TheVariants as answers
use Rattle.taps_socket.specs.Calls.{Call, items_of}
use Rattle.taps_socket.specs.Net.{IsUnused}
use Rattle.taps_socket.specs.Sides.{carries_stream}
use Rattle.taps_candidate.specs.Plan.{RankedPlan}
use Rattle.taps_candidate.specs.declared.plan.Leaf.{Leaf}
use Rattle.taps_exchange.specs.Members.{calls_on}
use Rattle.taps_exchange.specs.Outcomes.{count_by}
use Rattle.taps_exchange.specs.Turns.{IsInTurn, IsExchange}
use Rattle.taps_listening.specs.AnsweredStates.{AnsweredState}
use Rattle.taps_listening.specs.ListenRules.{ListenRules, rules_of}
use Rattle.taps_listening.specs.Listening.{stopped, course_after, turn_listening, answered_all, closes_of, outcome_of}
use Rattle.taps_listening.specs.declared.listened.ListenEnd.{ListenEnd}
use Rattle.taps_listening.specs.declared.listened.ListenEnd.TheVariants as ends
use Rattle.taps_listening.specs.declared.listened.Listened.{Listened}
use Rattle.taps_listening.specs.declared.service.Service.{Service}
use Rattle.taps_text.specs.MemberLines.{MemberLog}
use Rattle.taps_text.specs.declared.outcome.Outcome as lines
use Rattle.taps_text.specs.declared.outcome.Outcome.TheVariants as line
use Rattle.taps_command.specs.Nets.{SocketsState, IsClosedOnce}
use Rattle.taps_command.specs.Places.{chain_of}
use Rattle.taps_command.specs.Ready.{Ready}
use Rattle.taps_session.specs.FileMessages.{messages_on}
use Rattle.taps_session.specs.FileSessions.{listened}
use Rattle.taps_session.specs.Observed.{ShowsBytes}
use Rattle.taps_session.specs.SessionLogs.{Held, Holds, LeavesUncalled, outcome_told}

-- the target of a plan's first leaf, if it has one
abbrev pub first_target : RankedPlan → Option Target
first_target plan = option_map (λ (leaf : Leaf). leaf.target) (slice_get plan.leaves 0)

-- what a file listens for, on a target
abbrev pub service_of : Ready → Target → Service
service_of ready target = record {
  target = target;
  connections = ready.pre.exchange.connections;
  props = ready.pre.connection;
  expect = ready.pre.exchange.expect;
  piece = ready.pre.exchange.piece;
  deadline_ms = ready.pre.exchange.deadline_ms;
}

-- with its messages, through the layers of its framers
abbrev pub listening_of : List Layer → Ready → Target → ListenRules
listening_of shelf ready target =
    rules_of (service_of ready target) (chain_of shelf ready.places) (messages_on ready.pre target.stack 0)

-- the answer that is told of a session that ended so: a refused listen is one of which every attempt failed
abbrev pub answer_of : ListenEnd → Option RaceAnswer
answer_of (ends.Exchanged o) = None
answer_of (ends.NotListening cause) = Some answers.AllFailed
answer_of ends.Faulted = None

-- and the outcome
abbrev pub outcome_by : ListenEnd → lines.Outcome
outcome_by (ends.Exchanged o) = outcome_told o
outcome_by (ends.NotListening cause) = line.Done
outcome_by ends.Faulted = line.SocketFault

-- what a connection sent and heard
abbrev pub log_by : AnsweredState → MemberLog
log_by a = record { sent = a.sent; heard = a.heard }

-- what is told of a session of these calls, with this end
abbrev pub told_of_service : ListenRules → List Call → ListenEnd → Held
told_of_service r calls end = record {
  before = items_of calls;
  answer = answer_of end;
  after = [];
  members = map log_by (answered_all r (course_after r calls).served);
  outcome = outcome_by end;
}

-- what is told where the plan has no leaf
abbrev pub no_leaf : Held
no_leaf = record { before = []; answer = Some answers.NoCandidate; after = []; members = []; outcome = line.Done }

-- The calls are a session by these rules, with this end: one timed call more was made where its outcome is Timed, and
-- else none, and a fault was counted where an accept was faulted. What sockets show of a socket without traffic before
-- are, where observable, the pieces that the calls on it wrote and read.
pub record IsServedTo (r : ListenRules) (end : ListenEnd) (old new : SocketsState) : Type 0 where
  pub exchange : IsExchange (turn_listening r) new.calls (outcome_of end)
  pub ended : (course_after r new.calls).phase ≡ stopped end
  pub timed : new.net.timed ≡ count_by (outcome_of end) old.net.timed
  pub fault : end ≡ ends.Faulted → Rose old.net.faults new.net.faults
  pub observed : (s : ℕ) → IsUnused (old.net.traffic s) →
      ShowsBytes (carries_stream new.net.trace s) (new.net.traffic s) (calls_on s new.calls)

-- so they are, and this is told of it
pub record IsServedBy (r : ListenRules) (s : Held) (old new : SocketsState) : Type 0 where
  pub end : ListenEnd
  pub served : IsServedTo r end old new
  pub told : s ≡ told_of_service r new.calls end

-- over the target of the plan's first leaf; without a leaf no call was made
abbrev pub IsServedOn : List Layer → Ready → Option Target → Held → SocketsState → SocketsState → Type 0
IsServedOn shelf ready None s old new = LeavesUncalled old new × (s ≡ no_leaf)
IsServedOn shelf ready (Some target) s old new = IsServedBy (listening_of shelf ready target) s old new

-- a session of Listen ran on sockets of which no call had been made, and this is told of it
abbrev pub IsServed : List Layer → Ready → Held → SocketsState → SocketsState → Type 0
IsServed shelf ready = IsServedOn shelf ready (first_target (listened ready))

-- calls of a session that memory cut short: its first ones, and then the closes
pub record IsBegunService (shelf : List Layer) (ready : Ready) (calls : List Call) : Type 0 where
  pub target : Target
  pub first : first_target (listened ready) ≡ Some target
  pub begun : List Call
  pub in_turn : IsInTurn (turn_listening (listening_of shelf ready target)) begun
  pub split : calls ≡ closes_of (course_after (listening_of shelf ready target) begun).phase ++ begun

-- no call was made; or the calls are those of a session, or its first ones and then the closes
abbrev pub LeavesService : List Layer → Ready → SocketsState → SocketsState → Type 0
LeavesService shelf ready old new = LeavesUncalled old new ⊎ IsBegunService shelf ready new.calls

abbrev pub HoldsService : List Layer → Ready → Result Held NoMemory → SocketsState → SocketsState → Type 0
HoldsService shelf ready = Holds (IsServed shelf ready) (LeavesService shelf ready)

-- a session ran on recorded sockets with this end, and so its connections sent and heard
pub record IsListenedTo (r : ListenRules) (l : Listened) (old new : SocketsState) : Type 0 where
  pub served : IsServedTo r l.end old new
  pub members : answered_all r (course_after r new.calls).served ≡ l.members.items

-- so it did, or memory ran out
pub record EndsService (shelf : List Layer) (ready : Ready) (target : Target) (result : Result Listened NoMemory)
    (old new : SocketsState) : Type 0 where
  pub ended : IfOk result (λ l. IsListenedTo (listening_of shelf ready target) l old new)
  pub leaves : LeavesService shelf ready old new
  pub closed_once : IsClosedOnce new.net.trace
