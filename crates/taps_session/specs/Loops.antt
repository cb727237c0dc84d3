-- A session of the role Loop: a target is listened on, the plan of Initiate is raced, one connection is accepted, and
-- both ends go through their exchange (RFC 9622 sections 7.1, 7.2, 9.2 and 9.3; what a file asks for is local). Calls
-- and items stand with the newest one first.
use Rattle.std.specs.Prelude.{◌≡◌, ◌⊎◌, ℕ, List, [], ◌∷◌, ◌++◌, length, slice_get, Option, Some, None, Result, IfOk}
use Rattle.taps_base.specs.Counts.{Rose, one_more}
use Rattle.taps_base.specs.declared.no_memory.NoMemory.{NoMemory}
use Rattle.taps_framer.specs.Layers.{Layer}
use Rattle.taps_stack.specs.declared.stack.Stack.{Stack}
use Rattle.taps_stack.specs.declared.target.Target.{Target}
use Rattle.taps_socket.specs.declared.answers.ListenAnswer.TheVariants as listen
use Rattle.taps_socket.specs.declared.answers.AcceptAnswer.TheVariants as accept
use Rattle.taps_socket.specs.declared.cause.Cause.{Cause}
use Rattle.taps_socket.specs.declared.item.Item.{Item}
use Rattle.taps_socket.specs.declared.item.Item.TheVariants as item
use Rattle.taps_socket.specs.declared.race_answer.RaceAnswer.{RaceAnswer}
use Rattle.taps_socket.specs.declared.race_answer.RaceAnswer.TheVariants as answers
use Rattle.taps_socket.specs.Calls.{Call, closes, listens, accepts, items_of, AddEach}
use Rattle.taps_socket.specs.LawfulRace.{IsLawfulRace}
use Rattle.taps_socket.specs.Net.{IsUnused}
use Rattle.taps_socket.specs.RaceTrace.{last_moment}
use Rattle.taps_socket.specs.Sides.{carries_stream}
use Rattle.taps_exchange.specs.Members.{calls_on}
use Rattle.taps_exchange.specs.Turns.{IsInTurn, IsExchange}
use Rattle.taps_exchange.specs.declared.outcome.Outcome.{Outcome}
use Rattle.taps_loop.specs.Looped.{deadline_by, ends_over}
use Rattle.taps_loop.specs.Loops.{Ends, turn_loop, sent_in, heard_in}
use Rattle.taps_loop.specs.declared.looped.Looped.{Looped}
use Rattle.taps_loop.specs.declared.looped.Looped.TheVariants as looped
use Rattle.taps_text.specs.MemberLines.{MemberLog}
use Rattle.taps_text.specs.declared.outcome.Outcome as lines
use Rattle.taps_text.specs.declared.outcome.Outcome.TheVariants as line
use Rattle.taps_command.specs.Nets.{SocketsState, IsClosedOnce}
use Rattle.taps_command.specs.Places.{chain_of}
use Rattle.taps_command.specs.Ready.{Ready}
use Rattle.taps_session.specs.FileMessages.{messages_on}
use Rattle.taps_session.specs.FileSessions.{listened, rules_of, targets_of}
use Rattle.taps_session.specs.Observed.{ShowsBytes}
use Rattle.taps_session.specs.Services.{first_target, no_leaf}
use Rattle.taps_session.specs.Sessions.{stack_of}
use Rattle.taps_session.specs.SessionLogs.{Held, Holds, LeavesUncalled, outcome_told}
use Rattle.taps_session.specs.declared.looping.LoopEnded.{LoopEnded}

-- What followed a race behind a listener: it had no winner; the winner was closed at once, for want of memory; no
-- connection was accepted up to a time, or the accept was faulted; or a connection was accepted, and both ends made
-- these calls, with an outcome.
pub data Behind : Type 0 where
  lost : Behind
  dropped : Behind
  timed : (at : ℕ) → Behind
  faulted : (at : ℕ) → Behind
  exchanged : (to since : ℕ) → (calls : List Call) → (outcome : Outcome) → Behind

-- the listener and the time since which it listens; the calls of the race, which each added one of these items, and its
-- answer; and what followed it
pub record Course : Type 0 where
  pub listener : ℕ
  pub since : ℕ
  pub raced : List Call
  pub race : List Item
  pub answer : RaceAnswer
  pub behind : Behind

-- both ends: the winner of the race, over a stack, and the connection that was accepted at a time
abbrev pub ends_on : List Layer → Ready → Target → Stack → ℕ → ℕ → ℕ → Ends
ends_on shelf ready target stack socket to since =
    ends_over socket stack to target.stack (chain_of shelf ready.places) (messages_on ready.pre stack 0) since
    ready.pre.exchange.piece ready.pre.exchange.deadline_ms

abbrev pub ends_of : List Layer → Ready → Target → ℕ → ℕ → ℕ → ℕ → Ends
ends_of shelf ready target leaf socket =
    ends_on shelf ready target (stack_of (slice_get (targets_of ready) leaf)) socket

-- with a winner a connection is accepted, and the calls of both ends are an exchange with this outcome, unless the
-- accept is timed or faulted
abbrev pub IsBehind : List Layer → Ready → Target → RaceAnswer → Behind → Type 0
IsBehind shelf ready target (answers.Ready leaf socket at) lost = ⊥
IsBehind shelf ready target (answers.Ready leaf socket at) dropped = ⊥
IsBehind shelf ready target (answers.Ready leaf socket at) (timed until) = Unit {0}
IsBehind shelf ready target (answers.Ready leaf socket at) (faulted when) = Unit {0}
IsBehind shelf ready target (answers.Ready leaf socket at) (exchanged to since calls o) =
    IsExchange (turn_loop (ends_of shelf ready target leaf socket to since)) calls o
IsBehind shelf ready target _ lost = Unit {0}
IsBehind shelf ready target _ _ = ⊥

-- so it is, or memory ran out behind the first calls
abbrev pub IsBegunBehind : List Layer → Ready → Target → RaceAnswer → Behind → Type 0
IsBegunBehind shelf ready target (answers.Ready leaf socket at) lost = ⊥
IsBegunBehind shelf ready target (answers.Ready leaf socket at) dropped = Unit {0}
IsBegunBehind shelf ready target (answers.Ready leaf socket at) (timed until) = Unit {0}
IsBegunBehind shelf ready target (answers.Ready leaf socket at) (faulted when) = Unit {0}
IsBegunBehind shelf ready target (answers.Ready leaf socket at) (exchanged to since calls o) =
    IsInTurn (turn_loop (ends_of shelf ready target leaf socket to since)) calls
IsBegunBehind shelf ready target _ lost = Unit {0}
IsBegunBehind shelf ready target _ _ = ⊥

-- its calls: the accept up to a time, those of the exchange, and then the closes of what is open
abbrev pub calls_behind : ℕ → ℕ → RaceAnswer → Behind → List Call
calls_behind listener until (answers.Ready leaf socket at) lost = closes listener ∷ []
calls_behind listener until (answers.Ready leaf socket at) dropped = closes listener ∷ closes socket ∷ []
calls_behind listener until (answers.Ready leaf socket at) (timed when) =
    closes listener ∷ closes socket ∷ accepts listener until (accept.Timed when) ∷ []
calls_behind listener until (answers.Ready leaf socket at) (faulted when) =
    closes listener ∷ closes socket ∷ accepts listener until (accept.Faulted when) ∷ []
calls_behind listener until (answers.Ready leaf socket at) (exchanged to since calls o) =
    closes listener ∷ closes to ∷ closes socket ∷ (calls ++ accepts listener until (accept.Accepted to since) ∷ [])
calls_behind listener until _ _ = closes listener ∷ []

-- the accept's deadline counts from the race's last time
abbrev pub until_of : Ready → List Item → ℕ
until_of ready race = deadline_by (last_moment race) ready.pre.exchange.deadline_ms

abbrev pub behind_of : Ready → Course → List Call
behind_of ready c = calls_behind c.listener (until_of ready c.race) c.answer c.behind

-- all calls of a session
abbrev pub calls_of : Ready → Target → Course → List Call
calls_of ready target c =
    behind_of ready c ++ (c.raced ++ listens target (listen.Listening c.listener c.since) ∷ [])

-- a session over this target, with the framers of this shelf
pub record IsLoopOf (shelf : List Layer) (ready : Ready) (target : Target) (c : Course) : Type 0 where
  pub each : AddEach c.raced c.race
  pub lawful : IsLawfulRace (rules_of ready) 0 (targets_of ready) c.race c.answer
  pub behind : IsBehind shelf ready target c.answer c.behind

-- the items up to a race's answer, and those behind it: without a winner the listener is closed before the answer is
-- told
abbrev pub up_to : RaceAnswer → List Item → List Item → List Item
up_to (answers.Ready leaf socket at) behind race = race
up_to _ behind race = behind ++ race

abbrev pub beyond : RaceAnswer → List Item → List Item
beyond (answers.Ready leaf socket at) behind = behind
beyond _ behind = []

-- what the ends sent and heard: the first one sends, and the second one hears
abbrev pub members_of : List Layer → Ready → Target → RaceAnswer → Behind → List MemberLog
members_of shelf ready target (answers.Ready leaf socket at) (exchanged to since calls o) =
    record { sent = sent_in (ends_of shelf ready target leaf socket to since) calls; heard = [] }
    ∷ record { sent = 0; heard = heard_in (ends_of shelf ready target leaf socket to since) calls o }
    ∷ []
members_of shelf ready target (answers.Ready leaf socket at) _ = record { sent = 0; heard = [] } ∷ []
members_of shelf ready target _ _ = []

abbrev pub outcome_of : Behind → lines.Outcome
outcome_of lost = line.Done
outcome_of dropped = line.Done
outcome_of (timed at) = line.Timed
outcome_of (faulted at) = line.SocketFault
outcome_of (exchanged to since calls o) = outcome_told o

-- what is told of it
abbrev pub held_of : List Layer → Ready → Target → Course → Held
held_of shelf ready target c = record {
  before = up_to c.answer (items_of (behind_of ready c)) (c.race ++ item.Listening target c.listener c.since ∷ []);
  answer = Some c.answer;
  after = beyond c.answer (items_of (behind_of ready c));
  members = members_of shelf ready target c.answer c.behind;
  outcome = outcome_of c.behind;
}

-- where no connection was accepted, one timed call more was made if the accept was timed, and else none
abbrev pub IsTimedSo : Behind → ℕ → ℕ → Type 0
IsTimedSo (timed at) before after = after ≡ one_more before
IsTimedSo (exchanged to since calls o) before after = Unit {0}
IsTimedSo _ before after = after ≡ before

-- What is seen of the sockets: the timed calls, and a fault that was counted where the race or the accept was faulted.
-- What sockets show of a socket without traffic before are, where observable, the pieces of the calls on it.
pub record IsSeenBoth (c : Course) (old new : SocketsState) : Type 0 where
  pub timed_so : IsTimedSo c.behind old.net.timed new.net.timed
  pub fault : c.answer ≡ answers.SocketFault → Rose old.net.faults new.net.faults
  pub accept_fault : (at : ℕ) → c.behind ≡ faulted at → Rose old.net.faults new.net.faults
  pub observed : (s : ℕ) → IsUnused (old.net.traffic s) →
      ShowsBytes (carries_stream new.net.trace s) (new.net.traffic s) (calls_on s new.calls)

-- a session ran, and this is told of it
pub record IsLoopedBy (shelf : List Layer) (ready : Ready) (target : Target) (s : Held) (old new : SocketsState) :
    Type 0 where
  pub course : Course
  pub calls : new.calls ≡ calls_of ready target course
  pub session : IsLoopOf shelf ready target course
  pub seen : IsSeenBoth course old new
  pub kept : s ≡ held_of shelf ready target course

-- the listen was refused, which is told as a session of which every attempt failed
abbrev pub refused : Target → Cause → ℕ → Held
refused target cause at = record {
  before = item.NotListening target cause at ∷ [];
  answer = Some answers.AllFailed;
  after = [];
  members = [];
  outcome = line.Done;
}

pub record IsRefusedBy (target : Target) (s : Held) (new : SocketsState) : Type 0 where
  pub cause : Cause
  pub at : ℕ
  pub calls : new.calls ≡ listens target (listen.Refused cause at) ∷ []
  pub told : s ≡ refused target cause at

-- over the target of the first leaf of the plan of Listen; without a leaf no call was made
abbrev pub IsBothOn : List Layer → Ready → Option Target → Held → SocketsState → SocketsState → Type 0
IsBothOn shelf ready None s old new = LeavesUncalled old new × (s ≡ no_leaf)
IsBothOn shelf ready (Some target) s old new =
    IsRefusedBy target s new ⊎ IsLoopedBy shelf ready target s old new

-- a session of Loop ran on sockets of which no call had been made, and this is told of it
abbrev pub IsBoth : List Layer → Ready → Held → SocketsState → SocketsState → Type 0
IsBoth shelf ready = IsBothOn shelf ready (first_target (listened ready))

-- calls of a session that memory cut short: those of a race and what followed it; or there was no race
pub record IsBegunCourse (shelf : List Layer) (ready : Ready) (target : Target) (calls : List Call) : Type 0 where
  pub course : Course
  pub all : calls ≡ calls_of ready target course
  pub each : AddEach course.raced course.race
  pub lawful : IsLawfulRace (rules_of ready) 0 (targets_of ready) course.race course.answer
  pub behind : IsBegunBehind shelf ready target course.answer course.behind

pub record IsUnraced (target : Target) (calls : List Call) : Type 0 where
  pub listener : ℕ
  pub since : ℕ
  pub all : calls ≡ closes listener ∷ listens target (listen.Listening listener since) ∷ []

pub record IsRefusedListen (target : Target) (calls : List Call) : Type 0 where
  pub cause : Cause
  pub at : ℕ
  pub all : calls ≡ listens target (listen.Refused cause at) ∷ []

abbrev pub AreBegun : List Layer → Ready → Target → List Call → Type 0
AreBegun shelf ready target calls =
    IsRefusedListen target calls ⊎ (IsUnraced target calls ⊎ IsBegunCourse shelf ready target calls)

pub record IsBegunBoth (shelf : List Layer) (ready : Ready) (calls : List Call) : Type 0 where
  pub target : Target
  pub first : first_target (listened ready) ≡ Some target
  pub begun : AreBegun shelf ready target calls

-- no call was made; or the calls are those of a session, or its first ones and then the closes
abbrev pub LeavesBoth : List Layer → Ready → SocketsState → SocketsState → Type 0
LeavesBoth shelf ready old new = LeavesUncalled old new ⊎ IsBegunBoth shelf ready new.calls

abbrev pub HoldsBoth : List Layer → Ready → Result Held NoMemory → SocketsState → SocketsState → Type 0
HoldsBoth shelf ready = Holds (IsBoth shelf ready) (LeavesBoth shelf ready)

-- what the ends sent and heard, and the outcome, as they are kept
abbrev pub members_by : Option Looped → List MemberLog
members_by None = []
members_by (Some (looped.Exchanged e)) =
    record { sent = e.sent; heard = [] } ∷ record { sent = 0; heard = e.heard.items } ∷ []
members_by (Some looped.Timed) = record { sent = 0; heard = [] } ∷ []
members_by (Some looped.Faulted) = record { sent = 0; heard = [] } ∷ []

abbrev pub outcome_by : Option Looped → lines.Outcome
outcome_by None = line.Done
outcome_by (Some (looped.Exchanged e)) = outcome_told e.outcome
outcome_by (Some looped.Timed) = line.Timed
outcome_by (Some looped.Faulted) = line.SocketFault

-- a session ran: so many items stand before this answer, and of both ends, if there were both, this is known
pub record IsEndedBoth (shelf : List Layer) (ready : Ready) (target : Target) (e : LoopEnded)
    (old new : SocketsState) : Type 0 where
  pub held : Held
  pub ran : IsBothOn shelf ready (Some target) held old new
  pub items : new.net.trace ≡ held.after ++ held.before
  pub before : e.before ≡ length held.before
  pub answer : held.answer ≡ Some e.answer
  pub members : held.members ≡ members_by e.looped
  pub outcome : held.outcome ≡ outcome_by e.looped

-- so it did, or memory ran out
pub record EndsBoth (shelf : List Layer) (ready : Ready) (target : Target) (result : Result LoopEnded NoMemory)
    (old new : SocketsState) : Type 0 where
  pub ended : IfOk result (λ e. IsEndedBoth shelf ready target e old new)
  pub leaves : LeavesBoth shelf ready old new
  pub closed_once : IsClosedOnce new.net.trace
