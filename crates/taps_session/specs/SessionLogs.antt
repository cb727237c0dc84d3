-- The log of a session, its status, and what is seen of it.
use Rattle.std.specs.Prelude.{◌≡◌, ◌⊎◌, ℕ, List, [], ◌∷◌, ◌++◌, Option, Some, None, Result, IfOk, map, reverse}
use Rattle.taps_base.specs.Counts.{Rose}
use Rattle.taps_base.specs.declared.no_memory.NoMemory.{NoMemory}
use Rattle.taps_framer.specs.Layers.{Layer}
use Rattle.taps_socket.specs.declared.item.Item.{Item}
use Rattle.taps_socket.specs.declared.race_answer.RaceAnswer.{RaceAnswer}
use Rattle.taps_socket.specs.declared.race_answer.RaceAnswer.TheVariants as answers
use Rattle.taps_socket.specs.Calls.{Call, items_of}
use Rattle.taps_socket.specs.Net.{Net, with_spare}
use Rattle.taps_exchange.specs.Decodings.{messages_of}
use Rattle.taps_exchange.specs.Expiries.{TimesRise}
use Rattle.taps_exchange.specs.Members.{Member, calls_on, outbox_after, hearing_after}
use Rattle.taps_exchange.specs.Outcomes.{IsJudged, count_by}
use Rattle.taps_exchange.specs.declared.outcome.Outcome.{Outcome}
use Rattle.taps_exchange.specs.declared.outcome.Outcome.TheVariants as outcome
use Rattle.taps_text.specs.Log.{log_lines}
use Rattle.taps_text.specs.MemberLines.{MemberLog}
use Rattle.taps_text.specs.declared.outcome.Outcome as lines
use Rattle.taps_text.specs.declared.outcome.Outcome.TheVariants as line
use Rattle.taps_session.specs.FileSessions.{initiated, text_of}
use Rattle.taps_session.specs.Observed.{AreObserved}
use Rattle.taps_command.specs.Nets.{SocketsState, IsClosedOnce}
use Rattle.taps_command.specs.Ready.{Ready}
use Rattle.taps_session.specs.Sessions.{Course, calls_of, closing, members_after, IsSessionOf, IsBegunSession}
use Rattle.taps_command.specs.declared.status.Status.{Status}
use Rattle.taps_command.specs.declared.status.Status.TheVariants as status

-- the outcome of a session whose exchange ended so
abbrev pub outcome_told : Outcome → lines.Outcome
outcome_told outcome.Done = line.Done
outcome_told (outcome.Expired member number) = line.Expired member number
outcome_told outcome.Timed = line.Timed
outcome_told (outcome.DataFailed cause) = line.DataFailed cause
outcome_told outcome.PeerEnded = line.PeerEnded
outcome_told (outcome.BadFrame bad) = line.BadFrame bad.message bad.layer bad.place
outcome_told (outcome.NotSpeakable member number layer) = line.NotSpeakable member number layer

-- how many messages a member sent by these calls, and those that it heard
abbrev pub told_of : Member → List Call → MemberLog
told_of m calls = record {
  sent = (outbox_after m (calls_on m.socket calls)).sent;
  heard = messages_of (hearing_after m (calls_on m.socket calls));
}

-- so of each member of a session, by place
abbrev pub members_told : List Layer → Ready → Course → List MemberLog
members_told shelf ready c = map (λ m. told_of m c.exchange) (members_after shelf ready c.race c.answer)

-- What a log tells of a session behind its plan: the items up to the answer, the answer, if there is a line of one, the
-- items after it, what the members sent and heard, and the outcome.
pub record Held : Type 0 where
  pub before : List Item
  pub answer : Option RaceAnswer
  pub after : List Item
  pub members : List MemberLog
  pub outcome : lines.Outcome

-- the log: the text of the plan, and what is told
unfoldable pub log_of : List ℕ → Option ℕ → Held → List ℕ
log_of plan part s = plan ++ log_lines (reverse s.before) s.answer (reverse s.after) part s.members s.outcome

-- the status of a session that ended so
abbrev pub status_of_outcome : lines.Outcome → Status
status_of_outcome line.Done = status.Done
status_of_outcome (line.Expired member number) = status.Exchange
status_of_outcome line.Timed = status.Exchange
status_of_outcome (line.DataFailed cause) = status.Exchange
status_of_outcome line.PeerEnded = status.Exchange
status_of_outcome (line.BadFrame message layer place) = status.Exchange
status_of_outcome (line.NotSpeakable member number layer) = status.Exchange
status_of_outcome (line.CloneLimit limit) = status.Exchange
status_of_outcome line.CloneAllFailed = status.Exchange
status_of_outcome line.CloneTimeout = status.Exchange
status_of_outcome line.SocketFault = status.SocketFault

-- the status of a session: that of its outcome, unless an answer that names no winner ended it
abbrev pub status_after : Option RaceAnswer → lines.Outcome → Status
status_after None o = status_of_outcome o
status_after (Some (answers.Ready leaf socket at)) o = status_of_outcome o
status_after (Some answers.NoCandidate) o = status.Establishment
status_after (Some answers.AllFailed) o = status.Establishment
status_after (Some answers.Timeout) o = status.Establishment
status_after (Some answers.Closed) o = status.Closed
status_after (Some answers.SocketFault) o = status.SocketFault

-- what is told of a session of Initiate
abbrev pub held_of : List Layer → Ready → Course → Held
held_of shelf ready c = record {
  before = c.race;
  answer = Some c.answer;
  after = items_of (closing c.answer ++ c.exchange);
  members = members_told shelf ready c;
  outcome = outcome_told c.outcome;
}

-- its log
abbrev pub log_text : List Layer → Ready → Course → List ℕ
log_text shelf ready c =
    log_of (text_of ready.pre (initiated ready)) ready.pre.exchange.part (held_of shelf ready c)

-- its status
abbrev pub status_by : Course → Status
status_by c = status_after (Some c.answer) (outcome_told c.outcome)

-- the exchange of each member says in other words what it wrote, why it ended so, and which items it added
abbrev pub AreJudged : List Member → List Call → Outcome → Type 0
AreJudged [] calls o = Unit {0}
AreJudged (m ∷ members) calls o = IsJudged m (calls_on m.socket calls) o × AreJudged members calls o

-- no call on a member's socket tells a time before an earlier one
abbrev pub DoTimesRise : List Member → List Call → Type 0
DoTimesRise [] calls = Unit {0}
DoTimesRise (m ∷ members) calls = TimesRise (calls_on m.socket calls) × DoTimesRise members calls

-- What is seen of the sockets after a session: its items behind those before, one timed call more where the outcome is
-- Timed and else none, and a fault that was counted where the race was faulted. What its calls wrote and read are, where
-- observable, the bytes of the members' sockets.
pub record IsSeen (shelf : List Layer) (ready : Ready) (c : Course) (before after : Net) : Type 0 where
  pub items : after.trace ≡ items_of (closing c.answer) ++ (items_of c.exchange ++ (c.race ++ before.trace))
  pub timed : after.timed ≡ count_by c.outcome before.timed
  pub fault : c.answer ≡ answers.SocketFault → Rose before.faults after.faults
  pub judged : AreJudged (members_after shelf ready c.race c.answer) c.exchange c.outcome
  pub times_rise : DoTimesRise (members_after shelf ready c.race c.answer) c.exchange
  pub observed : AreObserved after (members_after shelf ready c.race c.answer) c.exchange

-- a session of Initiate ran on sockets of which no call had been made, and this is told of it
pub record IsHeld (shelf : List Layer) (ready : Ready) (s : Held) (old new : SocketsState) : Type 0 where
  pub course : Course
  pub calls : new.calls ≡ calls_of course
  pub session : IsSessionOf shelf ready course
  pub seen : IsSeen shelf ready course old.net new.net
  pub kept : s ≡ held_of shelf ready course

-- no call was made, though room for items may have been
abbrev pub LeavesUncalled : SocketsState → SocketsState → Type 0
LeavesUncalled old new = new ≡ record old { net = with_spare old.net new.net.spare }

-- so it is; or the calls are those of a session over the plan, or its first ones and then the closes
abbrev pub LeavesSession : List Layer → Ready → SocketsState → SocketsState → Type 0
LeavesSession shelf ready old new = LeavesUncalled old new ⊎ IsBegunSession shelf ready new.calls

-- a session ran of which this is told, or memory ran out; what the sockets are then, of which each that was given is
-- closed once
pub record Holds (Tells : Held → SocketsState → SocketsState → Type 0) (MayLeave : SocketsState → SocketsState → Type 0)
    (result : Result Held NoMemory) (old new : SocketsState) : Type 0 where
  pub held : IfOk result (λ s. Tells s old new)
  pub leaves : MayLeave old new
  pub closed_once : IsClosedOnce new.net.trace

-- a session ran; this is its log, behind the text of a plan, and its status
pub record IsLogged (Tells : Held → SocketsState → SocketsState → Type 0) (plan : List ℕ) (part : Option ℕ)
    (old new : SocketsState) (text : List ℕ) (s : Status) : Type 0 where
  pub held : Held
  pub ran : Tells held old new
  pub log : text ≡ log_of plan part held
  pub status : s ≡ status_after held.answer held.outcome

-- so it is of a session of Initiate
abbrev pub IsLoggedOn : List Layer → Ready → SocketsState → SocketsState → List ℕ → Status → Type 0
IsLoggedOn shelf ready =
    IsLogged (IsHeld shelf ready) (text_of ready.pre (initiated ready)) ready.pre.exchange.part

abbrev pub HoldsSession : List Layer → Ready → Result Held NoMemory → SocketsState → SocketsState → Type 0
HoldsSession shelf ready = Holds (IsHeld shelf ready) (LeavesSession shelf ready)
