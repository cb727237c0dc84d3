-- The log of a session of a group, its status, and what is seen of it.
use Rattle.std.specs.Prelude.{◌≡◌, ℕ, List, [], ◌∷◌, ◌++◌, map, Option, Some, None, Result}
use Rattle.taps_base.specs.Counts.{Rose}
use Rattle.taps_base.specs.declared.no_memory.NoMemory.{NoMemory}
use Rattle.taps_framer.specs.Layers.{Layer}
use Rattle.taps_socket.specs.declared.item.Item.{Item}
use Rattle.taps_socket.specs.declared.race_answer.RaceAnswer.TheVariants as answers
use Rattle.taps_socket.specs.Calls.{Call, items_of}
use Rattle.taps_socket.specs.Net.{Net}
use Rattle.taps_socket.specs.Once.{IsOnce}
use Rattle.taps_socket.specs.RaceTrace.{last_moment}
use Rattle.taps_socket.specs.Sides.{carries_stream}
use Rattle.taps_exchange.specs.declared.outcome.Outcome.{Outcome}
use Rattle.taps_exchange.specs.Members.{calls_on}
use Rattle.taps_exchange.specs.Turns.{Place}
use Rattle.taps_group_exchange.specs.declared.outcome.GroupOutcome.{GroupOutcome}
use Rattle.taps_group_exchange.specs.declared.outcome.GroupOutcome.TheVariants as ends
use Rattle.taps_group_exchange.specs.GroupExchanges.{MemberTold, sockets_in}
use Rattle.taps_group_exchange.specs.GroupSessions.{GroupCourse, places_after, sockets_by}
use Rattle.taps_group_exchange.specs.MemberLaws.{EachOwn, HasMemberCause}
use Rattle.taps_cloning.specs.Holding.{count_with, members_told}
use Rattle.taps_text.specs.MemberLines.{MemberLog}
use Rattle.taps_text.specs.declared.outcome.Outcome as lines
use Rattle.taps_text.specs.declared.outcome.Outcome.TheVariants as line
use Rattle.taps_command.specs.Nets.{SocketsState}
use Rattle.taps_command.specs.Ready.{Ready}
use Rattle.taps_command.specs.declared.status.Status.{Status}
use Rattle.taps_session.specs.FileGroups.{group_of}
use Rattle.taps_session.specs.FileSessions.{initiated, text_of}
use Rattle.taps_session.specs.Groups.{GroupBehind, GroupedCourse, calls_behind, calls_of, IsGroupedSession, LeavesGrouped}
use Rattle.taps_session.specs.Observed.{ShowsBytes}
use Rattle.taps_session.specs.SessionLogs.{Held, Holds, log_of, outcome_told, status_after}

-- the outcome of a session whose group ended so
abbrev pub outcome_with : GroupOutcome → lines.Outcome
outcome_with (ends.Exchanged o) = outcome_told o
outcome_with (ends.CloneLimit limit) = line.CloneLimit limit
outcome_with ends.CloneAllFailed = line.CloneAllFailed
outcome_with ends.CloneTimeout = line.CloneTimeout
outcome_with ends.SocketFault = line.SocketFault

abbrev pub outcome_behind : Option GroupBehind → lines.Outcome
outcome_behind None = line.Done
outcome_behind (Some b) = outcome_with b.course.outcome

-- what a member sent and heard, as it is told
abbrev pub log_by : MemberTold → MemberLog
log_by m = record { sent = m.sent; heard = m.heard }

-- what the members of the group sent and heard, by place, if there was one behind this race
abbrev pub members_behind : List Layer → Ready → List Item → Option GroupBehind → List MemberLog
members_behind shelf ready race None = []
members_behind shelf ready race (Some b) =
    map log_by (members_told (group_of shelf ready b.target) b.socket (last_moment race) b.course)

-- what is told of a session of a group
abbrev pub held_of_group : List Layer → Ready → GroupedCourse → Held
held_of_group shelf ready c = record {
  before = c.race;
  answer = Some c.answer;
  after = items_of (calls_behind c.behind);
  members = members_behind shelf ready c.race c.behind;
  outcome = outcome_behind c.behind;
}

-- its log
abbrev pub log_text_of_group : List Layer → Ready → GroupedCourse → List ℕ
log_text_of_group shelf ready c =
    log_of (text_of ready.pre (initiated ready)) ready.pre.exchange.part (held_of_group shelf ready c)

-- its status
abbrev pub status_by_group : GroupedCourse → Status
status_by_group c = status_after (Some c.answer) (outcome_behind c.behind)

-- one timed call more where the exchange of the group was timed, and else none
abbrev pub count_behind : Option GroupBehind → ℕ → ℕ
count_behind None n = n
count_behind (Some b) n = count_with b.course.outcome n

-- what is seen as written and read on each of these sockets are the pieces that the calls wrote and read there
abbrev pub ShowBytesOf : Net → List ℕ → List Call → Type 0
ShowBytesOf after [] calls = Unit {0}
ShowBytesOf after (s ∷ sockets) calls =
    ShowsBytes (carries_stream after.trace s) (after.traffic s) (calls_on s calls) × ShowBytesOf after sockets calls

-- so it is on the sockets of the members
abbrev pub IsObservedBehind : Net → Option GroupBehind → Type 0
IsObservedBehind after None = Unit {0}
IsObservedBehind after (Some b) = ShowBytesOf after (sockets_by b.socket b.course.clones) (calls_behind (Some b))

-- The members' sockets are distinct. The calls on each one are those of its exchange alone, done or begun: what it wrote
-- are its messages, and which expired in time. The outcome of an exchange has its cause.
pub record AreJudgedMembers (places : List Place) (c : GroupCourse) : Type 0 where
  pub distinct : IsOnce (sockets_in places)
  pub own : EachOwn places c.exchange
  pub cause : (o : Outcome) → c.outcome ≡ ends.Exchanged o → HasMemberCause places c.exchange o

-- so it is of the group behind this race, if there was one
abbrev pub IsJudgedBehind : List Layer → Ready → List Item → Option GroupBehind → Type 0
IsJudgedBehind shelf ready race None = Unit {0}
IsJudgedBehind shelf ready race (Some b) =
    AreJudgedMembers (places_after (group_of shelf ready b.target) b.socket (last_moment race) b.course.clones) b.course

-- What is seen of the sockets after a session of a group: its items behind those before, one timed call more where the
-- exchange was timed and else none, and a fault that was counted where the race or a clone was faulted. What the members
-- wrote, and why the exchange ended so. What its calls wrote and read are, where observable, the bytes of their sockets.
pub record IsGroupSeen (shelf : List Layer) (ready : Ready) (c : GroupedCourse) (before after : Net) : Type 0 where
  pub items : after.trace ≡ items_of (calls_behind c.behind) ++ (c.race ++ before.trace)
  pub timed : after.timed ≡ count_behind c.behind before.timed
  pub fault : c.answer ≡ answers.SocketFault → Rose before.faults after.faults
  pub clone_fault : outcome_behind c.behind ≡ line.SocketFault → Rose before.faults after.faults
  pub judged : IsJudgedBehind shelf ready c.race c.behind
  pub observed : IsObservedBehind after c.behind

-- a session of a group ran on sockets of which no call had been made, and this is told of it
pub record IsGrouped (shelf : List Layer) (ready : Ready) (s : Held) (old new : SocketsState) : Type 0 where
  pub course : GroupedCourse
  pub calls : new.calls ≡ calls_of course
  pub session : IsGroupedSession shelf ready course
  pub seen : IsGroupSeen shelf ready course old.net new.net
  pub kept : s ≡ held_of_group shelf ready course

abbrev pub HoldsGrouped : List Layer → Ready → Result Held NoMemory → SocketsState → SocketsState → Type 0
HoldsGrouped shelf ready = Holds (IsGrouped shelf ready) (LeavesGrouped shelf ready)
