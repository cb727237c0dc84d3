-- What follows a race in a session of a group, and how that ended.
use Rattle.std.specs.Prelude.{◌≡◌, ℕ, List, [], length, map, slice_get, Option, Some, None, Result, Ok, Err, IfOk}
use Rattle.taps_base.specs.declared.no_memory.NoMemory.{NoMemory}
use Rattle.taps_framer.specs.Layers.{Layer}
use Rattle.taps_stack.specs.declared.target.Target.{Target}
use Rattle.taps_socket.specs.declared.race_answer.RaceAnswer.{RaceAnswer}
use Rattle.taps_socket.specs.declared.race_answer.RaceAnswer.TheVariants as answers
use Rattle.taps_socket.specs.Calls.{Call}
use Rattle.taps_socket.specs.Net.{Net}
use Rattle.taps_group_exchange.specs.GroupExchanges.{told_by}
use Rattle.taps_group_exchange.specs.declared.told.Told.{Told}
use Rattle.taps_cloning.specs.Holding.{HasHeld, IsHeldGroup, IsCutHeld}
use Rattle.taps_cloning.specs.declared.held.HeldGroup.{HeldGroup}
use Rattle.taps_cloning.specs.declared.terms.Terms.{Terms}
use Rattle.taps_text.specs.MemberLines.{MemberLog}
use Rattle.taps_text.specs.declared.outcome.Outcome as lines
use Rattle.taps_text.specs.declared.outcome.Outcome.TheVariants as line
use Rattle.taps_command.specs.Nets.{SocketsState, IsClosedOnce}
use Rattle.taps_command.specs.Ready.{Ready}
use Rattle.taps_session.specs.FileGroups.{group_of}
use Rattle.taps_session.specs.Groups.{GroupedCourse, calls_of, IsGroupedSession, LeavesGrouped}
use Rattle.taps_session.specs.GroupLogs.{IsGroupSeen, log_by, members_behind, outcome_behind, outcome_with}
use Rattle.taps_session.specs.declared.grouping.GroupEnded.{GroupEnded}

-- what the group goes by, where this target won and the first clone's leaf has this number, besides its priorities and
-- messages
abbrev pub terms_by : Ready → Target → ℕ → Terms
terms_by ready target first = record {
  target = target;
  props = ready.pre.connection;
  clones = ready.pre.exchange.clones;
  leaf = first;
  timeout_ms = ready.pre.race.timeout_ms;
  expect = ready.pre.exchange.expect;
  piece = ready.pre.exchange.piece;
  deadline_ms = ready.pre.exchange.deadline_ms;
}

-- the session of this target's group was held over a socket, or memory cut it short
abbrev pub HoldsGroup : {N : Type 0} → (N → List Call → N → Type 0) → N → N → Net → Net → List Layer → Ready → Target →
    ℕ → Result HeldGroup NoMemory → Type 0
HoldsGroup Becomes before after net net' shelf ready target socket result =
    HasHeld Becomes before after net net' (group_of shelf ready target) socket result

-- so it is where there is a winner
abbrev pub WithGroup : {N : Type 0} → (N → List Call → N → Type 0) → N → N → Net → Net → List Layer → Ready → Target →
    ℕ → Result (Option HeldGroup) NoMemory → Type 0
WithGroup Becomes before after net net' shelf ready target socket (Ok (Some h)) =
    IsHeldGroup Becomes before after net net' (group_of shelf ready target) socket h.outcome h.members.items
WithGroup Becomes before after net net' shelf ready target socket (Ok None) = ⊥
WithGroup Becomes before after net net' shelf ready target socket (Err none) =
    IsCutHeld Becomes before after net (group_of shelf ready target) socket

-- of the leaf that won
pub record IsWithWinner {N : Type 0} (Becomes : N → List Call → N → Type 0) (before after : N) (net net' : Net)
    (shelf : List Layer) (ready : Ready) (targets : List Target) (leaf socket : ℕ)
    (result : Result (Option HeldGroup) NoMemory) : Type 0 where
  pub target : Target
  pub won : slice_get targets leaf ≡ Some target
  pub group : WithGroup Becomes before after net net' shelf ready target socket result

-- there was none, and no call was made
abbrev pub WithoutGroup : {N : Type 0} → (N → List Call → N → Type 0) → N → N → Net → Net →
    Result (Option HeldGroup) NoMemory → Type 0
WithoutGroup Becomes before after net net' (Ok (Some h)) = ⊥
WithoutGroup Becomes before after net net' (Ok None) = Becomes before [] after × (net' ≡ net)
WithoutGroup Becomes before after net net' (Err none) = ⊥

-- what follows a race with this answer
abbrev pub GroupGoesOn : {N : Type 0} → (N → List Call → N → Type 0) → N → N → Net → Net → List Layer → Ready →
    List Target → RaceAnswer → Result (Option HeldGroup) NoMemory → Type 0
GroupGoesOn Becomes before after net net' shelf ready targets (answers.Ready leaf socket won) result =
    IsWithWinner Becomes before after net net' shelf ready targets leaf socket result
GroupGoesOn Becomes before after net net' shelf ready targets answers.NoCandidate result =
    WithoutGroup Becomes before after net net' result
GroupGoesOn Becomes before after net net' shelf ready targets answers.AllFailed result =
    WithoutGroup Becomes before after net net' result
GroupGoesOn Becomes before after net net' shelf ready targets answers.Timeout result =
    WithoutGroup Becomes before after net net' result
GroupGoesOn Becomes before after net net' shelf ready targets answers.Closed result =
    WithoutGroup Becomes before after net net' result
GroupGoesOn Becomes before after net net' shelf ready targets answers.SocketFault result =
    WithoutGroup Becomes before after net net' result

-- what a member of a group that was held sent and heard
abbrev pub log_told : Told → MemberLog
log_told t = log_by (told_by t)

-- so of all members, if there was a group, and its outcome
abbrev pub logs_by : Option HeldGroup → List MemberLog
logs_by None = []
logs_by (Some h) = map log_told h.members.items

abbrev pub outcome_by : Option HeldGroup → lines.Outcome
outcome_by None = line.Done
outcome_by (Some h) = outcome_with h.outcome

-- a session ran: so many items are its race's, with this answer, and of its group, if there was one, this is known
pub record IsGroupEnded (shelf : List Layer) (ready : Ready) (e : GroupEnded) (old new : SocketsState) : Type 0 where
  pub course : GroupedCourse
  pub calls : new.calls ≡ calls_of course
  pub session : IsGroupedSession shelf ready course
  pub seen : IsGroupSeen shelf ready course old.net new.net
  pub raced : e.raced ≡ length course.race
  pub answer : e.answer ≡ course.answer
  pub members : logs_by e.held ≡ members_behind shelf ready course.race course.behind
  pub outcome : outcome_by e.held ≡ outcome_behind course.behind

-- a session ran, or memory ran out; and what the sockets are then
pub record EndsGrouped (shelf : List Layer) (ready : Ready) (result : Result GroupEnded NoMemory)
    (old new : SocketsState) : Type 0 where
  pub ended : IfOk result (λ e. IsGroupEnded shelf ready e old new)
  pub leaves : LeavesGrouped shelf ready old new
  pub closed_once : IsClosedOnce new.net.trace
