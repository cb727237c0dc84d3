-- A session whose connection is one of a group, as the calls that are made on sockets (RFC 9622 sections 6, 7.4, 9 and
-- 10; what a file asks for is local). Calls and items stand with the newest one first.
use Rattle.std.specs.Prelude.{◌≡◌, ◌⊎◌, ℕ, List, [], ◌++◌, slice_get, Option, Some, None}
use Rattle.taps_framer.specs.Layers.{Layer}
use Rattle.taps_stack.specs.declared.target.Target.{Target}
use Rattle.taps_socket.specs.declared.item.Item.{Item}
use Rattle.taps_socket.specs.declared.race_answer.RaceAnswer.{RaceAnswer}
use Rattle.taps_socket.specs.declared.race_answer.RaceAnswer.TheVariants.{Ready}
use Rattle.taps_socket.specs.Calls.{Call, AddEach}
use Rattle.taps_socket.specs.LawfulRace.{IsLawfulRace}
use Rattle.taps_socket.specs.RaceTrace.{last_moment}
use Rattle.taps_group_exchange.specs.GroupSessions as groups
use Rattle.taps_group_exchange.specs.GroupSessions.{GroupCourse, IsCutGroup, IsGroupSession}
use Rattle.taps_command.specs.Nets.{SocketsState}
use Rattle.taps_command.specs.Ready as given
use Rattle.taps_session.specs.FileGroups.{group_of}
use Rattle.taps_session.specs.FileSessions.{rules_of, targets_of}
use Rattle.taps_session.specs.SessionLogs.{LeavesUncalled}

-- the group behind a race: the target that won, the socket of its first member, and its course
pub record GroupBehind : Type 0 where
  pub target : Target
  pub socket : ℕ
  pub course : GroupCourse

-- what came of a session: the calls of its race, which each added one of these items, the race's answer, and the group
-- behind it, if there was one
pub record GroupedCourse : Type 0 where
  pub raced : List Call
  pub race : List Item
  pub answer : RaceAnswer
  pub behind : Option GroupBehind

-- the group is that of the leaf that won, over its socket, and its session begins at the last time of the race
pub record IsGroupBehind (shelf : List Layer) (ready : given.Ready) (race : List Item) (leaf socket : ℕ)
    (b : GroupBehind) : Type 0 where
  pub target : slice_get (targets_of ready) leaf ≡ Some b.target
  pub first : b.socket ≡ socket
  pub session : IsGroupSession (group_of shelf ready b.target) b.socket (last_moment race) b.course

-- there is such a group
abbrev pub HasGroupBehind : List Layer → given.Ready → List Item → ℕ → ℕ → Option GroupBehind → Type 0
HasGroupBehind shelf ready race leaf socket None = ⊥
HasGroupBehind shelf ready race leaf socket (Some b) = IsGroupBehind shelf ready race leaf socket b

-- with a winner there is such a group, and without one none
abbrev pub IsGroupAfter : List Layer → given.Ready → List Item → Option GroupBehind → RaceAnswer → Type 0
IsGroupAfter shelf ready race behind (Ready leaf socket at) = HasGroupBehind shelf ready race leaf socket behind
IsGroupAfter shelf ready race behind _ = behind ≡ None

-- the calls of the group: the races of its clones, its exchange and the closes
abbrev pub calls_behind : Option GroupBehind → List Call
calls_behind None = []
calls_behind (Some b) = groups.calls_of b.socket b.course

-- all calls of a session: its race, and those of its group
abbrev pub calls_of : GroupedCourse → List Call
calls_of c = calls_behind c.behind ++ c.raced

-- a session of the role Initiate over a file's plan, with the framers of this shelf, of a group
pub record IsGroupedSession (shelf : List Layer) (ready : given.Ready) (c : GroupedCourse) : Type 0 where
  pub each : AddEach c.raced c.race
  pub lawful : IsLawfulRace (rules_of ready) 0 (targets_of ready) c.race c.answer
  pub group : IsGroupAfter shelf ready c.race c.behind c.answer

-- with a winner, the calls are those of the session of its group that memory cut short
pub record IsCutBehind (shelf : List Layer) (ready : given.Ready) (race : List Item) (leaf socket : ℕ)
    (calls : List Call) : Type 0 where
  pub target : Target
  pub won : slice_get (targets_of ready) leaf ≡ Some target
  pub cut : IsCutGroup (group_of shelf ready target) socket (last_moment race) calls

-- without one there are none
abbrev pub IsCutAfter : List Layer → given.Ready → List Item → List Call → RaceAnswer → Type 0
IsCutAfter shelf ready race calls (Ready leaf socket at) = IsCutBehind shelf ready race leaf socket calls
IsCutAfter shelf ready race calls _ = calls ≡ []

-- calls of a session that memory cut short: its race, what was begun of its group, and then the closes
pub record IsCutSession (shelf : List Layer) (ready : given.Ready) (calls : List Call) : Type 0 where
  pub raced : List Call
  pub race : List Item
  pub answer : RaceAnswer
  pub begun : List Call
  pub split : calls ≡ begun ++ raced
  pub each : AddEach raced race
  pub lawful : IsLawfulRace (rules_of ready) 0 (targets_of ready) race answer
  pub cut : IsCutAfter shelf ready race begun answer

-- all calls of a session
pub record IsWholeSession (shelf : List Layer) (ready : given.Ready) (calls : List Call) : Type 0 where
  pub course : GroupedCourse
  pub all : calls ≡ calls_of course
  pub session : IsGroupedSession shelf ready course

-- no call was made, though room for items may have been; or the calls are those of a session over the plan, or its first
-- ones and then the closes
abbrev pub LeavesGrouped : List Layer → given.Ready → SocketsState → SocketsState → Type 0
LeavesGrouped shelf ready old new =
    LeavesUncalled old new ⊎ (IsWholeSession shelf ready new.calls ⊎ IsCutSession shelf ready new.calls)
