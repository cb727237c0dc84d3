-- The session that a script determines.
use Rattle.std.specs.Prelude.{◌≡◌, ℕ, Bool, true, false, List}
use Rattle.taps_framer.specs.Layers.{Layer}
use Rattle.taps_script.specs.ScriptSteps.{Follows}
use Rattle.taps_script.specs.declared.line.Line.{Line}
use Rattle.taps_command.specs.Ready.{Ready}
use Rattle.taps_command.specs.declared.status.Status.{Status}
use Rattle.taps_session.specs.FileGroups.{has_one_member}
use Rattle.taps_session.specs.Groups as groups
use Rattle.taps_session.specs.Groups.{GroupedCourse, IsGroupedSession}
use Rattle.taps_session.specs.GroupLogs.{IsJudgedBehind, log_text_of_group, status_by_group}
use Rattle.taps_session.specs.Sessions.{Course, calls_of, members_after, IsSessionOf}
use Rattle.taps_session.specs.SessionLogs.{AreJudged, DoTimesRise, log_text, status_by}

-- a session over the plan, each call of which is what the script answers behind the earlier ones
pub record IsScriptedSession (shelf : List Layer) (ready : Ready) (lines : List Line) (c : Course) : Type 0 where
  pub session : IsSessionOf shelf ready c
  pub follows : Follows lines (calls_of c)

-- this is the log and the status of the one session that goes by the script
pub record IsSimulated (shelf : List Layer) (ready : Ready) (lines : List Line) (text : List ℕ)
    (s : Status) : Type 0 where
  pub course : Course
  pub scripted : IsScriptedSession shelf ready lines course
  pub only : (other : Course) → IsScriptedSession shelf ready lines other → other ≡ course
  pub judged : AreJudged (members_after shelf ready course.race course.answer) course.exchange course.outcome
  pub times_rise : DoTimesRise (members_after shelf ready course.race course.answer) course.exchange
  pub log : text ≡ log_text shelf ready course
  pub status : s ≡ status_by course

-- a session of a group over the plan, each call of which is what the script answers behind the earlier ones
pub record IsScriptedGroup (shelf : List Layer) (ready : Ready) (lines : List Line) (c : GroupedCourse) : Type 0 where
  pub session : IsGroupedSession shelf ready c
  pub follows : Follows lines (groups.calls_of c)

-- this is the log and the status of the one session of a group that goes by the script
pub record IsGroupSimulated (shelf : List Layer) (ready : Ready) (lines : List Line) (text : List ℕ)
    (s : Status) : Type 0 where
  pub course : GroupedCourse
  pub scripted : IsScriptedGroup shelf ready lines course
  pub only : (other : GroupedCourse) → IsScriptedGroup shelf ready lines other → other ≡ course
  pub judged : IsJudgedBehind shelf ready course.race course.behind
  pub log : text ≡ log_text_of_group shelf ready course
  pub status : s ≡ status_by_group course

-- with one member, or of a group
abbrev pub IsSimulatedBy : Bool → List Layer → Ready → List Line → List ℕ → Status → Type 0
IsSimulatedBy true shelf ready lines text s = IsSimulated shelf ready lines text s
IsSimulatedBy false shelf ready lines text s = IsGroupSimulated shelf ready lines text s

-- as the file says
abbrev pub IsSimulatedSession : List Layer → Ready → List Line → List ℕ → Status → Type 0
IsSimulatedSession shelf ready lines text s = IsSimulatedBy (has_one_member ready.pre) shelf ready lines text s
