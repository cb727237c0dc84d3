-- `gen NUMBER` (local).
use Rattle.std.specs.Prelude.{◌≡◌, ℕ, Bool, true, false, List, [], ◌∷◌, Option, Some, None, Result, length, reverse, codes, bytes_eq, if◌then◌else◌}
use Rattle.taps_base.specs.Results.{◌>>=◌}
use Rattle.taps_framer.specs.Layers.{Layer}
use Rattle.taps_script.specs.ScriptNet.{Scripted}
use Rattle.taps_script.specs.ScriptReading.{number_of}
use Rattle.taps_script.specs.declared.line.Line.{Line}
use Rattle.taps_text.specs.Generated.{generated_file, generated_script}
use Rattle.taps_text.specs.MemberLines.{MemberLog}
use Rattle.taps_text.specs.Summary.{summary_lines}
use Rattle.taps_text.specs.declared.refusal.Refusal.{Refusal}
use Rattle.taps_command.specs.Checks.{first_value, second_value}
use Rattle.taps_command.specs.Makings.{Making}
use Rattle.taps_command.specs.Ready.{Ready}
use Rattle.taps_command.specs.declared.status.Status.{Status}
use Rattle.taps_command.specs.declared.two_files.TwoFiles.{TwoFiles}
use Rattle.taps_command.specs.declared.two_files.TwoFiles.TheVariants.{Nothing, File, Both}
use Rattle.taps_session.specs.FileGroups.{has_one_member}
use Rattle.taps_session.specs.FileSessions.{initiated}
use Rattle.taps_session.specs.GroupLogs.{IsJudgedBehind, members_behind, outcome_behind, status_by_group}
use Rattle.taps_session.specs.Groups.{GroupedCourse}
use Rattle.taps_session.specs.ScriptedSessions.{IsScriptedGroup, IsScriptedSession}
use Rattle.taps_session.specs.SessionLogs.{AreJudged, DoTimesRise, members_told, outcome_told, status_by}
use Rattle.taps_session.specs.Sessions.{Course, members_after}
use Rattle.taps_app.specs.Sim.{sim_rules, scripted}

-- the file and the script that the number generates, with the checks of `sim`
unfoldable pub generated : List Layer → ℕ → Result (TwoFiles Scripted) Refusal
generated shelf number =
    first_value sim_rules shelf (generated_file number)
    >>= λ file. second_value file (scripted (generated_script number))

-- how many messages the first member heard
abbrev pub received : List MemberLog → ℕ
received [] = 0
received (m ∷ members) = length m.heard

-- the summary of a session
unfoldable pub summary_text : List Layer → ℕ → Ready → Course → List ℕ
summary_text shelf number ready c =
    summary_lines number (length (initiated ready).leaves) (reverse c.race) (Some c.answer)
    (received (members_told shelf ready c)) (outcome_told c.outcome)

-- this is the summary and the status of the one session that goes by the script
pub record IsSummedUp (shelf : List Layer) (number : ℕ) (ready : Ready) (lines : List Line) (text : List ℕ)
    (s : Status) : Type 0 where
  pub course : Course
  pub scripted : IsScriptedSession shelf ready lines course
  pub only : (other : Course) → IsScriptedSession shelf ready lines other → other ≡ course
  pub judged : AreJudged (members_after shelf ready course.race course.answer) course.exchange course.outcome
  pub times_rise : DoTimesRise (members_after shelf ready course.race course.answer) course.exchange
  pub summary : text ≡ summary_text shelf number ready course
  pub status : s ≡ status_by course

-- the summary of a session of a group
unfoldable pub summary_text_of_group : List Layer → ℕ → Ready → GroupedCourse → List ℕ
summary_text_of_group shelf number ready c =
    summary_lines number (length (initiated ready).leaves) (reverse c.race) (Some c.answer)
    (received (members_behind shelf ready c.race c.behind)) (outcome_behind c.behind)

-- this is the summary and the status of the one session of a group that goes by the script
pub record IsGroupSummedUp (shelf : List Layer) (number : ℕ) (ready : Ready) (lines : List Line) (text : List ℕ)
    (s : Status) : Type 0 where
  pub course : GroupedCourse
  pub scripted : IsScriptedGroup shelf ready lines course
  pub only : (other : GroupedCourse) → IsScriptedGroup shelf ready lines other → other ≡ course
  pub judged : IsJudgedBehind shelf ready course.race course.behind
  pub summary : text ≡ summary_text_of_group shelf number ready course
  pub status : s ≡ status_by_group course

-- with one member, or of a group
abbrev pub IsSummedUpBy : Bool → List Layer → ℕ → Ready → List Line → List ℕ → Status → Type 0
IsSummedUpBy true shelf number ready lines text s = IsSummedUp shelf number ready lines text s
IsSummedUpBy false shelf number ready lines text s = IsGroupSummedUp shelf number ready lines text s

-- as the file says
abbrev pub IsSummedUpSession : List Layer → ℕ → Ready → List Line → List ℕ → Status → Type 0
IsSummedUpSession shelf number ready lines text s =
    IsSummedUpBy (has_one_member ready.pre) shelf number ready lines text s

abbrev pub PrintsSummary : List Layer → ℕ → TwoFiles Scripted → List ℕ → Status → Type 0
PrintsSummary shelf number Nothing text s = ⊥
PrintsSummary shelf number (File ready) text s = ⊥
PrintsSummary shelf number (Both ready sockets) text s =
    IsSummedUpSession shelf number ready sockets.lines text s

-- of the generated file and script the summary is written
abbrev pub gen : List Layer → ℕ → Making
gen shelf number = record {
  name = codes "gen";
  Value = TwoFiles Scripted;
  value = generated shelf number;
  Prints = PrintsSummary shelf number;
}

-- the number, if the arguments are `gen` and one
abbrev pub number_asked : List ℕ → List (List ℕ) → Option ℕ
number_asked word (text ∷ []) = if bytes_eq word (codes "gen") then number_of text else None
number_asked word _ = None
