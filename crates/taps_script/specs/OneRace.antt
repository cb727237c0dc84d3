-- A script determines its race, behind any earlier calls.
use Rattle.std.specs.Prelude.{◌≡◌, ℕ, List, ◌++◌}
use Rattle.taps_stack.specs.declared.target.Target.{Target}
use Rattle.taps_socket.specs.declared.item.Item.{Item}
use Rattle.taps_socket.specs.declared.race_answer.RaceAnswer.{RaceAnswer}
use Rattle.taps_socket.specs.Rules.{Rules}
use Rattle.taps_socket.specs.LawfulRace.{IsLawfulRace}
use Rattle.taps_socket.specs.Calls.{Call, AddEach}
use Rattle.taps_script.specs.declared.line.Line.{Line}
use Rattle.taps_script.specs.ScriptSteps.{Follows}

-- these items are a lawful race with this answer, each call added one of them, and each is what the script answers
-- behind the earlier ones
pub record IsScriptedRace (lines : List Line) (rules : Rules) (first : ℕ) (targets : List Target)
    (earlier calls : List Call) (race : List Item) (answer : RaceAnswer) : Type 0 where
  pub lawful : IsLawfulRace rules first targets race answer
  pub each : AddEach calls race
  pub follows : Follows lines (calls ++ earlier)

-- two such races are the same
abbrev pub GoesOneWay : List Line → Type 0
GoesOneWay lines = (rules : Rules) (first : ℕ) (targets : List Target)
    (earlier calls others : List Call) (race other : List Item) (answer another : RaceAnswer) →
    IsScriptedRace lines rules first targets earlier calls race answer →
    IsScriptedRace lines rules first targets earlier others other another →
    (others ≡ calls) × (other ≡ race) × (another ≡ answer)
