-- A script admits a race, behind any earlier calls after which no socket is pending.
use Rattle.std.specs.Prelude.{◌≡◌, ℕ, List, [], length}
use Rattle.taps_stack.specs.declared.target.Target.{Target}
use Rattle.taps_socket.specs.declared.item.Item.{Item}
use Rattle.taps_socket.specs.declared.race_answer.RaceAnswer.{RaceAnswer}
use Rattle.taps_socket.specs.RaceSockets.{pending_sockets}
use Rattle.taps_socket.specs.Rules.{Rules}
use Rattle.taps_socket.specs.Calls.{Call}
use Rattle.taps_script.specs.declared.line.Line.{Line}
use Rattle.taps_script.specs.OneRace.{IsScriptedRace}
use Rattle.taps_script.specs.ScriptNet.{Scripted, Represents}

-- there is a lawful race, with its answer, whose calls the script answers so
abbrev pub GoesSomeWay : List Line → Rules → ℕ → List Target → List Call → Type 0
GoesSomeWay lines rules first targets earlier =
    (calls : List Call) × (race : List Item) × (answer : RaceAnswer)
    × IsScriptedRace lines rules first targets earlier calls race answer

-- so it is under all rules that have a gap for each target
abbrev pub GoesUnderAllRules : List Line → List Call → Type 0
GoesUnderAllRules lines earlier =
    (rules : Rules) (first : ℕ) (targets : List Target) → length rules.gaps ≡ length targets →
    GoesSomeWay lines rules first targets earlier

-- and so after all calls that the sockets represent, where no socket is pending
abbrev pub GoesOnFrom : Scripted → Type 0
GoesOnFrom sockets = (earlier : List Call) → Represents sockets earlier
    → pending_sockets sockets.trace ≡ [] → GoesUnderAllRules sockets.lines earlier
