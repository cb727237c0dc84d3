-- What `sim FILE SCRIPT` writes.
use Rattle.std.specs.Prelude.{◌≡◌, ◌≤◌, ℕ, List, [], ◌∷◌, Ok, codes, length}
use Rattle.taps_base.specs.Files.{Contents, IsContent}
use Rattle.taps_base.specs.Sinks.{SinkState}
use Rattle.taps_base.specs.declared.sink.SinkAnswer.TheVariants as answers
use Rattle.taps_framer.specs.Layers.{Layer}
use Rattle.taps_script.specs.Scripts.{script_of}
use Rattle.taps_script.specs.declared.line.Line.{Line}
use Rattle.taps_command.specs.Checks.{checked, most_bytes}
use Rattle.taps_command.specs.Meanings.{HasText}
use Rattle.taps_command.specs.Ready.{Ready}
use Rattle.taps_command.specs.Runs.{Takes}
use Rattle.taps_session.specs.ScriptedSessions.{IsSimulatedSession}
use Rattle.taps_app.specs.Sim.{sim_rules}
use Rattle.taps_command.specs.declared.status.Status.{Status}

-- FILE's and SCRIPT's bytes, where observable, pass their checks, and where the sink's bytes are observable too, what
-- it took is the log of the one session over the plan each call of which is what the script answers
pub record IsSimulation (shelf : List Layer) (contents : Contents)
    (file script : List ℕ) (out out' : SinkState) (s : Status) : Type 0 where
  pub bytes : List ℕ
  pub content : IsContent contents file bytes
  pub fits : length bytes ≤ most_bytes
  pub ready : Ready
  pub passes : checked sim_rules shelf bytes ≡ Ok ready
  pub script_bytes : List ℕ
  pub script_content : IsContent contents script script_bytes
  pub script_fits : length script_bytes ≤ most_bytes
  pub lines : List Line
  pub script_passes : script_of script_bytes ≡ Ok lines
  pub text : List ℕ
  pub simulated : IsSimulatedSession shelf ready lines text s
  pub takes : Takes answers.Taken out out' text

-- so it is for each status that has a text
abbrev pub IsSimulationOf : List Layer → List (List ℕ) → Contents → SinkState → SinkState → Status → Type 0
IsSimulationOf shelf words contents out out' s =
    (file script : List ℕ) → words ≡ codes "sim" ∷ file ∷ script ∷ []
    → HasText s → IsSimulation shelf contents file script out out' s
