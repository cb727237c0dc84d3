-- What `gen NUMBER` writes.
use Rattle.std.specs.Prelude.{◌≡◌, ℕ, List, [], ◌∷◌, Some, Ok, codes}
use Rattle.taps_base.specs.Sinks.{SinkState}
use Rattle.taps_base.specs.declared.sink.SinkAnswer.TheVariants as answers
use Rattle.taps_framer.specs.Layers.{Layer}
use Rattle.taps_script.specs.ScriptReading.{number_of}
use Rattle.taps_script.specs.Scripts.{script_of}
use Rattle.taps_script.specs.declared.line.Line.{Line}
use Rattle.taps_text.specs.Generated.{generated_file, generated_script}
use Rattle.taps_command.specs.Checks.{checked}
use Rattle.taps_command.specs.Meanings.{HasText}
use Rattle.taps_command.specs.Ready.{Ready}
use Rattle.taps_command.specs.Runs.{Takes}
use Rattle.taps_command.specs.declared.status.Status.{Status}
use Rattle.taps_app.specs.Gen.{IsSummedUpSession}
use Rattle.taps_app.specs.Sim.{sim_rules}

-- the file and the script that the number generates pass the checks of `sim`, and where the sink's bytes are
-- observable, what it took is the summary of the one session over the plan each call of which is what the script answers
pub record IsGeneration (shelf : List Layer) (number : ℕ) (out out' : SinkState) (s : Status) : Type 0 where
  pub ready : Ready
  pub passes : checked sim_rules shelf (generated_file number) ≡ Ok ready
  pub lines : List Line
  pub script_passes : script_of (generated_script number) ≡ Ok lines
  pub text : List ℕ
  pub summed_up : IsSummedUpSession shelf number ready lines text s
  pub takes : Takes answers.Taken out out' text

-- so it is for each status that has a text
abbrev pub IsGenerationOf : List Layer → List (List ℕ) → SinkState → SinkState → Status → Type 0
IsGenerationOf shelf words out out' s = (text : List ℕ) (number : ℕ) → words ≡ codes "gen" ∷ text ∷ []
    → number_of text ≡ Some number → HasText s → IsGeneration shelf number out out' s
