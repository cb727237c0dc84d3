-- `sim FILE SCRIPT` (local).
use Rattle.std.specs.Prelude.{◌≡◌, ℕ, List, [], ◌∷◌, Result, Ok, Err}
use Rattle.taps_framer.specs.Layers.{Layer}
use Rattle.taps_script.specs.ScriptNet.{Scripted, at_first}
use Rattle.taps_script.specs.Scripts.{script_of}
use Rattle.taps_script.specs.declared.line.Line.{Line}
use Rattle.taps_text.specs.declared.refusal.Refusal.{Refusal}
use Rattle.taps_text.specs.declared.refusal.Refusal.TheVariants as refusal
use Rattle.taps_command.specs.Checks.{FileRules, addresses_for, first_file, second_file, most_bytes}
use Rattle.taps_command.specs.Meanings.{Meaning}
use Rattle.taps_session.specs.ScriptedSessions.{IsSimulatedSession}
use Rattle.taps_command.specs.declared.status.Status.{Status}
use Rattle.taps_command.specs.declared.two_files.TwoFiles.{TwoFiles}
use Rattle.taps_command.specs.declared.two_files.TwoFiles.TheVariants.{Nothing, File, Both}

-- the addresses of its remotes are derived
abbrev pub sim_rules : FileRules
sim_rules = record { addresses = addresses_for }

-- the sockets of these lines before the first call, or the number of the first bad line
abbrev pub or_bad_line : Result (List Line) ℕ → Result Scripted Refusal
or_bad_line (Ok lines) = Ok (at_first lines)
or_bad_line (Err number) = Err (refusal.Script number)

-- the checks of SCRIPT, which is not too long
unfoldable pub scripted : List ℕ → Result Scripted Refusal
scripted bytes = or_bad_line (script_of bytes)

-- the log of the one session that goes by the script
abbrev pub PrintsSimulation : List Layer → TwoFiles Scripted → List ℕ → Status → Type 0
PrintsSimulation shelf Nothing text s = ⊥
PrintsSimulation shelf (File ready) text s = ⊥
PrintsSimulation shelf (Both ready sockets) text s = IsSimulatedSession shelf ready sockets.lines text s

-- two files, of which the simulation is written; the sockets are not used
abbrev pub sim : List Layer → Meaning
sim shelf = record {
  Value = TwoFiles Scripted;
  start = Nothing;
  readings = first_file sim_rules shelf ∷ second_file most_bytes scripted ∷ [];
  Prints = λ value old new text s. PrintsSimulation shelf value text s;
  MayLeave = λ value old new. new ≡ old;
}

-- sockets of which no call was made
abbrev pub AreAtFirst : Scripted → Type 0
AreAtFirst sockets = sockets ≡ at_first sockets.lines
