-- What the output and the error output received, by the status of the program (local).
use Rattle.std.specs.Prelude.{◌≡◌, ◌⊎◌, ℕ, List, ⊤}
use Rattle.taps_base.specs.Sinks.{SinkState, Receives}
use Rattle.taps_base.specs.declared.sink.SinkAnswer.{SinkAnswer}
use Rattle.taps_base.specs.declared.sink.SinkAnswer.TheVariants.{Taken, Failed}
use Rattle.taps_command.specs.Asked.{Asked, IsNoCommand}
use Rattle.taps_command.specs.Meanings.{HasText}
use Rattle.taps_command.specs.Runs.{Takes}
use Rattle.taps_command.specs.declared.status.Status.{Status}
use Rattle.taps_command.specs.declared.status.Status.TheVariants as status

-- a sink received at most one write
abbrev pub IsWrittenAtMostOnce : SinkState → SinkState → Type 0
IsWrittenAtMostOnce old new = (new ≡ old) ⊎ ((answer : SinkAnswer) × (text : List ℕ) × Receives answer old new text)

-- a status with which nothing is written to the output
abbrev pub HasNoText : Status → Type 0
HasNoText status.Usage = ⊤
HasNoText status.Refused = ⊤
HasNoText status.FileFault = ⊤
HasNoText status.NoMemory = ⊤
HasNoText _ = ⊥

-- only_usage, usage: the status is Usage if and only if there is no such command, but for out of memory.
-- text: a text was written whole, by one write or none where it is empty.
-- sink_fault: the one write of a text failed, and the count of faults rose.
-- no_text, out_once, err_once: otherwise nothing is written to the output; each sink received at most one write.
pub record IsWritten (asks : Asked) (out out' err err' : SinkState) (s : Status) : Type 0 where
  pub only_usage : s ≡ status.Usage → IsNoCommand asks
  pub usage : IsNoCommand asks → (s ≡ status.Usage) ⊎ (s ≡ status.NoMemory)
  pub text : HasText s → (text : List ℕ) × Takes Taken out out' text
  pub sink_fault : s ≡ status.SinkFault → (text : List ℕ) × Receives Failed out out' text
  pub no_text : HasNoText s → out' ≡ out
  pub out_once : IsWrittenAtMostOnce out out'
  pub err_once : IsWrittenAtMostOnce err err'
