-- What a command that reads no file writes, or why it writes nothing (local).
use Rattle.std.specs.Prelude.{◌≡◌, ◌⊎◌, ℕ, List, Result, Ok, Err, ⊤}
use Rattle.taps_base.specs.Counts.{Rose}
use Rattle.taps_base.specs.Sinks.{SinkState}
use Rattle.taps_base.specs.declared.sink.SinkAnswer.{SinkAnswer}
use Rattle.taps_base.specs.declared.sink.SinkAnswer.TheVariants as answers
use Rattle.taps_text.specs.ErrorLines.{refused_line, fault_line, output_fault_line, no_memory_line}
use Rattle.taps_text.specs.declared.refusal.Refusal.{Refusal}
use Rattle.taps_command.specs.Meanings.{HasText}
use Rattle.taps_command.specs.Runs.{Takes, status_of}
use Rattle.taps_command.specs.Telling.{Tells, MayTell}
use Rattle.taps_command.specs.declared.printed.Printed.{Printed}
use Rattle.taps_command.specs.declared.status.Status.{Status}
use Rattle.taps_command.specs.declared.status.Status.TheVariants as status
use Rattle.taps_command.specs.declared.stop.Stop.{Stop}
use Rattle.taps_command.specs.declared.stop.Stop.TheVariants.{Refused, FileFault, SinkFault, NoMemory}
use Rattle.taps_command.specs.declared.stop.Unready.{Unready}
use Rattle.taps_command.specs.declared.stop.Unready.TheVariants as unready

-- the name under which it is refused, the value that it makes or why there is none, and the text and status of a value
pub record Making : Type 1 where
  pub name : List ℕ
  pub Value : Type 0
  pub value : Result Value Refusal
  pub Prints : Value → List ℕ → Status → Type 0

-- a text and a status that its value has, or why there is no value; out of memory is free
abbrev pub Gives : (m : Making) → Result Printed Unready → Type 0
Gives m (Ok printed) = (value : m.Value) × (m.value ≡ Ok value)
    × m.Prints value printed.text.items printed.status × HasText printed.status
Gives m (Err (unready.Refused why)) = m.value ≡ Err why
Gives m (Err unready.NoMemory) = ⊤

-- there is a value, and the text that it has was written, with this answer
pub record IsWritten (m : Making) (answer : SinkAnswer) (out out' : SinkState) (s : Status) : Type 0 where
  pub value : m.Value
  pub made : m.value ≡ Ok value
  pub text : List ℕ
  pub prints : m.Prints value text s
  pub takes : Takes answer out out' text

-- the cause of each way to end, and what `out` receives
abbrev pub MakingEnds : (m : Making) → SinkState → SinkState → Result Status Stop → Type 0
MakingEnds m out out' (Ok s) = IsWritten m answers.Taken out out' s × HasText s
MakingEnds m out out' (Err (Refused place why)) = (m.value ≡ Err why) × (out' ≡ out)
MakingEnds m out out' (Err (FileFault place)) = ⊥
MakingEnds m out out' (Err SinkFault) = (s : Status) × IsWritten m answers.Failed out out' s
MakingEnds m out out' (Err NoMemory) = out' ≡ out

-- what `err` receives, under this name
abbrev pub SaysUnder : List ℕ → SinkState → SinkState → Result Status Stop → Type 0
SaysUnder name old new (Ok s) = new ≡ old
SaysUnder name old new (Err (Refused place why)) = MayTell old new (refused_line name why)
SaysUnder name old new (Err (FileFault place)) = MayTell old new (fault_line name)
SaysUnder name old new (Err SinkFault) = Tells old new output_fault_line
SaysUnder name old new (Err NoMemory) = Tells old new no_memory_line

-- how it ended, the cause of that with what `out` received, what `err` received, and the status
pub record IsMade (m : Making) (out out' err err' : SinkState) (s : Status) : Type 0 where
  pub ended : Result Status Stop
  pub cause : MakingEnds m out out' ended
  pub says : SaysUnder m.name err err' ended
  pub status : s ≡ status_of ended

-- a value, or its want, decides the status and the output, but for out of memory
pub record IsSettled (m : Making) (out out' : SinkState) (s : Status) : Type 0 where
  pub refused : (why : Refusal) → m.value ≡ Err why → (s ≡ status.Refused) ⊎ (s ≡ status.NoMemory)
  pub made : (value : m.Value) → m.value ≡ Ok value → ¬ Rose out.faults out'.faults
      → ((text : List ℕ) × m.Prints value text s × Takes answers.Taken out out' text) ⊎ (s ≡ status.NoMemory)
