-- What is asked for, and what is promised of any command.
use Rattle.std.specs.Prelude.{◌≡◌, ◌⊎◌, ◌==◌, ℕ, Bool, true, false, List, Option, Some, Result, length, ⊤}
use Rattle.taps_base.specs.Counts.{Rose}
use Rattle.taps_base.specs.Files.{Contents, FilesState}
use Rattle.taps_base.specs.Sinks.{SinkState}
use Rattle.taps_base.specs.declared.sink.SinkAnswer.TheVariants as answers
use Rattle.taps_text.specs.ErrorLines.{usage_line}
use Rattle.taps_text.specs.declared.refusal.Refusal.{Refusal}
use Rattle.taps_command.specs.Makings.{Making, IsMade, IsSettled}
use Rattle.taps_command.specs.Meanings.{Meaning}
use Rattle.taps_command.specs.Nets.{SocketsState, IsClosedOnce}
use Rattle.taps_command.specs.Runs.{World, world, Ends, Says, Takes, Passes, IsRefused, IsLawful, more, status_of}
use Rattle.taps_command.specs.Telling.{Tells}
use Rattle.taps_command.specs.declared.status.Status.{Status}
use Rattle.taps_command.specs.declared.status.Status.TheVariants as status
use Rattle.taps_command.specs.declared.stop.Stop.{Stop}

-- no such command, the command that means this, with these names of files, or one that reads none and makes this
pub data Asked : Type 1 where
  NoCommand : Asked
  Asks : Meaning → List (List ℕ) → Asked
  Makes : Making → Asked

-- the command with these names of files, if it is one
abbrev pub asked_if : Bool → Meaning → List (List ℕ) → Asked
asked_if true m names = Asks m names
asked_if false m names = NoCommand

-- a command has as many names as it reads files
abbrev pub asked : Meaning → List (List ℕ) → Asked
asked m names = asked_if (length names == length m.readings) m names

-- nothing is asked for
abbrev pub IsNoCommand : Asked → Type 0
IsNoCommand NoCommand = ⊤
IsNoCommand (Asks m names) = ⊥
IsNoCommand (Makes m) = ⊥

-- how a command ended, the cause of that with what `out` received, what `err` received, and the status
pub record HasCause (m : Meaning) (names : List (List ℕ))
    (old new : World) (err err' : SinkState) (s : Status) : Type 0 where
  pub fits : length names ≡ length m.readings
  pub ended : Result Status Stop
  pub cause : Ends m names old new ended
  pub says : Says names err err' ended
  pub status : s ≡ status_of ended

-- no such command: nothing was touched but `err`
pub record IsUsage (old new : World) (err err' : SinkState) (s : Status) : Type 0 where
  pub status : s ≡ status.Usage
  pub untouched : new ≡ old
  pub tells : Tells err err' usage_line

-- a command that reads no file: files and sockets were not touched
pub record IsMaking (m : Making) (old new : World) (err err' : SinkState) (s : Status) : Type 0 where
  pub files : new.files ≡ old.files
  pub sockets : new.sockets ≡ old.sockets
  pub made : IsMade m old.out new.out err err' s

-- the cause of the status, and what both sinks received
abbrev pub IsByCause : Asked → World → World → SinkState → SinkState → Status → Type 0
IsByCause NoCommand old new err err' s = IsUsage old new err err' s
IsByCause (Asks m names) old new err err' s = HasCause m names old new err err' s
IsByCause (Makes m) old new err err' s = IsMaking m old new err err' s

-- how many reads are made at most
abbrev pub most_reads : Asked → ℕ → ℕ
most_reads NoCommand reads = reads
most_reads (Asks m names) reads = more (length m.readings) reads
most_reads (Makes m) reads = reads

-- what the sockets are at the end
abbrev pub LeavesLawful : Asked → Contents → SocketsState → SocketsState → Type 0
LeavesLawful NoCommand contents old new = new ≡ old
LeavesLawful (Asks m names) contents old new = IsLawful m names contents old new
LeavesLawful (Makes m) contents old new = new ≡ old

-- where the contents are observable and no count of faults rose, they decide the status and the output, but for out of
-- memory
pub record IsDecided (m : Meaning) (names : List (List ℕ))
    (held : List ℕ → Option (List ℕ)) (old new : World) (s : Status) : Type 0 where
  pub refused : (place : ℕ) (why : Refusal) → IsRefused m (Some held) names place why
      → ¬ Rose old.files.faults new.files.faults
      → (s ≡ status.Refused) ⊎ (s ≡ status.NoMemory)
  pub passed : (value : m.Value) → Passes m (Some held) names value
      → ¬ Rose old.files.faults new.files.faults → ¬ Rose old.out.faults new.out.faults
      → ((text : List ℕ) × m.Prints value old.sockets new.sockets text s × Takes answers.Taken old.out new.out text)
      ⊎ (s ≡ status.NoMemory)

-- where the contents are observable, they decide how the command ended
abbrev pub IsComplete : Asked → World → World → Status → Type 0
IsComplete NoCommand old new s = ⊤
IsComplete (Asks m names) old new s =
    (held : List ℕ → Option (List ℕ)) → old.files.contents ≡ Some held → IsDecided m names held old new s
IsComplete (Makes m) old new s = IsSettled m old.out new.out s

-- what is kept of the command that was called
pub record IsRun (asks : Asked) (old new : World) (err err' : SinkState) (s : Status) : Type 0 where
  pub cause : IsByCause asks old new err err' s
  pub lawful : LeavesLawful asks old.files.contents old.sockets new.sockets

-- what is kept of it where the sockets were so before and after, each of which that was given is closed once
pub record HasBeenRun (asks : Asked) (files files' : FilesState) (out out' err err' : SinkState) (s : Status)
    (old new : SocketsState) : Type 0 where
  pub run : IsRun asks (world files out old) (world files' out' new) err err' s
  pub closed_once : IsClosedOnce new.net.trace
