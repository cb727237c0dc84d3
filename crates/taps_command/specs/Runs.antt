-- What a command does, and why, stated once for every meaning.
use Rattle.std.specs.Prelude.{◌≡◌, ◌≤◌, ◌+◌, ◌-◌, ◌^◌, ◌⊎◌, min, max, ℕ, zero, suc, List, [], ◌∷◌, Some, slice_get, length, map, string_bytes, Result, Ok, Err}
use Rattle.std.proofs.Common.{String, Global}
use Rattle.taps_base.specs.Counts.{Rose}
use Rattle.taps_base.specs.Files.{Contents, FilesState, IsContent}
use Rattle.taps_base.specs.Sinks.{SinkState, Receives}
use Rattle.taps_base.specs.declared.sink.SinkAnswer.{SinkAnswer}
use Rattle.taps_base.specs.declared.sink.SinkAnswer.TheVariants as answers
use Rattle.taps_text.specs.ErrorLines.{refused_line, fault_line, output_fault_line, no_memory_line}
use Rattle.taps_text.specs.declared.refusal.Refusal.{Refusal}
use Rattle.taps_command.specs.Meanings.{Meaning, Reading, judge, HasText}
use Rattle.taps_command.specs.Nets.{SocketsState, IsClosedOnce}
use Rattle.taps_command.specs.Telling.{Tells, MayTell}
use Rattle.taps_command.specs.declared.status.Status.{Status}
use Rattle.taps_command.specs.declared.status.Status.TheVariants as status
use Rattle.taps_command.specs.declared.stop.Stop.{Stop}
use Rattle.taps_command.specs.declared.stop.Stop.TheVariants.{Refused, FileFault, SinkFault, NoMemory}

-- what is seen of files, output and sockets
pub record World : Type 0 where
  pub files : FilesState
  pub out : SinkState
  pub sockets : SocketsState

-- files, output and sockets as one value
abbrev pub world : FilesState → SinkState → SocketsState → World
world files out sockets = record { files = files; out = out; sockets = sockets }

-- the bytes of names
abbrev pub names_of : List (String Global) → List (List ℕ)
names_of names = map (λ name. string_bytes name) names

-- a count of reads after so many more, which stays at its last value
abbrev pub more : ℕ → ℕ → ℕ
more k reads = max reads (min (reads + k) (2 ^ 64 - 1))

-- the bytes of this name, where observable, give this after a value, as those of the file at this place
pub record Judged (m : Meaning) (contents : Contents) (name : List ℕ) (place : ℕ)
    (value : m.Value) (outcome : Result m.Value Refusal) : Type 0 where
  pub reading : Reading m.Value
  pub read : slice_get m.readings place ≡ Some reading
  pub bytes : List ℕ
  pub content : IsContent contents name bytes
  pub judged : judge reading value bytes ≡ outcome

-- the first so many files pass their checks in order, and give this value
abbrev pub Comes : (m : Meaning) → Contents → List (List ℕ) → ℕ → m.Value → Type 0
Comes m contents names zero value = value ≡ m.start
Comes m contents names (suc k) value =
    (before : m.Value) × (name : List ℕ) × Comes m contents names k before × (slice_get names k ≡ Some name)
    × Judged m contents name k before (Ok value)

-- all files pass, and give this value
abbrev pub Passes : (m : Meaning) → Contents → List (List ℕ) → m.Value → Type 0
Passes m contents names value = Comes m contents names (length m.readings) value

-- the files before this place pass, and then the file there is refused
pub record IsRefused (m : Meaning) (contents : Contents)
    (names : List (List ℕ)) (place : ℕ) (why : Refusal) : Type 0 where
  pub value : m.Value
  pub comes : Comes m contents names place value
  pub name : List ℕ
  pub named : slice_get names place ≡ Some name
  pub judged : Judged m contents name place value (Err why)

-- the files before this place pass, and then the file there cannot be read
pub record Fails (m : Meaning) (names : List (List ℕ)) (place : ℕ) (old new : FilesState) : Type 0 where
  pub value : m.Value
  pub comes : Comes m old.contents names place value
  pub name : List ℕ
  pub named : slice_get names place ≡ Some name
  pub rose : Rose old.faults new.faults
  pub last_failed : new.last_failed ≡ Some name
  pub reads : new.reads ≡ more (suc place) old.reads

-- so many files were read, and no read failed
pub record ReadsWell (k : ℕ) (old new : FilesState) : Type 0 where
  pub reads : new.reads ≡ more k old.reads
  pub faults : new.faults ≡ old.faults
  pub contents : new.contents ≡ old.contents

-- the first so many files were read and pass
pub record HaveCome (m : Meaning) (names : List (List ℕ)) (k : ℕ)
    (value : m.Value) (old new : FilesState) : Type 0 where
  pub comes : Comes m old.contents names k value
  pub reads : ReadsWell k old new

-- memory ran out: no more reads than files, and none of them failed
pub record ReadsFew (m : Meaning) (old new : FilesState) : Type 0 where
  pub reads : new.reads ≤ more (length m.readings) old.reads
  pub faults : new.faults ≡ old.faults

-- what reading all files gave, seen by a view
abbrev pub Gathers : {A : Type 0} (m : Meaning) → (A → m.Value)
    → List (List ℕ) → FilesState → FilesState → Result A Stop → Type 0
Gathers m view names old new (Ok value) = HaveCome m names (length m.readings) (view value) old new
Gathers m view names old new (Err (Refused place why)) =
    IsRefused m old.contents names place why × ReadsWell (suc place) old new
Gathers m view names old new (Err (FileFault place)) = Fails m names place old new
Gathers m view names old new (Err SinkFault) = ⊥
Gathers m view names old new (Err NoMemory) = ReadsFew m old new

-- what reading one file gave, seen by a view
abbrev pub Steps : {A : Type 0} (m : Meaning) → (A → m.Value) → List ℕ
    → ℕ → m.Value → FilesState → FilesState → Result A Stop → Type 0
Steps m view name place before old new (Ok value) =
    Judged m old.contents name place before (Ok (view value)) × ReadsWell 1 old new
Steps m view name place before old new (Err (Refused at why)) =
    (at ≡ place) × Judged m old.contents name place before (Err why) × ReadsWell 1 old new
Steps m view name place before old new (Err (FileFault at)) =
    (at ≡ place) × Rose old.faults new.faults × (new.last_failed ≡ Some name) × (new.reads ≡ more 1 old.reads)
Steps m view name place before old new (Err SinkFault) = ⊥
Steps m view name place before old new (Err NoMemory) = (new.reads ≡ more 1 old.reads) × (new.faults ≡ old.faults)

-- a sink receives a text by one write, and none where there is nothing to write
abbrev pub Takes : SinkAnswer → SinkState → SinkState → List ℕ → Type 0
Takes answer old new [] = (new ≡ old) × (answer ≡ answers.Taken)
Takes answer old new (byte ∷ text) = Receives answer old new (byte ∷ text)

-- all files pass, and the text that they give was written, with this answer
pub record Delivers (m : Meaning) (names : List (List ℕ))
    (answer : SinkAnswer) (old new : World) (s : Status) : Type 0 where
  pub value : m.Value
  pub comes : Passes m old.files.contents names value
  pub text : List ℕ
  pub prints : m.Prints value old.sockets new.sockets text s
  pub takes : Takes answer old.out new.out text
  pub reads : ReadsWell (length m.readings) old.files new.files

-- neither the output nor the sockets were touched
pub record IsUntouched (old new : World) : Type 0 where
  pub out : new.out ≡ old.out
  pub sockets : new.sockets ≡ old.sockets

-- the cause of each way to end, and what `out` receives
abbrev pub Ends : (m : Meaning) → List (List ℕ) → World → World → Result Status Stop → Type 0
Ends m names old new (Ok s) = Delivers m names answers.Taken old new s × HasText s
Ends m names old new (Err (Refused place why)) =
    IsRefused m old.files.contents names place why × ReadsWell (suc place) old.files new.files × IsUntouched old new
Ends m names old new (Err (FileFault place)) = Fails m names place old.files new.files × IsUntouched old new
Ends m names old new (Err SinkFault) = (s : Status) × Delivers m names answers.Failed old new s
Ends m names old new (Err NoMemory) = ReadsFew m old.files new.files × (new.out ≡ old.out)

-- what `err` receives, under the name of the file at the place
abbrev pub Says : List (List ℕ) → SinkState → SinkState → Result Status Stop → Type 0
Says names old new (Ok s) = new ≡ old
Says names old new (Err (Refused place why)) =
    (name : List ℕ) → slice_get names place ≡ Some name → MayTell old new (refused_line name why)
Says names old new (Err (FileFault place)) =
    (name : List ℕ) → slice_get names place ≡ Some name → MayTell old new (fault_line name)
Says names old new (Err SinkFault) = Tells old new output_fault_line
Says names old new (Err NoMemory) = Tells old new no_memory_line

-- the status of each way to end
abbrev pub status_of : Result Status Stop → Status
status_of (Ok s) = s
status_of (Err (Refused place why)) = status.Refused
status_of (Err (FileFault place)) = status.FileFault
status_of (Err SinkFault) = status.SinkFault
status_of (Err NoMemory) = status.NoMemory

-- the sockets were not touched, or all files passed and the sockets are what they may be then
abbrev pub IsLawful : (m : Meaning) → List (List ℕ) → Contents → SocketsState → SocketsState → Type 0
IsLawful m names contents old new =
    (new ≡ old) ⊎ ((value : m.Value) × Passes m contents names value × m.MayLeave value old new)

-- how a command ended that was carried out, with its cause, and what the sockets are then
pub record HasEnded (m : Meaning) (names : List (List ℕ)) (files files' : FilesState) (out out' : SinkState)
    (e : Result Status Stop) (old new : SocketsState) : Type 0 where
  pub cause : Ends m names (world files out old) (world files' out' new) e
  pub lawful : IsLawful m names files.contents old new
  pub closed_once : IsClosedOnce new.net.trace
