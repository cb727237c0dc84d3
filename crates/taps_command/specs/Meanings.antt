-- What a command means: the files that it reads, the text that it writes, and what it may do to the sockets (local).
use Rattle.std.specs.Prelude.{◌≡◌, ℕ, List, Result, Ok, Err, IfOk, length, nat_le, if◌then◌else◌, ⊤}
use Rattle.taps_base.specs.declared.no_memory.NoMemory.{NoMemory}
use Rattle.taps_text.specs.declared.refusal.Refusal.{Refusal}
use Rattle.taps_text.specs.declared.refusal.Refusal.TheVariants as refusal
use Rattle.taps_command.specs.Nets.{SocketsState, IsClosedOnce}
use Rattle.taps_command.specs.declared.printed.Printed.{Printed}
use Rattle.taps_command.specs.declared.status.Status.{Status}
use Rattle.taps_command.specs.declared.status.Status.TheVariants as status
use Rattle.taps_command.specs.declared.stop.Unready.{Unready}
use Rattle.taps_command.specs.declared.stop.Unready.TheVariants as unready

-- a file that a command reads: how many bytes it may have, and what its bytes make of the value that the files before
-- it gave
pub record Reading (V : Type 0) : Type 0 where
  pub limit : ℕ
  pub check : V → List ℕ → Result V Refusal

-- The files in their order, and the value before the first of them. Where they all pass their checks and give a value:
-- which text and status there are, with the sockets before and after, and what the sockets may be after.
pub record Meaning : Type 1 where
  pub Value : Type 0
  pub start : Value
  pub readings : List (Reading Value)
  pub Prints : Value → SocketsState → SocketsState → List ℕ → Status → Type 0
  pub MayLeave : Value → SocketsState → SocketsState → Type 0

-- what bytes give, of which there may be too many
unfoldable pub judge : {V : Type 0} → Reading V → V → List ℕ → Result V Refusal
judge reading value bytes =
    if nat_le (length bytes) reading.limit then reading.check value bytes else Err refusal.TooLong

-- a value, seen by a view, or a refusal is what the definition says; out of memory is free
abbrev pub Returns : {A B : Type 0} → (A → B) → Result B Refusal → Result A Unready → Type 0
Returns view definition (Ok value) = definition ≡ Ok (view value)
Returns view definition (Err (unready.Refused why)) = definition ≡ Err why
Returns view definition (Err unready.NoMemory) = ⊤

-- what is printed, if memory is found, what the sockets are after, and that each socket that was given is closed once
pub record IsPrinted (Prints : SocketsState → SocketsState → List ℕ → Status → Type 0)
    (MayLeave : SocketsState → SocketsState → Type 0) (result : Result Printed NoMemory)
    (old new : SocketsState) : Type 0 where
  pub prints : IfOk result (λ printed. Prints old new printed.text.items printed.status)
  pub leaves : MayLeave old new
  pub closed_once : IsClosedOnce new.net.trace

-- a status with which a text is written whole
abbrev pub HasText : Status → Type 0
HasText status.Done = ⊤
HasText status.Usage = ⊥
HasText status.Refused = ⊥
HasText status.Establishment = ⊤
HasText status.Exchange = ⊤
HasText status.FileFault = ⊥
HasText status.SinkFault = ⊥
HasText status.SocketFault = ⊤
HasText status.NoMemory = ⊥
HasText status.Closed = ⊤
