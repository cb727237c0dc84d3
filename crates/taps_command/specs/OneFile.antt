-- A command that reads FILE alone (local).
use Rattle.std.specs.Prelude.{◌≡◌, ℕ, List, [], ◌∷◌, Option, Some, None}
use Rattle.taps_framer.specs.Layers.{Layer}
use Rattle.taps_command.specs.Checks.{FileRules, only_file}
use Rattle.taps_command.specs.Meanings.{Meaning}
use Rattle.taps_command.specs.Nets.{SocketsState}
use Rattle.taps_command.specs.Ready.{Ready}
use Rattle.taps_command.specs.declared.status.Status.{Status}

-- FILE has been read, and this holds of what it gives
abbrev pub HasRead : (Ready → Type 0) → Option Ready → Type 0
HasRead Holds None = ⊥
HasRead Holds (Some ready) = Holds ready

-- FILE keeps these rules; then this text and status are there, and the sockets may be so
abbrev pub one_file : FileRules → (Ready → SocketsState → SocketsState → List ℕ → Status → Type 0)
    → (Ready → SocketsState → SocketsState → Type 0) → List Layer → Meaning
one_file rules Prints MayLeave shelf = record {
  Value = Option Ready;
  start = None;
  readings = only_file rules shelf ∷ [];
  Prints = λ value old new text s. HasRead (λ ready. Prints ready old new text s) value;
  MayLeave = λ value old new. HasRead (λ ready. MayLeave ready old new) value;
}

-- the sockets are not used
abbrev pub LeavesAlone : Ready → SocketsState → SocketsState → Type 0
LeavesAlone ready old new = new ≡ old
