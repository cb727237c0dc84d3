-- Under which name a line is told.
use Rattle.std.proofs.Common.{◌≡◌, ℕ, List, [], ◌∷◌, Some, None, zero, suc, slice_get, String, Global, string_bytes}
use Rattle.taps_base.specs.Sinks.{SinkState}
use Rattle.taps_text.specs.ErrorLines.{refused_line, fault_line}
use Rattle.taps_text.specs.declared.refusal.Refusal.{Refusal}
use Rattle.taps_command.specs.Runs.{names_of}
use Rattle.taps_command.specs.Telling.{MayTell}

-- the name at a place, as a text and as its bytes
one_name : (names : List (String Global)) (at : ℕ) (name : String Global) (bytes : List ℕ) → slice_get names at ≡ Some name → slice_get (names_of names) at ≡ Some bytes → string_bytes name ≡ bytes
one_name [] at name bytes there also = cc
one_name (first ∷ names) zero name bytes there also = cc
one_name (first ∷ names) (suc at) name bytes there also = one_name names at name bytes there also

none_there : (names : List (String Global)) (at : ℕ) (bytes : List ℕ) → slice_get names at ≡ None → slice_get (names_of names) at ≡ Some bytes → ⊥
none_there [] at bytes none also = cc
none_there (first ∷ names) zero bytes none also = cc
none_there (first ∷ names) (suc at) bytes none also = none_there names at bytes none also

pub refusal_of : (names : List (String Global)) (at : ℕ) (name : String Global) (why : Refusal) (err err' : SinkState) → slice_get names at ≡ Some name
    → MayTell err err' (refused_line (string_bytes name) why)
    → (bytes : List ℕ) → slice_get (names_of names) at ≡ Some bytes → MayTell err err' (refused_line bytes why)
refusal_of names at name why err err' there tells bytes also = rw (← one_name names at name bytes there also) tells

pub fault_of : (names : List (String Global)) (at : ℕ) (name : String Global) (err err' : SinkState) → slice_get names at ≡ Some name
    → MayTell err err' (fault_line (string_bytes name))
    → (bytes : List ℕ) → slice_get (names_of names) at ≡ Some bytes → MayTell err err' (fault_line bytes)
fault_of names at name err err' there tells bytes also = rw (← one_name names at name bytes there also) tells

pub no_refusal : (names : List (String Global)) (at : ℕ) (why : Refusal) (err : SinkState) → slice_get names at ≡ None
    → (bytes : List ℕ) → slice_get (names_of names) at ≡ Some bytes → MayTell err err (refused_line bytes why)
no_refusal names at why err none bytes also = absurd (none_there names at bytes none also)

pub no_fault_line : (names : List (String Global)) (at : ℕ) (err : SinkState) → slice_get names at ≡ None
    → (bytes : List ℕ) → slice_get (names_of names) at ≡ Some bytes → MayTell err err (fault_line bytes)
no_fault_line names at err none bytes also = absurd (none_there names at bytes none also)
