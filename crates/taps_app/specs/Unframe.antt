-- `unframe FILE BYTES` (local).
use Rattle.std.specs.Prelude.{◌≡◌, ◌≤◌, ℕ, Bool, List, [], ◌∷◌, length, Result, Ok}
use Rattle.taps_frame_text.specs.UnframeLines.{IsUnframed}
use Rattle.taps_framer.specs.Layers.{Layer}
use Rattle.taps_text.specs.declared.refusal.Refusal.{Refusal}
use Rattle.taps_command.specs.Checks.{first_file, second_file, most_framed}
use Rattle.taps_app.specs.Frame.{frame_rules, status_if}
use Rattle.taps_command.specs.Meanings.{Meaning}
use Rattle.taps_command.specs.Ready.{Ready}
use Rattle.taps_command.specs.Places.{chain_of}
use Rattle.taps_command.specs.declared.status.Status.{Status}
use Rattle.taps_command.specs.declared.two_files.TwoFiles.{TwoFiles}
use Rattle.taps_command.specs.declared.two_files.TwoFiles.TheVariants.{Nothing, File, Both}

-- BYTES of any content
abbrev pub any_bytes : List ℕ → Result (List ℕ) Refusal
any_bytes bytes = Ok bytes

-- the text of the messages that bytes decode to through the chain of the file's framers, and the status
pub record IsDecoded (shelf : List Layer) (ready : Ready) (bytes text : List ℕ) (s : Status) : Type 0 where
  pub whole : Bool
  pub unframed : IsUnframed (chain_of shelf ready.places) bytes text whole
  pub status : s ≡ status_if whole

-- the messages of BYTES
abbrev pub PrintsMessages : List Layer → TwoFiles (List ℕ) → List ℕ → Status → Type 0
PrintsMessages shelf Nothing text s = ⊥
PrintsMessages shelf (File ready) text s = ⊥
PrintsMessages shelf (Both ready bytes) text s = IsDecoded shelf ready bytes text s

-- two files, of which the second is decoded; the sockets are not used
abbrev pub unframe : List Layer → Meaning
unframe shelf = record {
  Value = TwoFiles (List ℕ);
  start = Nothing;
  readings = first_file frame_rules shelf ∷ second_file most_framed any_bytes ∷ [];
  Prints = λ value old new text s. PrintsMessages shelf value text s;
  MayLeave = λ value old new. new ≡ old;
}

-- no more bytes than are read
abbrev pub AreFew : List ℕ → Type 0
AreFew bytes = length bytes ≤ most_framed
