-- What a scan represents, and what is seen in the bytes that it represents with further ones (local).
use Rattle.std.specs.Prelude.{◌≡◌, ℕ, ◌+◌, ◌<◌, ◌≤◌, true, false, List, ◌++◌, length, take}
use Rattle.taps_framer.specs.declared.scan.Scan.{Scan}
use Rattle.taps_framer.specs.declared.scan.Seen.{Seen}
use Rattle.taps_framer.specs.declared.scan.Seen.TheVariants as seen
use Rattle.taps_framer.specs.declared.scan.Run.{Run}
use Rattle.taps_framer.specs.declared.scan.Run.TheVariants as run
use Rattle.taps_framer.specs.Layers.{Layer, IsWholeFrame, holds_whole_frame, is_viable, lives}

-- The scan represents the bytes: the framer says so, and they are viable and hold no whole frame.
pub record Represents (f : Layer) (scans : ℕ → Scan → List ℕ → Type 0) (i : ℕ) (scan : Scan) (x : List ℕ) : Type 0 where
  pub told : scans i scan x
  pub viable : is_viable f i x ≡ true
  pub unfinished : holds_whole_frame f i x ≡ false

-- what is seen in the bytes is so
abbrev pub IsSeen : Layer → (ℕ → Scan → List ℕ → Type 0) → ℕ → List ℕ → Seen → Type 0
IsSeen f scans i x (seen.More scan) = Represents f scans i scan x
IsSeen f scans i x seen.Whole = IsWholeFrame f i x
IsSeen f scans i x seen.Bad = lives f i x ≡ false

-- what is seen in the bytes `x` with the further `bytes` is so
abbrev pub IsRun : Layer → (ℕ → Scan → List ℕ → Type 0) → ℕ → List ℕ → List ℕ → Run → Type 0
IsRun f scans i x bytes (run.More scan) = Represents f scans i scan (x ++ bytes)
IsRun f scans i x bytes (run.Whole used) =
    (1 ≤ used) × (used ≤ length bytes) × IsWholeFrame f i (x ++ take used bytes)
IsRun f scans i x bytes (run.Bad place) =
    (place < length bytes) × (is_viable f i (x ++ take place bytes) ≡ true)
    × (lives f i (x ++ take (place + 1) bytes) ≡ false)

-- the number of the further bytes that were looked at
abbrev pub looked : Run → List ℕ → ℕ
looked (run.More scan) bytes = length bytes
looked (run.Whole used) bytes = used
looked (run.Bad place) bytes = place + 1
