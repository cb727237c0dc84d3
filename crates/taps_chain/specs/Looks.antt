-- How far layer 0 has looked at the bytes of its next frame (local).
use Rattle.std.specs.Prelude.{◌≡◌, ℕ, ◌-◌, ◌<◌, ◌≤◌, true, false, List, length, take}
use Rattle.taps_framer.specs.Layers.{Layer, IsWholeFrame, is_viable, lives}
use Rattle.taps_framer.specs.Scans.{Represents}
use Rattle.taps_framer.specs.declared.scan.Scan.{Scan}
use Rattle.taps_framer.specs.declared.scan.Seen.{Seen}
use Rattle.taps_framer.specs.declared.scan.Seen.TheVariants as seen
use Rattle.taps_chain.specs.declared.look.Look.{Look}

-- what is seen in the bytes is so, and where they are bad, their last byte settled it
abbrev pub IsSettled : Layer → (ℕ → Scan → List ℕ → Type 0) → ℕ → List ℕ → Seen → Type 0
IsSettled f scans k x (seen.More scan) = Represents f scans k scan x
IsSettled f scans k x seen.Whole = IsWholeFrame f k x
IsSettled f scans k x seen.Bad = (0 < length x) × (is_viable f k (take (length x - 1) x) ≡ true) × (lives f k x ≡ false)

-- what is seen in the first bytes of the unread ones, as many as were scanned
pub record HasLooked (f : Layer) (scans : ℕ → Scan → List ℕ → Type 0)
    (k : ℕ) (unread : List ℕ) (look : Look) : Type 0 where
  pub within : look.scanned ≤ length unread
  pub settled : IsSettled f scans k (take look.scanned unread) look.seen

-- no more bytes settle it: either they are settled, or all are scanned
abbrev pub HasScanned : List ℕ → ℕ → Seen → Type 0
HasScanned unread scanned (seen.More scan) = scanned ≡ length unread
HasScanned unread scanned seen.Whole = Unit {0}
HasScanned unread scanned seen.Bad = Unit {0}

-- a look goes on at the unread bytes, up to the one that settles it
pub record LooksOn (f : Layer) (scans : ℕ → Scan → List ℕ → Type 0)
    (k : ℕ) (unread : List ℕ) (old new : Look) : Type 0 where
  pub looked : HasLooked f scans k unread new
  pub forward : old.scanned ≤ new.scanned
  pub all : HasScanned unread new.scanned new.seen
