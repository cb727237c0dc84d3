-- What a reader of heads answers, and what follows from it.
use Rattle.std.specs.Prelude.{◌≡◌, ℕ, ◌+◌, ◌<◌, ◌≤◌, ◌^◌, List, [], ◌++◌, length, take, drop}
use Rattle.std.specs.Int.{w32, from_be_bytes}
use Rattle.taps_frames.specs.declared.head.Head.{Head}
use Rattle.taps_frames.specs.declared.head.Head.TheVariants.{Need, Bad, Whole}
use Rattle.taps_frames.specs.declared.head.Grown.{Grown}
use Rattle.taps_frames.specs.declared.head.Grown.TheVariants as grown
use Rattle.taps_frames.specs.Formats.{Format, IsLength, IsBegun, HasNoHead, prefixed}

-- the bytes begin with the head of a length
pub record IsWholeHead (f : Format) (i : ℕ) (x : List ℕ) (width size : ℕ) : Type 0 where
  pub within : width ≤ length x
  pub is_length : IsLength f size
  pub split : take width x ≡ f.head i size

-- the bytes go on as a head up to a place, and with its byte as none
pub record IsBadHead (f : Format) (i : ℕ) (x : List ℕ) (place : ℕ) : Type 0 where
  pub inside : place < length x
  pub begun : IsBegun f i (take place x)
  pub none : HasNoHead f i (take (place + 1) x)

-- what is answered of the head at the start of the bytes is so
abbrev pub IsHead : Format → ℕ → List ℕ → Head → Type 0
IsHead f i x Need = IsBegun f i x
IsHead f i x (Bad place) = IsBadHead f i x place
IsHead f i x (Whole width size) = IsWholeHead f i x width size

-- the bytes are one head and no more, and it tells this size
abbrev pub IsOneHead : Format → ℕ → List ℕ → ℕ → Type 0
IsOneHead f i x size = IsWholeHead f i x (length x) size

-- what is answered of bytes that are a head so far is so, where bytes make a number
abbrev pub IsGrown : Format → (ℕ → List ℕ → ℕ) → ℕ → List ℕ → Grown → Type 0
IsGrown f number i x (grown.Need value) = IsBegun f i x × (number i x ≡ value)
IsGrown f number i x grown.Bad = HasNoHead f i x
IsGrown f number i x (grown.Whole size) = IsOneHead f i x size

-- the same answer without a place and a width, where these bytes follow the prefix
abbrev pub grown_of : Head → List ℕ → Grown
grown_of Need x = grown.Need (from_be_bytes w32 x)
grown_of (Bad place) x = grown.Bad
grown_of (Whole width size) x = grown.Whole size

-- so many bytes reach to the end of the body
abbrev pub ReachesBody : Head → ℕ → Type 0
ReachesBody Need count = ⊥
ReachesBody (Bad place) count = ⊥
ReachesBody (Whole width size) count = width + size ≤ count

-- the body behind the head
abbrev pub body_behind : Head → List ℕ → List ℕ
body_behind Need x = []
body_behind (Bad place) x = []
body_behind (Whole width size) x = take size (drop width x)

-- Bytes that do not begin with a prefix are answered so by each format that stands behind it, and of
-- which the first byte has not come.
abbrev pub IsOfPrefix : List ℕ → List ℕ → Head → Type 0
IsOfPrefix p x head = (name : List ℕ) (prefix : ℕ → List ℕ) (f : Format) (i : ℕ)
    → prefix i ≡ p → IsBegun f i [] → IsHead (prefixed name prefix f) i x head

-- what is answered of some bytes is answered so of them behind a prefix of this width
abbrev pub IsMoved : ℕ → Head → Head → Type 0
IsMoved width inner head =
    (name : List ℕ) (prefix : ℕ → List ℕ) (f : Format) (i : ℕ) (x : List ℕ)
    → length (prefix i) ≡ width → width + length x < 2 ^ 64 → IsHead f i x inner
    → IsHead (prefixed name prefix f) i (prefix i ++ x) head
