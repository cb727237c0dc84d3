-- What the scans of frames of a head, a body and a tail represent (local).
use Rattle.std.specs.Prelude.{◌≡◌, ℕ, ◌+◌, ◌<◌, ◌≤◌, ◌⊎◌, true, List, [], ◌∷◌, ◌++◌, length, drop, Option, None, Some}
use Rattle.std.specs.Int.{w32, from_be_bytes}
use Rattle.taps_framer.specs.declared.scan.Scan.{Scan}
use Rattle.taps_framer.specs.Prefixes.{are_bytes}
use Rattle.taps_frames.specs.Formats.{Format, IsLength, IsBegun}
use Rattle.taps_frames.specs.Heads.{IsWholeHead}

-- Part of a head came: so many bytes, which make this number.
pub record IsHeadPart (f : Format) (number : ℕ → List ℕ → ℕ) (i count value : ℕ) (x : List ℕ) : Type 0 where
  pub begun : IsBegun f i x
  pub counted : length x ≡ count
  pub numbered : number i x ≡ value
  pub bytes : are_bytes x ≡ true

-- A head came, which tells a body of `size` bytes, and `rest` bytes of the frame are missing.
pub record IsBodyPart (f : Format) (i size rest : ℕ) (x : List ℕ) : Type 0 where
  pub width : ℕ
  pub head : IsWholeHead f i x width size
  pub missing : length x + rest ≡ width + size + length f.tail
  pub some : 0 < rest
  pub bytes : are_bytes x ≡ true

-- what a scan of a format represents: part of a head, or a head and less than the rest of the frame
abbrev pub headed_scan : Format → (ℕ → List ℕ → ℕ) → ℕ → Scan → List ℕ → Type 0
headed_scan f number i scan x =
    ((scan.phase ≡ 0) × IsHeadPart f number i scan.length scan.rest x)
    ⊎ ((scan.phase ≡ 1) × IsBodyPart f i scan.length scan.rest x)

-- the number that the bytes behind the first `width` make in network order, where those of four that are missing are
-- zero
abbrev pub number_behind : ℕ → ℕ → List ℕ → ℕ
number_behind width i x = from_be_bytes w32 (drop width x)

-- the bytes of a tail of at most one byte
abbrev pub tail_of : Option ℕ → List ℕ
tail_of None = []
tail_of (Some byte) = byte ∷ []

-- the laws of the heads of a format at an index
pub record HasHeads (f : Format) (i : ℕ) : Type 0 where
  pub some : (n : ℕ) → IsLength f n → 1 ≤ length (f.head i n)
  pub told_is : (n : ℕ) (y : List ℕ) → IsLength f n → f.told i (f.head i n ++ y) ≡ n
  pub width_is : (n : ℕ) (y : List ℕ) → IsLength f n → f.width i (f.head i n ++ y) ≡ length (f.head i n)
  pub begun : (n : ℕ) (x z : List ℕ) → IsLength f n → f.head i n ≡ x ++ z → 0 < length z → IsBegun f i x
  pub begins : IsBegun f i []

-- the laws of a format whose heads' bytes make a number: a frame has at most 4,194,304 bytes, and a tail at most one
pub record IsLawfulFormat (f : Format) (number : ℕ → List ℕ → ℕ) : Type 0 where
  pub heads : (i : ℕ) → HasHeads f i
  pub bounded : (i n : ℕ) → IsLength f n → length (f.head i n) + n + length f.tail ≤ 4194304
  pub one : length f.tail ≤ 1
  pub nothing : (i : ℕ) → number i [] ≡ 0
