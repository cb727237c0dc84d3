-- The length as an integer of one, two or four bytes, the shortest that hold it, and the body
-- (RFC 9000 section 16; the bodies' limit and with it the absence of eight bytes are this project's own).
use Rattle.std.specs.Prelude.{ℕ, ◌+◌, ◌-◌, cond, nat_lt, max, List, [], ◌∷◌, codes, slice_index}
use Rattle.std.specs.Int.{w16, w32, to_be_bytes, from_be_bytes}
use Rattle.taps_framer.specs.Layers.{Layer}
use Rattle.taps_frames.specs.Formats.{Format, headed}

-- a number below 2^30 in its shortest form: the two top bits tell how many bytes there are
unfoldable pub shortest : ℕ → List ℕ
shortest n = cond (nat_lt n 64) (n ∷ [])
    (cond (nat_lt n 16384) (to_be_bytes w16 (0x4000 + n)) (to_be_bytes w32 (0x8000_0000 + n)))

-- the least number in its shortest form that begins as the bytes do
unfoldable pub least_number : List ℕ → ℕ
least_number x =
    cond (nat_lt (slice_index x 0) 64) (slice_index x 0)
    (cond (nat_lt (slice_index x 0) 128) (max 64 (from_be_bytes w16 x - 0x4000))
    (max 16384 (from_be_bytes w32 x - 0x8000_0000)))

-- how many bytes the first one says that there are, of one, two and four
unfoldable pub told_width : List ℕ → ℕ
told_width x = cond (nat_lt (slice_index x 0) 64) 1 (cond (nat_lt (slice_index x 0) 128) 2 4)

-- the heads of one, two or four bytes
abbrev pub varint_format : Format
varint_format = record {
  name = codes "varint";
  least = 0;
  most = 1048576;
  head = λ _ n. shortest n;
  told = λ _ x. least_number x;
  width = λ _ x. told_width x;
  tail = [];
}

-- the framer's meaning
abbrev pub varint : Layer
varint = headed varint_format
