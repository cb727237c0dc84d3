-- Four bytes of length in network order, and the body (this project's own).
use Rattle.std.specs.Prelude.{[], codes}
use Rattle.std.specs.Int.{w32, to_be_bytes, from_be_bytes}
use Rattle.taps_framer.specs.Layers.{Layer}
use Rattle.taps_frames.specs.Formats.{Format, headed}

-- the heads of four bytes
abbrev pub len32_format : Format
len32_format = record {
  name = codes "len32";
  least = 0;
  most = 1048576;
  head = λ _ n. to_be_bytes w32 n;
  told = λ _ x. from_be_bytes w32 x;
  width = λ _ _. 4;
  tail = [];
}

-- the framer's meaning
abbrev pub len32 : Layer
len32 = headed len32_format
