-- Two bytes of length in network order, and the body (RFC 4571 section 2).
use Rattle.std.specs.Prelude.{[], codes}
use Rattle.std.specs.Int.{w16, to_be_bytes, from_be_bytes}
use Rattle.taps_framer.specs.Layers.{Layer}
use Rattle.taps_frames.specs.Formats.{Format, headed}

-- the heads of two bytes
abbrev pub len16_format : Format
len16_format = record {
  name = codes "len16";
  least = 0;
  most = 65535;
  head = λ _ n. to_be_bytes w16 n;
  told = λ _ x. from_be_bytes w16 x;
  width = λ _ _. 2;
  tail = [];
}

-- the framer's meaning
abbrev pub len16 : Layer
len16 = headed len16_format
