-- Eight bytes of the index, four bytes of length, both in network order, and the body (this project's own).
use Rattle.std.specs.Prelude.{codes}
use Rattle.std.specs.Int.{w64, to_be_bytes}
use Rattle.taps_framer.specs.Layers.{Layer}
use Rattle.taps_frames.specs.Formats.{Format, headed, prefixed}
use Rattle.taps_frames.specs.Len32.{len32_format}

-- the heads at each index
abbrev pub seq_format : Format
seq_format = prefixed (codes "seq") (λ i. to_be_bytes w64 i) len32_format

-- the framer's meaning
abbrev pub seq : Layer
seq = headed seq_format
