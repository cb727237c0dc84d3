-- The length in decimal, a space, and a body that is not empty (RFC 6587 octet counting).
use Rattle.std.specs.Prelude.{[], codes}
use Rattle.taps_framer.specs.Layers.{Layer}
use Rattle.taps_frames.specs.Formats.{Format, headed}
use Rattle.taps_frames.specs.Decimals.{decimal_format}

-- the heads that end in a space, of one byte or more
abbrev pub counted_format : Format
counted_format = decimal_format (codes "counted") 1 32 []

-- the framer's meaning
abbrev pub counted : Layer
counted = headed counted_format
