-- The length in decimal, a colon, the body and a comma (the netstring form).
use Rattle.std.specs.Prelude.{[], ◌∷◌, codes}
use Rattle.taps_framer.specs.Layers.{Layer}
use Rattle.taps_frames.specs.Formats.{Format, headed}
use Rattle.taps_frames.specs.Decimals.{decimal_format}

-- the heads that end in a colon
abbrev pub netstring_format : Format
netstring_format = decimal_format (codes "netstring") 0 58 (44 ∷ [])

-- the framer's meaning
abbrev pub netstring : Layer
netstring = headed netstring_format
