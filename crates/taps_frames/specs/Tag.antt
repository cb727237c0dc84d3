-- The framer's kind byte, two bytes of length in network order, and the body (this project's own).
use Rattle.std.specs.Prelude.{ℕ, [], ◌∷◌, codes}
use Rattle.taps_framer.specs.Layers.{Layer}
use Rattle.taps_frames.specs.Formats.{Format, headed, prefixed}
use Rattle.taps_frames.specs.Len16.{len16_format}

-- the heads of this kind
abbrev pub tag_format : ℕ → Format
tag_format kind = prefixed (codes "tag") (λ _. kind ∷ []) len16_format

-- the meaning of the framer of this kind
abbrev pub tag : ℕ → Layer
tag kind = headed (tag_format kind)
