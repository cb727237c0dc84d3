-- The framers whose heads follow a prefix.
use Rattle.std.proofs.Common.{ℕ, [], ◌∷◌, refl, arith}
use Rattle.std.specs.Prelude.{codes}
use Rattle.std.specs.Int.{w64, to_be_bytes}
use Rattle.taps_frames.specs.Scans.{IsLawfulFormat, number_behind}
use Rattle.taps_frames.specs.Len16.{len16_format}
use Rattle.taps_frames.specs.Len32.{len32_format}
use Rattle.taps_frames.specs.Tag.{tag_format}
use Rattle.taps_frames.specs.Seq.{seq_format}
use Rattle.taps_frames.proofs.PrefixedHeads.{prefixed_heads}
use Rattle.taps_frames.proofs.Len16Heads.{len16_heads}
use Rattle.taps_frames.proofs.Len32Heads.{len32_heads}

pub tag_lawful : (kind : ℕ) → IsLawfulFormat (tag_format kind) (number_behind 1)
tag_lawful kind = record {
  heads = λ i. prefixed_heads (codes "tag") (λ _. kind ∷ []) len16_format i (len16_heads i);
  bounded = λ i n h. let k = h.to in omega arith;
  one = omega arith;
  nothing = λ i. refl;
}

pub seq_lawful : IsLawfulFormat seq_format (number_behind 8)
seq_lawful = record {
  heads = λ i. prefixed_heads (codes "seq") (λ j. to_be_bytes w64 j) len32_format i (len32_heads i);
  bounded = λ i n h. let k = h.to in omega arith;
  one = omega arith;
  nothing = λ i. refl;
}
