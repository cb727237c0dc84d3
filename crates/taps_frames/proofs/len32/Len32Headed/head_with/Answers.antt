use Rattle.std.proofs.Common.{[], refl, arith}
use Rattle.taps_frames.specs.Len32.{len32_format}
use Rattle.taps_frames.proofs.Rebuilt.{grown_next}
use Rattle.taps_frames.proofs.Len32Heads.{len32_lawful}
use Rattle.taps_frames.proofs.len32.Len32Headed.head_with.Goals as goal

pub returns : goal.returns
returns c = λ x p.
    grown_next len32_format [] len32_lawful c.args.index c.args.count c.args.value c.args.byte x p _ refl (omega arith)
    _ _ _ c.head_in.result c.grown_by.result c.to_be_bytes-bytes.ensures c.first_of-seen.ensures c.head_in.ensures refl c.grown_by.ensures
