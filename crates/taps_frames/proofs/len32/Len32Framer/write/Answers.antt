use Rattle.std.proofs.Common.{◌≤◌, length, arith}
use Rattle.taps_frames.proofs.BodyLemmas.{body_most}
use Rattle.taps_frames.proofs.len32.Len32Framer.write.Goals as goal

pub overflow_cast-body : goal.overflow_cast-body
overflow_cast-body c = let h : length c.args.body.now ≤ 1048576 = body_most _ _ _ c.requires in omega arith

pub write_parts-requires : goal.write_parts-requires
write_parts-requires c = let h : length c.args.body.now ≤ 1048576 = body_most _ _ _ c.requires in omega arith
