use Rattle.std.proofs.Common.{◌≤◌, length, arith}
use Rattle.taps_frames.proofs.BodyLemmas.{body_most}
use Rattle.taps_frames.proofs.varint.VarintFramer.write.Goals as goal

pub overflow_cast-size-2 : goal.overflow_cast-size-2
overflow_cast-size-2 c = let h : length c.args.body.now ≤ 1048576 = body_most _ _ _ c.requires in omega arith

pub write_parts-requires-2 : goal.write_parts-requires-2
write_parts-requires-2 c = let h : length c.args.body.now ≤ 1048576 = body_most _ _ _ c.requires in omega arith
