use Rattle.std.proofs.Common.{◌≤◌, length, arith}
use Rattle.taps_frames.proofs.Lines.{short}
use Rattle.taps_frames.proofs.line.LineFramer.write.Goals as goal

pub write_parts-requires : goal.write_parts-requires
write_parts-requires c = let h : length c.args.body.now ≤ 65535 = short _ c.requires in omega arith
