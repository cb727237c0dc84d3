use Rattle.std.proofs.Common.{◌≤◌, length, arith}
use Rattle.taps_frames.proofs.BodyLemmas.{body_most}
use Rattle.taps_frames.proofs.netstring.NetstringFramer.write.Goals as goal

pub write_counted-requires : goal.write_counted-requires
write_counted-requires c = let h : length c.args.body.now ≤ 65535 = body_most _ _ _ c.requires in omega arith
