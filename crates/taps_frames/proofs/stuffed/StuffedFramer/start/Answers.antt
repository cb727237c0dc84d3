use Rattle.std.proofs.Common.{[], refl, arith}
use Rattle.taps_frames.proofs.StuffedSights.{part_represents, nothing_yet}
use Rattle.taps_frames.proofs.stuffed.StuffedFramer.start.Goals as goal

pub returns : goal.returns
returns c = part_represents c.args._index (record { phase = 0; length = 0; rest = 0 }) [] nothing_yet (omega arith) refl
