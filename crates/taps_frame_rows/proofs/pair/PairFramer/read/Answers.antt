use Rattle.std.proofs.Common.{arith, refl}
use Rattle.taps_frame_rows.proofs.ShortPairs.{pair_short, pair_holds, pair_bad}
use Rattle.taps_frame_rows.proofs.pair.PairFramer.read.Goals as goal

pub returns-then-buffer-lt2 : goal.returns-then-buffer-lt2
returns-then-buffer-lt2 c = pair_short _ _ (omega arith)

pub returns-then-buffer : goal.returns-then-buffer
returns-then-buffer c = (pair_holds _ _ (omega arith) c.if-buffer.true, refl)

pub returns-else-buffer : goal.returns-else-buffer
returns-else-buffer c = pair_bad _ _ (omega arith) c.if-buffer.false
