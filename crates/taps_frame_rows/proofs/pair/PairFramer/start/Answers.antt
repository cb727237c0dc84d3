use Rattle.std.proofs.Common.{refl}
use Rattle.taps_frame_rows.proofs.ShortPairs.{pair_starts}
use Rattle.taps_frame_rows.proofs.pair.PairFramer.start.Goals as goal

pub returns : goal.returns
returns c = pair_starts _ _ refl
