use Rattle.std.proofs.Common.{refl}
use Rattle.taps_frame_rows.proofs.ShortPairs.{short_starts}
use Rattle.taps_frame_rows.proofs.short.ShortFramer.start.Goals as goal

pub returns : goal.returns
returns c = short_starts _ _ refl
