use Rattle.taps_frames.proofs.DecimalFrames.{counted_lawful}
use Rattle.taps_frames.proofs.counted.CountedHeaded.vouch_for_heads.Goals as goal

pub returns : goal.returns
returns c = counted_lawful
