use Rattle.taps_frames.proofs.DecimalFrames.{netstring_lawful}
use Rattle.taps_frames.proofs.netstring.NetstringHeaded.vouch_for_heads.Goals as goal

pub returns : goal.returns
returns c = netstring_lawful
