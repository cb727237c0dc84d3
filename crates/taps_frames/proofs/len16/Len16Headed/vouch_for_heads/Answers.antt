use Rattle.taps_frames.proofs.Len16Heads.{len16_lawful}
use Rattle.taps_frames.proofs.len16.Len16Headed.vouch_for_heads.Goals as goal

pub returns : goal.returns
returns c = len16_lawful
