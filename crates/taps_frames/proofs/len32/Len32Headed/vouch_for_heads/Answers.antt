use Rattle.taps_frames.proofs.Len32Heads.{len32_lawful}
use Rattle.taps_frames.proofs.len32.Len32Headed.vouch_for_heads.Goals as goal

pub returns : goal.returns
returns c = len32_lawful
