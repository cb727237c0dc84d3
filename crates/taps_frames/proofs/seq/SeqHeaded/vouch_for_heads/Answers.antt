use Rattle.taps_frames.proofs.Prefixed.{seq_lawful}
use Rattle.taps_frames.proofs.seq.SeqHeaded.vouch_for_heads.Goals as goal

pub returns : goal.returns
returns c = seq_lawful
