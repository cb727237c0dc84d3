use Rattle.taps_frames.proofs.VarintHeads.{varint_lawful}
use Rattle.taps_frames.proofs.varint.VarintHeaded.vouch_for_heads.Goals as goal

pub returns : goal.returns
returns c = varint_lawful
