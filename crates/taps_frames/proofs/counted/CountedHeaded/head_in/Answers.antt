use Rattle.std.specs.Prelude.{[], codes}
use Rattle.taps_frames.proofs.counted.CountedHeaded.head_in.Goals as goal

pub returns : goal.returns
returns c = c.head_in.ensures (codes "counted") [] c.args._index
