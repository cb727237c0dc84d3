use Rattle.std.specs.Prelude.{[], ◌∷◌, codes}
use Rattle.taps_frames.proofs.netstring.NetstringHeaded.head_in.Goals as goal

pub returns : goal.returns
returns c = c.head_in.ensures (codes "netstring") (44 ∷ []) c.args._index
