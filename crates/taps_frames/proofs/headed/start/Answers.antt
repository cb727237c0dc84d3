use Rattle.taps_frames.proofs.HeadedScans.{none_represented}
use Rattle.taps_frames.proofs.headed.start.Goals as goal

pub returns : goal.returns
returns g c = none_represented (g.H.Headed.format c.args.framer.now) (g.H.Headed.number c.args.framer.now) c.vouch_for_heads.ensures c.args._index
