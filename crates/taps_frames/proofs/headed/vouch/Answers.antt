use Rattle.taps_frames.proofs.HeadedScans.{laws}
use Rattle.taps_frames.proofs.headed.vouch.Goals as goal

pub returns : goal.returns
returns g c = record { at = λ i _. laws (g.H.Headed.format c.args.framer.now) (g.H.Headed.number c.args.framer.now) c.vouch_for_heads.ensures i }
