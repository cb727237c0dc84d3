use Rattle.std.proofs.Common.{arith, eqb-true}
use Rattle.taps_frames.proofs.StuffedRuns.{plain_at_end}
use Rattle.taps_frames.proofs.stuffed.ends_at_once.Goals as goal

pub returns : goal.returns
returns c = λ h. plain_at_end c.args.frame.now 0 (omega arith) (eqb-true _ _ h)
