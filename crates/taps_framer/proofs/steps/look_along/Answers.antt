use Rattle.taps_framer.proofs.Scans.{looked_within}
use Rattle.taps_framer.proofs.steps.look_along.Goals as goal

pub looked_at-requires : goal.looked_at-requires
looked_at-requires g c = looked_within _ _ _ _ _ _ (c.advance-run.ensures c.requires.0 c.requires.1)
