use Rattle.taps_candidate.proofs.Expanded.{first_more}
use Rattle.taps_candidate.proofs.branches.first_branch.Goals as goal

pub loop-place-preserved : goal.loop-place-preserved
loop-place-preserved c = first_more c.args.branches.now c.loop-place.place c.loop-place.first _ c.loop-place-test.true c.loop-place.invariant c.earlier-first.ensures
