use Rattle.taps_candidate.proofs.Giving.{none_left}
use Rattle.taps_candidate.proofs.leaves.Leaves.expand_more.Goals as goal

pub returns-clause-ended : goal.returns-clause-ended
returns-clause-ended c =
    none_left c.self.inside.pre.now.paths.items c.self.inside.addresses.now c.self.inside.branches.items c.refill.new.branches.items c.refill.new.expanded.items c.refill.ensures.refills
