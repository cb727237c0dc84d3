use Rattle.std.proofs.Common.{◌≡◌, ◌++◌, length}
use Rattle.taps_candidate.specs.Gathering.{gathering_of}
use Rattle.taps_candidate.specs.Plan.{leaves_of}
use Rattle.taps_candidate.proofs.plan.collect_leaves.Given as goal

abbrev pub invariant-loop-path : goal.invariant-loop-path
invariant-loop-path l = record {
  collected : l.collected.items ≡ l.leaves.given;
  all : l.leaves.given ++ l.leaves.to_come ≡ leaves_of (gathering_of l.pre l.fn.role l.addresses.items);
}

abbrev pub decreases-loop-path : goal.decreases-loop-path
decreases-loop-path l = length l.leaves.to_come
