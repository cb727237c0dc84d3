use Rattle.std.proofs.Common.{◌≤◌, length, vec_capacity}
use Rattle.taps_candidate.specs.Branches.{Expands}
use Rattle.taps_candidate.proofs.branches.refill.Given as goal

abbrev pub invariant-loop-branches : goal.invariant-loop-branches
invariant-loop-branches l = record {
  expands : Expands l.pre.paths.items l.addresses l.fn.branches.items l.branches.items l.expanded.items;
  room : length l.addresses ≤ vec_capacity l.expanded;
}

abbrev pub decreases-loop-branches : goal.decreases-loop-branches
decreases-loop-branches l = length l.branches.items
