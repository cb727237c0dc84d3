use Rattle.taps_candidate.proofs.Expanded.{IsFirstSoFar}
use Rattle.taps_candidate.proofs.branches.first_branch.Given as goal

abbrev pub invariant-loop-place : goal.invariant-loop-place
invariant-loop-place l = IsFirstSoFar l.branches l.place l.first
