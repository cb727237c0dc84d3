use Rattle.std.proofs.Common.{◌≤◌, length}
use Rattle.taps_frames_bench.proofs.read_back.Given as goal

abbrev pub invariant-loop-rest : goal.invariant-loop-rest
invariant-loop-rest g l = length l.rest ≤ length l.initial.rest

abbrev pub decreases-loop-rest : goal.decreases-loop-rest
decreases-loop-rest g l = length l.rest
