use Rattle.std.proofs.Common.{◌≡◌, [], take}
use Rattle.std.specs.List.{enumerate_from, flat_map}
use Rattle.taps_candidate.specs.Branches.{of_path}
use Rattle.taps_candidate.specs.Gathering.{gathering_of}
use Rattle.taps_candidate.proofs.branches.gather_branches.Given as goal

abbrev pub invariant-loop-path : goal.invariant-loop-path
invariant-loop-path l =
    l.branches.items ≡ flat_map (of_path (gathering_of l.pre l.role [])) (take l.path (enumerate_from 0 l.pre.paths.items))
