use Rattle.std.proofs.Common.{◌≡◌, [], ◌++◌, take}
use Rattle.std.specs.List.{flat_map}
use Rattle.taps_preconnection.specs.PathOffers.{path_of}
use Rattle.taps_stack.specs.StackTable.{stacks}
use Rattle.taps_candidate.specs.Branches.{of_stack}
use Rattle.taps_candidate.specs.Gathering.{gathering_of}
use Rattle.taps_candidate.proofs.branches.add_stacks.Given as goal

abbrev pub invariant-loop-stack : goal.invariant-loop-stack
invariant-loop-stack l =
    l.branches.items
    ≡ l.fn.branches.items ++ flat_map (of_stack (gathering_of l.pre l.role []) (l.path, path_of l.pre l.path)) (take l.stack-index stacks)
