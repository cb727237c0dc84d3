use Rattle.std.proofs.Common.{[], get_or}
use Rattle.std.proofs.lemmas.List.{get_or_default}
use Rattle.taps_preconnection.specs.PathOffers.{path_of}
use Rattle.taps_stack.specs.declared.stack.Stack.{Stack}
use Rattle.taps_stack.specs.declared.stack.Stack.TheVariants.{Tcp}
use Rattle.taps_stack.specs.StackTable.{stacks}
use Rattle.taps_candidate.specs.Branches.{of_stack}
use Rattle.taps_candidate.specs.Gathering.{gathering_of}
use Rattle.taps_candidate.proofs.Steps.{each_more}
use Rattle.taps_candidate.proofs.branches.add_stacks.Goals as goal

pub loop-stack-preserved : goal.loop-stack-preserved
loop-stack-preserved c =
    let stack : Stack = get_or stacks c.loop-stack.stack-index Tcp in
    each_more (of_stack (gathering_of c.args.pre.now c.args.role []) (c.args.path, path_of c.args.pre.now c.args.path)) stacks c.loop-stack.stack-index stack
    c.args.branches.now.items c.loop-stack.branches.items _ c.loop-stack-test.true (get_or_default stacks c.loop-stack.stack-index stack Tcp c.loop-stack-test.true)
    c.loop-stack.invariant c.in_ok-add_stack.ensures
