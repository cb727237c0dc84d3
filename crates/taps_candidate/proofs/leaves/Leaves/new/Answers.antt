use Rattle.std.proofs.Common.{refl, rules, subst}
use Rattle.taps_candidate.specs.declared.leaves.Leaves.TheInside.{Inside}
use Rattle.taps_candidate.specs.Expanding.{progress_of}
use Rattle.taps_candidate.specs.Gathering.{gathering_of}
use Rattle.taps_candidate.specs.Progress.{IsStart}
use Rattle.taps_candidate.proofs.Giving.{starts, expanding_new}
use Rattle.taps_candidate.proofs.leaves.Leaves.new.Goals as goal

pub invariant_of-result : goal.invariant_of-result
invariant_of-result c = expanding_new _ c.requires c.in_ok-branches.ensures c.in_ok-expanded.ensures.items refl (search rules)

pub returns-clause-start : goal.returns-clause-start
returns-clause-start c =
    let r : Inside = record { pre = c.args.pre; role = c.args.role; addresses = c.as_slice.result; branches = c.in_ok-branches.branches; expanded = c.in_ok-expanded.expanded; taken = 0 } in
    subst (λ list. IsStart (gathering_of c.args.pre.now c.args.role list) (progress_of r)) c.as_slice.ensures
    (starts r c.in_ok-branches.ensures c.in_ok-expanded.ensures.items refl)
