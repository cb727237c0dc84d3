use Rattle.std.proofs.Common.{ap, ◌∙◌, length, arith}
use Rattle.taps_session.proofs.ListenPlans.{as_literals, few_locals, not_too_many}
use Rattle.taps_session.proofs.plan.local_addresses.Goals as goal

pub returns-in-Ok-clause-are : goal.returns-in-Ok-clause-are
returns-in-Ok-clause-are c = c.in-Ok.ensures.derives.0 ∙ as_literals c.args.pre.now c.args.pre.now.hosts _ c.in_ok-literals.ensures

pub returns-in-Ok-clause-few : goal.returns-in-Ok-clause-few
returns-in-Ok-clause-few c =
    let same = ap length (c.in-Ok.ensures.derives.0 ∙ as_literals c.args.pre.now c.args.pre.now.hosts _ c.in_ok-literals.ensures) in
    let few = few_locals c.args.pre.now in
    let all = c.requires in
    omega arith

pub unreachable-requires : goal.unreachable-requires
unreachable-requires c = not_too_many c.args.pre.now c.args.pre.now.hosts _ _ _ c.requires c.in-Err-TooMany.field-0-is c.in_ok-literals.ensures c.in-Err-TooMany.ensures.derives
