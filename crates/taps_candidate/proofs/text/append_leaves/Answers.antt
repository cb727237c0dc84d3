use Rattle.taps_base.specs.declared.gap.Gap.TheVariants.{After}
use Rattle.taps_candidate.specs.PlanText.{interface_of}
use Rattle.taps_candidate.proofs.Lines.{line_put, lines_end}
use Rattle.taps_candidate.proofs.text.append_leaves.Goals as goal

pub loop-number-preserved : goal.loop-number-preserved
loop-number-preserved c =
    line_put (interface_of c.args.pre.now) _ _ _ c.args.leaves.now c.args.gaps.now c.loop-number.number c.index-leaves-number.result (After 0)
    c.loop-number-test.true c.requires.even c.index-leaves-number.is c.loop-number.invariant c.in_ok-append_leaf.ensures

pub returns : goal.returns
returns c = lines_end (interface_of c.args.pre.now) _ _ c.args.leaves.now c.args.gaps.now c.loop-number.number c.loop-number-test.false c.loop-number.invariant
