use Rattle.std.proofs.Common.{◌≡◌, ◌≤◌, length, refl, sym, ◌∙◌, rules, arith}
use Rattle.taps_endpoint.proofs.MachineRuns.{answer_steps}
use Rattle.taps_endpoint.proofs.machine.read.Goals as goal

pub loop-index-preserved : goal.loop-index-preserved
loop-index-preserved g c =
    let steps = answer_steps g.M.Machine.step g.M.Machine.at_end c.loop-index.state c.args.text.now c.loop-index.index in
    (c.if-not-advance.ensures.small refl, c.loop-index.invariant.1 ∙ steps.more c.advance.new.self c.loop-index-test.true c.if-not-advance.ensures.steps)

pub returns-then-not-advance : goal.returns-then-not-advance
returns-then-not-advance g c =
    let steps = answer_steps g.M.Machine.step g.M.Machine.at_end c.loop-index.state c.args.text.now c.loop-index.index in
    sym (c.loop-index.invariant.1 ∙ steps.stops c.loop-index-test.true c.if-not-advance.ensures.steps)

pub returns : goal.returns
returns g c =
    let steps = answer_steps g.M.Machine.step g.M.Machine.at_end c.loop-index.state c.args.text.now c.loop-index.index in
    let le : length c.args.text.now ≤ c.loop-index.index = search (rules, arith) in
    let is : length c.args.text.now ≡ c.loop-index.index = search (rules, arith) in
    c.ok_or.ensures.value ∙ (rw (c.finish.ensures, is) (sym (c.loop-index.invariant.1 ∙ steps.ends le)))
