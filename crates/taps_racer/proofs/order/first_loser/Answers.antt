use Rattle.std.proofs.Common.{rules, sym, ◌∙◌}
use Rattle.taps_racer.proofs.Numbers.{pass_one}
use Rattle.taps_racer.proofs.order.first_loser.Goals as goal

pub loop-place-preserved : goal.loop-place-preserved
loop-place-preserved c =
    pass_one c.args.attempts.now c.args.ready c.args.order.now c.loop-place.place c.number_at.result c.loop-place.invariant c.loop-place-test.true
    (c.number_at.ensures c.number_at.result) (sym c.is_loser.ensures ∙ search rules)
