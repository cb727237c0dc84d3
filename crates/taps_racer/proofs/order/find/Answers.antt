use Rattle.std.proofs.Common.{arith, subst, sym}
use Rattle.taps_racer.proofs.Numbers.{finds_at, finds_none}
use Rattle.taps_racer.specs.Order.{FindsIn}
use Rattle.taps_racer.proofs.order.find.Goals as goal

pub returns-then-place-order : goal.returns-then-place-order
returns-then-place-order c = λ attempts numbered.
    subst (FindsIn attempts c.args.socket) (sym c.place_of.ensures)
    (finds_at attempts c.args.order.now c.place_for-place.result c.args.socket c.number_at.result numbered c.if-place-order.true (c.number_at.ensures c.number_at.result)
    c.place_for-place.ensures.below c.place_for-place.ensures.above)

pub returns-else-place-order : goal.returns-else-place-order
returns-else-place-order c = λ attempts numbered.
    finds_none attempts c.args.order.now c.place_for-place.result c.args.socket numbered c.place_for-place.ensures.below c.place_for-place.ensures.above
    (λ d lt same. omega (arith, c.if-place-order.false, lt))
