use Rattle.std.proofs.Common.{◌≡◌, true, subst, sym}
use Rattle.taps_racer.proofs.Losers.{first_is_least, none_is_least}
use Rattle.taps_racer.specs.declared.order.Numbered.{Numbered}
use Rattle.taps_racer.specs.Order.{is_loser}
use Rattle.taps_racer.proofs.order.least_loser.Goals as goal

pub returns-then-place-order : goal.returns-then-place-order
returns-then-place-order c =
    let it : Numbered = c.number_at.result in
    let loser = subst (λ n. is_loser c.args.attempts.now c.args.ready n ≡ true) (sym (c.number_at.ensures it)) (c.first_loser-place.ensures.loser it c.if-place-order.true) in
    sym (first_is_least c.args.attempts.now c.args.ready c.args.order.now c.first_loser-place.result it c.requires.numbered c.first_loser-place.ensures.passed c.if-place-order.true
    (c.number_at.ensures it) loser)

pub returns-else-place-order : goal.returns-else-place-order
returns-else-place-order c =
    sym (none_is_least c.args.attempts.now c.args.ready c.args.order.now c.first_loser-place.result c.requires.numbered c.first_loser-place.ensures.passed c.if-place-order.false)
