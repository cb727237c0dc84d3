use Rattle.std.proofs.Common.{suc, get_or, drop, drop-cons, ap, sym, ◌∙◌, arith}
use Rattle.taps_log.specs.Reading.{value_behind}
use Rattle.taps_log.proofs.Numbers.{passes}
use Rattle.taps_log.proofs.parts.value_of.Goals as goal

pub returns-then-value-digit : goal.returns-then-value-digit
returns-then-value-digit c =
    let i = c.loop-byte.byte-index in
    let digits = c.args.digits.now in
    let front = drop-cons digits i 0 c.loop-byte-test.true in
    passes c.loop-byte.value (get_or digits i 0) _ (drop (suc i) digits)
    (sym (ap (value_behind c.loop-byte.value) front) ∙ c.loop-byte.invariant.same)
    (omega (arith, c.from-digit.ensures, c.if-value-digit.true))
