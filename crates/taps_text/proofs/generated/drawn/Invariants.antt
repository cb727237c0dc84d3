use Rattle.std.proofs.Common.{◌≡◌, ◌-◌}
use Rattle.taps_text.specs.Generated.{drawn}
use Rattle.taps_text.proofs.generated.drawn.Given as goal

abbrev pub invariant-loop : goal.invariant-loop
invariant-loop l = drawn l.x (l.place - l.counter) ≡ drawn l.number l.place
