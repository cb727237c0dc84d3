use Rattle.std.proofs.Common.{◌-◌, length}
use Rattle.taps_racer.specs.Order.{ArePassed}
use Rattle.taps_racer.proofs.order.first_loser.Given as goal

abbrev pub invariant-loop-place : goal.invariant-loop-place
invariant-loop-place l = ArePassed l.attempts l.ready l.order l.place

abbrev pub decreases-loop-place : goal.decreases-loop-place
decreases-loop-place l = length l.order - l.place
