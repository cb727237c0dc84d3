use Rattle.taps_racer.specs.Steps.{used_of}
use Rattle.taps_racer.proofs.Telling.{goes_on, finished_told}
use Rattle.taps_racer.proofs.events.tell_all.Goals as goal

pub returns-clause-told : goal.returns-clause-told
returns-clause-told c = (
  used_of c.args.racer.now c.args.events.now,
  c.in_ok-tell_each.ensures.used,
  λ first t target run. rw c.in_ok-tell_each.ensures.racer (goes_on c.args.racer.now first t target c.args.events.now run),
)

pub returns-clause-over : goal.returns-clause-over
returns-clause-over c = finished_told c.args.racer.now _ c.args.events.now c.args.used.now.items _ c.in_ok-tell_each.ensures.racer c.in_ok-tell_each.ensures.used
