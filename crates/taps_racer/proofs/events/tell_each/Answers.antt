use Rattle.std.proofs.Common.{◌∙◌, arith}
use Rattle.taps_racer.proofs.Telling.{heard_next, used_next}
use Rattle.taps_racer.proofs.events.tell_each.Goals as goal

pub loop-event-preserved : goal.loop-event-preserved
loop-event-preserved c =
    record {
      racer = rw c.tell_one.ensures.racer (heard_next c.loop-event.racer c.args.events.now c.loop-event.event-index _ c.loop-event-test.true ∙ c.loop-event.invariant.racer);
      used = rw (c.tell_one.ensures.racer, c.tell_one.ensures.items) (used_next c.loop-event.racer c.args.events.now c.loop-event.event-index _ c.loop-event.used.items c.loop-event-test.true ∙ c.loop-event.invariant.used);
      room = omega arith;
    }
