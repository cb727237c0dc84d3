use Rattle.std.proofs.Common.{◌≡◌, ◌+◌, ◌≤◌, ◌++◌, length, drop}
use Rattle.taps_racer.specs.Steps.{heard_all, used_of}
use Rattle.taps_racer.proofs.events.tell_each.Given as goal

abbrev pub invariant-loop-event : goal.invariant-loop-event
invariant-loop-event l =
    record {
      racer : heard_all l.racer (drop l.event-index l.events) ≡ heard_all l.fn.racer l.events;
      used : l.used.items ++ used_of l.racer (drop l.event-index l.events) ≡ l.fn.used.items ++ used_of l.fn.racer l.events;
      room : length l.events ≤ l.used.spare + l.event-index;
    }
