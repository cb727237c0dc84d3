-- The fields of a race, as what is kept of it.
use Rattle.std.specs.Prelude.{◌≤◌, length, vec_capacity}
use Rattle.taps_racer.specs.declared.race.Race.TheInside.{Inside}
use Rattle.taps_racer.specs.Kept.{Kept, IsBounded}
use Rattle.taps_racer.specs.Order.{IsIndex}

-- they are it, with the lists that the vectors hold
abbrev pub kept_of : Inside → Kept
kept_of r =
    record {
      rules = record { gaps = r.gaps.items; timeout = r.timeout; cancel = r.cancel };
      begun = r.begun;
      last = r.last;
      last_attempt = r.last_attempt;
      faulted = r.faulted;
      ready = r.ready;
      attempts = r.attempts.items;
    }

-- the bounds by which its sums of moments fit, room for an attempt of each leaf, and what is kept beside the attempts
pub record IsKept (r : Inside) : Type 0 where
  pub bounded : IsBounded (kept_of r)
  pub room : length r.gaps.items ≤ vec_capacity r.attempts
  pub order_room : length r.gaps.items ≤ vec_capacity r.order
  pub index : IsIndex r.attempts.items r.ready r.order.items r.passed r.pending r.broken
