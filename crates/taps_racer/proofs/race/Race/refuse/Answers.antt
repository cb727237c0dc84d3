use Rattle.std.proofs.Common.{◌≡◌, ◌≤◌, ◌<◌, ◌+◌, rules, [], ◌∷◌, ◌++◌, subst, ap, sym, ◌∙◌, length, arith, length-append}
use Rattle.taps_racer.specs.declared.attempt.Attempt.TheVariants.{Refused, Started}
use Rattle.taps_racer.specs.declared.attempt.State.TheVariants.{Pending}
use Rattle.taps_racer.specs.Kept.{standing_of}
use Rattle.taps_racer.proofs.Index.{index_refused}
use Rattle.taps_racer.proofs.race.Race.refuse.Goals as goal

pub invariant_of-self : goal.invariant_of-self
invariant_of-self c =
    let r = c.self.inside in
    let h = c.self.invariant in
    let room : length r.attempts.items < length r.gaps.items = subst (λ k. length k.attempts < length k.rules.gaps) (sym c.self.view_is) c.requires.room in
    let more = ap length c.add.ensures.items ∙ length-append r.attempts.items (Refused ∷ []) in
    record {
      bounded = record {
        few = h.bounded.few;
        short = h.bounded.short;
        timeout = h.bounded.timeout;
        cancel = h.bounded.cancel;
        begun = h.bounded.begun;
        last = c.requires.moment;
        last_attempt = c.requires.moment;
        attempts = omega (arith, more, room);
      };
      room = omega (arith, h.room, c.add.ensures.room);
      order_room = h.order_room;
      index =
          rw c.add.ensures.items (index_refused r.attempts.items r.ready r.order.items r.passed r.pending r.broken h.index);
    }
