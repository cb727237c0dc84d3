use Rattle.std.proofs.Common.{◌≡◌, ◌≤◌, ◌-◌, rules, true, [], Some, subst, ap, sym, ◌∙◌, map, length, arith}
use Rattle.std.specs.List.{filter_map}
use Rattle.std.proofs.lemmas.List.{length-map, with_items_is}
use Rattle.taps_socket.specs.RaceSockets.{has}
use Rattle.taps_racer.specs.declared.attempt.State.TheVariants as states
use Rattle.taps_racer.specs.Attempts.{marked, pending_socket}
use Rattle.taps_racer.specs.Kept.{standing_of}
use Rattle.taps_racer.specs.Order.{IsIndex, one_if}
use Rattle.taps_racer.proofs.Index.{index_completed}
use Rattle.taps_racer.proofs.race.Race.complete.Goals as goal

pub invariant_of-self : goal.invariant_of-self
invariant_of-self c =
    let r = c.self.inside in
    let h = c.self.invariant in
    let change = marked c.args.socket states.Completed in
    let written = c.mark.ensures ∙ ap (map change) c.deref_mut.ensures.value in
    let size : length c.mark.new.attempts ≡ r.attempts.len = ap length written ∙ length-map r.attempts.items change ∙ search rules in
    let items = with_items_is r.attempts c.mark.new.attempts size ∙ written in
    let pending = subst (λ k. has (standing_of k).pending c.args.socket ≡ true) (sym c.self.view_is) c.requires in
    record {
      bounded = record {
        few = h.bounded.few;
        short = h.bounded.short;
        timeout = h.bounded.timeout;
        cancel = h.bounded.cancel;
        begun = h.bounded.begun;
        last = h.bounded.last;
        last_attempt = h.bounded.last_attempt;
        attempts = (let same = ap length items ∙ length-map r.attempts.items change in omega (arith, same, h.bounded.attempts));
      };
      room = h.room;
      order_room = h.order_room;
      index =
          subst (λ xs. IsIndex xs r.ready r.order.items r.passed (r.pending - 1) r.broken) (sym items)
          (index_completed r.attempts.items r.ready r.order.items r.passed r.pending r.broken c.args.socket h.index pending);
    }
