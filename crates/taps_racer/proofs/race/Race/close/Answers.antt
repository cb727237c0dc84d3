use Rattle.std.proofs.Common.{◌≡◌, ◌≤◌, ◌-◌, rules, true, [], Some, subst, ap, sym, ◌∙◌, map, length, arith}
use Rattle.std.specs.List.{filter_map}
use Rattle.std.proofs.lemmas.List.{length-map, with_items_is}
use Rattle.taps_socket.specs.RaceSockets.{has}
use Rattle.taps_racer.specs.declared.attempt.State.TheVariants as states
use Rattle.taps_racer.specs.Attempts.{marked, pending_socket}
use Rattle.taps_racer.specs.Kept.{standing_of}
use Rattle.taps_racer.specs.Order.{ArePassed, one_if, without}
use Rattle.std.specs.Vec.{with_items}
use Rattle.taps_racer.proofs.Index.{index_closed, index_passed}
use Rattle.taps_racer.proofs.race.Race.close.Goals as goal

pub invariant_of-self : goal.invariant_of-self
invariant_of-self c =
    let r = c.self.inside in
    let h = c.self.invariant in
    let change = marked c.args.socket states.Closed in
    let written = c.mark.ensures ∙ ap (map change) c.deref_mut.ensures.value in
    let size : length c.mark.new.attempts ≡ r.attempts.len = ap length written ∙ length-map r.attempts.items change ∙ search rules in
    let items = with_items_is r.attempts c.mark.new.attempts size ∙ written in
    let ones : c.one_if-pending.result ≡ one_if (has (filter_map pending_socket r.attempts.items) c.args.socket) =
    c.one_if-pending.ensures ∙ ap one_if (c.is_pending.ensures ∙ ap (λ xs. has (filter_map pending_socket xs) c.args.socket) c.deref.ensures.value) in
    let closed = index_closed r.attempts.items r.ready r.order.items r.passed r.pending r.broken c.args.socket h.index in
    let passed = subst (λ xs. ArePassed xs r.ready r.order.items c.first_loser-self-inside.result) items
    (subst (λ order. ArePassed (with_items r.attempts c.mark.new.attempts).items r.ready order c.first_loser-self-inside.result) c.deref-5.ensures.value
    (subst (λ xs. ArePassed xs r.ready c.deref-5.result.now c.first_loser-self-inside.result) c.deref-4.ensures.value c.first_loser-self-inside.ensures.passed)) in
    record {
      bounded = record {
        few = h.bounded.few;
        short = h.bounded.short;
        timeout = h.bounded.timeout;
        cancel = h.bounded.cancel;
        begun = h.bounded.begun;
        last = h.bounded.last;
        last_attempt = h.bounded.last_attempt;
        attempts = (let same = ap length items ∙ length-map r.attempts.items change in omega (arith, same, h.bounded.attempts));
      };
      room = h.room;
      order_room = h.order_room;
      index =
          rw (items, ones, c.without-self-inside.ensures)
          (index_passed (map change r.attempts.items) r.ready r.order.items r.passed c.first_loser-self-inside.result (r.pending - one_if (has (filter_map pending_socket r.attempts.items) c.args.socket)) (without r.broken c.args.socket) closed passed);
    }
