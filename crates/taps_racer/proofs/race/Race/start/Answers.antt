use Rattle.std.proofs.Common.{◌≡◌, ◌≤◌, ◌<◌, ◌+◌, ℕ, List, false, get_or, rules, [], ◌∷◌, ◌++◌, subst, ap, sym, ◌∙◌, length, arith, length-append}
use Rattle.taps_racer.specs.declared.attempt.Attempt.TheVariants.{Refused, Started}
use Rattle.taps_racer.specs.declared.attempt.State.TheVariants.{Pending}
use Rattle.taps_socket.specs.RaceSockets.{has}
use Rattle.taps_racer.specs.declared.order.Numbered.{Numbered}
use Rattle.taps_racer.specs.Kept.{standing_of}
use Rattle.taps_racer.proofs.Index.{index_started, few_pending}
use Rattle.taps_racer.proofs.race.Race.start.Goals as goal

pub overflow_add-self : goal.overflow_add-self
overflow_add-self c =
    let h = c.self.invariant in
    omega (arith, few_pending c.self.inside.attempts.items c.self.inside.pending h.index.count, h.bounded.attempts, h.bounded.few)

pub invariant_of-self : goal.invariant_of-self
invariant_of-self c =
    let r = c.self.inside in
    let h = c.self.invariant in
    let room : length r.attempts.items < length r.gaps.items = subst (λ k. length k.attempts < length k.rules.gaps) (sym c.self.view_is) c.requires.room in
    let more = ap length c.add.ensures.items ∙ length-append r.attempts.items (Started c.args.socket Pending ∷ []) in
    let fresh = subst (λ k. has (standing_of k).started c.args.socket ≡ false) (sym c.self.view_is) c.requires.new_socket in
    let size : c.len.result ≡ length r.attempts.items = search rules in
    let within = subst (λ (order : List Numbered). c.place_for-place.result ≤ length order) c.deref.ensures.value c.place_for-place.ensures.within in
    let below = subst (λ (order : List Numbered). (k : ℕ) (d : Numbered) → k < c.place_for-place.result → (get_or order k d).socket < c.args.socket) c.deref.ensures.value c.place_for-place.ensures.below in
    let above = subst (λ (order : List Numbered). (k : ℕ) (d : Numbered) → c.place_for-place.result ≤ k → k < length order → c.args.socket ≤ (get_or order k d).socket) c.deref.ensures.value c.place_for-place.ensures.above in
    record {
      bounded = record {
        few = h.bounded.few;
        short = h.bounded.short;
        timeout = h.bounded.timeout;
        cancel = h.bounded.cancel;
        begun = h.bounded.begun;
        last = c.requires.moment;
        last_attempt = c.requires.moment;
        attempts = omega (arith, more, room);
      };
      room = omega (arith, h.room, c.add.ensures.room);
      order_room = omega (arith, h.order_room, c.insert.ensures.room);
      index =
          rw (c.add.ensures.items, c.insert.ensures.items, size, c.min-self-inside.ensures)
          (index_started r.attempts.items r.ready r.order.items r.passed r.pending r.broken c.args.socket c.place_for-place.result h.index fresh within below above);
    }
