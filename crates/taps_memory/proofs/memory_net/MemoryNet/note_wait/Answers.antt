use Rattle.std.proofs.Common.{reverse, sym, subst, arith}
use Rattle.taps_socket.specs.declared.item.Item.TheVariants.{Waited}
use Rattle.taps_socket.specs.Shows.{EndsInTime}
use Rattle.taps_memory.proofs.Kept.{newest, kept_waited}
use Rattle.taps_memory.proofs.Linked.{linked_waited}
use Rattle.taps_memory.proofs.Named.{completed_started}
use Rattle.taps_memory.proofs.memory_net.MemoryNet.note_wait.Goals as goal

pub invariant_of-self : goal.invariant_of-self
invariant_of-self c =
    let s = c.self.inside in
    let t = reverse s.items.items in
    let answer = c.args.answer in
    let ends : EndsInTime answer.how c.args.until answer.at t = subst (λ v. EndsInTime answer.how c.args.until answer.at v.trace) (sym c.self.view_is) c.requires.ends in
    let kept = kept_waited t s.told _ _ c.args.until answer.at answer.how s.pending.items _ _ c.self.invariant.0 c.requires.next.fits ends c.forget_told.ensures.rest in
    let linked = linked_waited t _ c.args.until answer.at answer.how _ (completed_started t c.args.until answer.at answer.how ends) c.self.invariant.1 in
    let items = c.self.invariant.3.room in
    let listening = c.self.invariant.4.room in
    let pending = c.self.invariant.5.room in
    rw (newest s.items.items _ (Waited c.args.until answer.at answer.how) c.add_copy.ensures.items)
    (kept, linked, c.self.invariant.2, record { room = omega arith }, record { room = omega arith }, record { room = omega arith }, c.self.invariant.6)
