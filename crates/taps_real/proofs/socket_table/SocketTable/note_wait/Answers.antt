use Rattle.std.proofs.Common.{reverse, sym, refl, subst, arith}
use Rattle.taps_socket.specs.declared.item.Item.TheVariants.{Waited}
use Rattle.taps_socket.specs.Shows.{EndsInTime}
use Rattle.taps_real.proofs.Channels.{channels_still}
use Rattle.taps_real.proofs.Kept.{kept_waited, newest}
use Rattle.taps_real.proofs.OpenSockets.{open_still}
use Rattle.taps_real.proofs.socket_table.SocketTable.note_wait.Goals as goal

pub invariant_of-self : goal.invariant_of-self
invariant_of-self c =
    let s = c.self.inside in
    let t = reverse s.items.items in
    let answer = c.args.answer in
    let ends : EndsInTime answer.how c.args.until answer.at t = subst (λ v. EndsInTime answer.how c.args.until answer.at v.trace) (sym c.self.view_is) c.requires.ends in
    let kept = kept_waited t s.told _ c.args.until answer.at answer.how s.pending.items _ c.self.invariant.0 c.requires.next.fits ends c.forget_told.ensures.rest in
    let channels = channels_still t _ _ s.channels.items (λ q. refl) c.self.invariant.1 in
    let items = c.self.invariant.2.room in
    let entries = c.self.invariant.3.room in
    let others = c.self.invariant.4.room in
    let pending = c.self.invariant.5.room in
    rw (newest s.items.items _ (Waited c.args.until answer.at answer.how) c.add_copy.ensures.items)
    (kept, channels, record { room = omega arith }, record { room = omega arith }, record { room = omega arith }, record { room = omega arith }, open_still t _ _ s.entries.items refl c.self.invariant.6)
