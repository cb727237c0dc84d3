use Rattle.std.proofs.Common.{◌≡◌, true, reverse, refl, ap, sym, ◌∙◌, subst, arith}
use Rattle.taps_socket.specs.declared.item.Item.TheVariants.{Accepted}
use Rattle.taps_socket.specs.RaceSockets.{has}
use Rattle.taps_socket.specs.LiveSockets.{named}
use Rattle.taps_socket.specs.Sides.{carries_stream}
use Rattle.taps_real.proofs.Channels.{with_fresh, channels_accepted}
use Rattle.taps_real.proofs.Kept.{kept_accepted, newest, number_of}
use Rattle.taps_real.proofs.OpenSockets.{open_given}
use Rattle.taps_real.proofs.socket_table.SocketTable.note_accepted.Goals as goal

pub invariant_of-self : goal.invariant_of-self
invariant_of-self c =
    let s = c.self.inside in
    let t = reverse s.items.items in
    let number = number_of c.args.socket _ _ _ c.requires.number c.self.view_is c.self.invariant.0.given_are in
    let there : has (named t) c.args.listener ≡ true = subst (λ v. has (named v.trace) c.args.listener ≡ true) (sym c.self.view_is) c.requires.named in
    let kept = kept_accepted t s.told _ _ c.args.listener c.args.socket c.args.at s.pending.items c.self.invariant.0 c.requires.next.fits number c.add.ensures.len there in
    let more = with_fresh s.channels.items _ _ _ c.add-2.ensures.items c.new.ensures in
    let carries = c.is_stream-stream.ensures ∙ sym (ap (λ v. carries_stream v.trace c.args.listener) c.self.view_is) in
    let channels = channels_accepted t _ _ c.args.listener c.args.socket c.args.at s.channels.items _ _ c.self.invariant.1 number c.add.ensures.len more carries in
    let items = c.self.invariant.2.room in
    let entries = c.self.invariant.3.room in
    let others = c.self.invariant.4.room in
    let pending = c.self.invariant.5.room in
    rw (newest s.items.items _ (Accepted c.args.listener c.args.socket c.args.at) c.add_copy.ensures.items)
    (kept, channels, record { room = omega arith }, record { room = omega arith }, record { room = omega arith }, record { room = omega arith }, open_given t _ _ _ s.entries.items _ c.args.held c.self.invariant.6 c.add.ensures.len c.self.invariant.0.named_below refl c.add.ensures.items c.requires.opened)
