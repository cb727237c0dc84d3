use Rattle.std.proofs.Common.{reverse, refl, arith}
use Rattle.taps_socket.specs.declared.item.Item.TheVariants.{Listening}
use Rattle.taps_real.proofs.Channels.{with_fresh, channels_listening}
use Rattle.taps_real.proofs.Kept.{kept_listening, newest, number_of}
use Rattle.taps_real.proofs.OpenSockets.{open_given}
use Rattle.taps_real.proofs.socket_table.SocketTable.note_listening.Goals as goal

pub invariant_of-self : goal.invariant_of-self
invariant_of-self c =
    let s = c.self.inside in
    let t = reverse s.items.items in
    let number = number_of c.args.socket _ _ _ c.requires.number c.self.view_is c.self.invariant.0.given_are in
    let kept = kept_listening t s.told _ _ c.args.socket c.args.at c.args.target s.pending.items c.self.invariant.0 c.requires.next.fits number c.add.ensures.len in
    let more = with_fresh s.channels.items _ _ _ c.add-2.ensures.items c.new.ensures in
    let channels = channels_listening t _ _ c.args.socket c.args.at c.args.target s.channels.items _ _ c.self.invariant.1 number c.add.ensures.len more c.is_stream.ensures in
    let items = c.self.invariant.2.room in
    let entries = c.self.invariant.3.room in
    let others = c.self.invariant.4.room in
    let pending = c.self.invariant.5.room in
    rw (newest s.items.items _ (Listening c.args.target c.args.socket c.args.at) c.add_copy.ensures.items)
    (kept, channels, record { room = omega arith }, record { room = omega arith }, record { room = omega arith }, record { room = omega arith }, open_given t _ _ _ s.entries.items _ c.args.held c.self.invariant.6 c.add.ensures.len c.self.invariant.0.named_below refl c.add.ensures.items c.requires.opened)
