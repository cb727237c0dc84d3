use Rattle.std.proofs.Common.{◌≡◌, true, reverse, sym, refl, subst, arith}
use Rattle.taps_socket.specs.declared.item.Item.TheVariants.{Closed}
use Rattle.taps_socket.specs.RaceSockets.{has}
use Rattle.taps_socket.specs.LiveSockets.{named}
use Rattle.taps_real.proofs.Channels.{channels_still}
use Rattle.taps_real.proofs.Kept.{kept_closed, newest}
use Rattle.taps_real.proofs.OpenSockets.{open_closed}
use Rattle.taps_real.proofs.socket_table.SocketTable.note_close.Goals as goal

pub invariant_of-self : goal.invariant_of-self
invariant_of-self c =
    let s = c.self.inside in
    let t = reverse s.items.items in
    let there : has (named t) c.args.socket ≡ true = subst (λ v. has (named v.trace) c.args.socket ≡ true) (sym c.self.view_is) c.requires.named in
    let kept = kept_closed t s.told _ c.args.socket s.pending.items _ c.self.invariant.0 there c.forget.ensures.rest in
    let channels = channels_still t _ _ s.channels.items (λ q. refl) c.self.invariant.1 in
    let items = c.self.invariant.2.room in
    let entries = c.self.invariant.3.room in
    let others = c.self.invariant.4.room in
    let pending = c.self.invariant.5.room in
    rw (newest s.items.items _ (Closed c.args.socket) c.add_copy.ensures.items, c.close_at.ensures.len)
    (kept, channels, record { room = omega arith }, record { room = omega arith }, record { room = omega arith }, record { room = omega arith }, open_closed t _ c.args.socket s.entries.items _ c.self.invariant.6 c.close_at.ensures.items)
