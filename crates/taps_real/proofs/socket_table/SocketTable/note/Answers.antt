use Rattle.std.proofs.Common.{reverse, subst, sym, arith}
use Rattle.taps_real.specs.Tables.{IsQuiet}
use Rattle.taps_real.proofs.Channels.{channels_still}
use Rattle.taps_real.proofs.Kept.{kept_quiet, quiet_streams, quiet_closed, newest}
use Rattle.taps_real.proofs.OpenSockets.{open_still}
use Rattle.taps_real.proofs.socket_table.SocketTable.note.Goals as goal

pub invariant_of-self : goal.invariant_of-self
invariant_of-self c =
    let s = c.self.inside in
    let t = reverse s.items.items in
    let quiet : IsQuiet c.args.item t = subst (λ v. IsQuiet c.args.item v.trace) (sym c.self.view_is) c.requires.quiet in
    let kept = kept_quiet t s.told c.args.at _ c.args.item s.pending.items c.self.invariant.0 quiet c.requires.next.fits in
    let channels = channels_still t _ _ s.channels.items (λ q. quiet_streams c.args.item t q quiet) c.self.invariant.1 in
    let items = c.self.invariant.2.room in
    let entries = c.self.invariant.3.room in
    let others = c.self.invariant.4.room in
    let pending = c.self.invariant.5.room in
    rw (newest s.items.items _ c.args.item c.add_copy.ensures.items) (kept, channels, record { room = omega arith }, record { room = omega arith }, record { room = omega arith }, record { room = omega arith }, open_still t _ _ s.entries.items (quiet_closed c.args.item t quiet) c.self.invariant.6)
