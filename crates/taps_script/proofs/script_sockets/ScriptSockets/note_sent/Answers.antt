use Rattle.std.proofs.Common.{◌≡◌, ◌<◌, true, reverse, length, refl, sym, subst, arith}
use Rattle.taps_socket.specs.RaceSockets.{has}
use Rattle.taps_socket.specs.LiveSockets.{named}
use Rattle.taps_script.proofs.ScriptKept.{channels_set, some_channel}
use Rattle.taps_script.proofs.Traffics.{within_sent, kept_at}
use Rattle.taps_script.proofs.script_sockets.ScriptSockets.note_sent.Goals as goal

pub invariant_of-self : goal.invariant_of-self
invariant_of-self c =
    let s = c.self.inside in
    let t = reverse s.items.items in
    let there : has (named t) c.args.socket ≡ true = subst (λ v. has (named v.trace) c.args.socket ≡ true) (sym c.self.view_is) c.requires.named in
    let below = c.self.invariant.0.named_below c.args.socket there in
    let count = c.self.invariant.1.count in
    let here : c.args.socket < length s.channels.items = omega arith in
    let (channel, at) = some_channel s.channels.items c.args.socket here in
    let is = c.self.invariant.1.each c.args.socket channel at in
    let kept = kept_at s.script t s.clock s.told s.waits s.started c.args.at s.events.items c.self.invariant.0 c.requires.fits in
    let channels = channels_set s.script t s.started c.args.socket s.channels.items _ channel _ c.self.invariant.1 at (c.sent_at.ensures.set channel at) refl refl (within_sent s.script channel c.args.bytes.now c.args.at is.within) in
    let same = c.sent_at.ensures.kept in
    let room = c.self.invariant.4.room in
    (kept, channels, c.self.invariant.2, c.self.invariant.3, record { room = omega (arith, same.same_len, same.same_capacity) })
