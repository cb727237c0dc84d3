use Rattle.std.proofs.Common.{◌≡◌, ◌<◌, true, reverse, length, refl, sym, subst, arith}
use Rattle.std.specs.Prelude.{slice_get, Some}
use Rattle.taps_socket.specs.RaceSockets.{has}
use Rattle.taps_socket.specs.LiveSockets.{named}
use Rattle.taps_script.specs.Channels.{Channel}
use Rattle.taps_script.specs.ScriptNet.{IsReadable}
use Rattle.taps_script.proofs.ScriptKept.{channels_set, some_channel}
use Rattle.taps_script.proofs.Traffics.{kept_at}
use Rattle.taps_script.proofs.script_sockets.ScriptSockets.note_read.Goals as goal

pub read_at-requires-clause-fits : goal.read_at-requires-clause-fits
read_at-requires-clause-fits c = λ channel at. (subst (λ v. (c' : Channel) → slice_get v.channels c.args.socket ≡ Some c' → IsReadable v.lines c' c.args.count) (sym c.self.view_is) c.requires.within channel at).fits

pub invariant_of-self : goal.invariant_of-self
invariant_of-self c =
    let s = c.self.inside in
    let t = reverse s.items.items in
    let there : has (named t) c.args.socket ≡ true = subst (λ v. has (named v.trace) c.args.socket ≡ true) (sym c.self.view_is) c.requires.named in
    let below = c.self.invariant.0.named_below c.args.socket there in
    let count = c.self.invariant.1.count in
    let here : c.args.socket < length s.channels.items = omega arith in
    let (channel, at) = some_channel s.channels.items c.args.socket here in
    let within = subst (λ v. (c' : Channel) → slice_get v.channels c.args.socket ≡ Some c' → IsReadable v.lines c' c.args.count) (sym c.self.view_is) c.requires.within channel at in
    let kept = kept_at s.script t s.clock s.told s.waits s.started c.args.at s.events.items c.self.invariant.0 c.requires.fits in
    let channels = channels_set s.script t s.started c.args.socket s.channels.items _ channel _ c.self.invariant.1 at (c.read_at.ensures.set channel at) refl refl within.within in
    let same = c.read_at.ensures.kept in
    let room = c.self.invariant.4.room in
    (kept, channels, c.self.invariant.2, c.self.invariant.3, record { room = omega (arith, same.same_len, same.same_capacity) })
