use Rattle.std.proofs.Common.{◌≡◌, ◌<◌, true, length, reverse, sym, refl, subst, arith}
use Rattle.taps_socket.specs.RaceSockets.{has}
use Rattle.taps_socket.specs.LiveSockets.{named}
use Rattle.taps_real.specs.Channels.{sent_in}
use Rattle.taps_real.proofs.Channels.{some_channel, channels_set}
use Rattle.taps_real.proofs.Kept.{kept_told}
use Rattle.taps_real.proofs.Answered.{taken_in}
use Rattle.taps_real.proofs.socket_table.SocketTable.note_sent.Goals as goal

within : (c : goal.After-sent_at) → c.args.socket < length c.self.inside.channels.items
within c =
    let s = c.self.inside in
    let there : has (named (reverse s.items.items)) c.args.socket ≡ true = subst (λ v. has (named v.trace) c.args.socket ≡ true) (sym c.self.view_is) c.requires.named in
    let below = c.self.invariant.0.named_below c.args.socket there in
    let count = c.self.invariant.1.count_is in
    omega arith

pub invariant_of-self : goal.invariant_of-self
invariant_of-self c =
    let s = c.self.inside in
    let t = reverse s.items.items in
    let (channel, at) = some_channel s.channels.items c.args.socket (within c) in
    let kept = kept_told t s.told c.args.at _ s.pending.items c.self.invariant.0 c.requires.next.fits in
    let channels = channels_set t _ c.args.socket s.channels.items _ channel (sent_in channel c.args.count c.args.at) c.self.invariant.1 at (c.sent_at.ensures.set channel at) refl in
    let same = c.sent_at.ensures.same in
    let room = c.self.invariant.4.room in
    (kept, channels, c.self.invariant.2, c.self.invariant.3, record { room = omega (arith, same.same_len, same.same_capacity) }, c.self.invariant.5, c.self.invariant.6)

pub returns : goal.returns
returns c = λ bytes until few.
    (let s = c.self.inside in
    let (channel, at) = some_channel s.channels.items c.args.socket (within c) in
    taken_in _ _ c.sent_at.new.channels.items channel c.args.socket until c.args.count c.args.at bytes c.self.view_is at (within c) few (c.sent_at.ensures.set channel at))
