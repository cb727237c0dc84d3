use Rattle.std.proofs.Common.{◌≡◌, true, reverse, sym, subst, arith}
use Rattle.taps_socket.specs.declared.item.Item.TheVariants.{Closed}
use Rattle.taps_socket.specs.RaceSockets.{has}
use Rattle.taps_socket.specs.LiveSockets.{named}
use Rattle.taps_script.proofs.ScriptKept.{kept_closed, channels_closed, newest}
use Rattle.taps_script.proofs.script_sockets.ScriptSockets.note_close.Goals as goal

pub invariant_of-self : goal.invariant_of-self
invariant_of-self c =
    let s = c.self.inside in
    let t = reverse s.items.items in
    let there : has (named t) c.args.socket ≡ true = subst (λ v. has (named v.trace) c.args.socket ≡ true) (sym c.self.view_is) c.requires.named in
    let kept = kept_closed s.script t s.clock s.told s.waits s.started c.args.socket s.events.items _ c.self.invariant.0 there c.forget.ensures.events in
    let channels = channels_closed s.script t s.started c.args.socket s.channels.items c.self.invariant.1 in
    let first = newest s.items.items _ (Closed c.args.socket) c.add_copy.ensures.items in
    let items = c.self.invariant.2.room in
    let events = c.self.invariant.3.room in
    let room = c.self.invariant.4.room in
    (rw first kept, rw first channels, record { room = omega arith }, record { room = omega arith }, record { room = omega arith })
