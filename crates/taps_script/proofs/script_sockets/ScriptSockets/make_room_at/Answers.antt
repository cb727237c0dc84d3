use Rattle.std.proofs.Common.{◌≡◌, ◌<◌, true, reverse, length, refl, sym, subst, arith}
use Rattle.std.specs.Prelude.{Result, Ok, Err, OnOk, OnErr}
use Rattle.taps_socket.specs.RaceSockets.{has}
use Rattle.taps_socket.specs.LiveSockets.{named}
use Rattle.taps_script.specs.ScriptNet.{AreChannels}
use Rattle.taps_script.proofs.ScriptKept.{channels_set, some_channel}
use Rattle.taps_script.proofs.script_sockets.ScriptSockets.make_room_at.Goals as goal

pub invariant_of-self : goal.invariant_of-self
invariant_of-self c =
    let s = c.self.inside in
    let t = reverse s.items.items in
    let there : has (named t) c.args.socket ≡ true = subst (λ v. has (named v.trace) c.args.socket ≡ true) (sym c.self.view_is) c.requires in
    let below = c.self.invariant.0.named_below c.args.socket there in
    let count = c.self.invariant.1.count in
    let here : c.args.socket < length s.channels.items = omega arith in
    let (channel, at) = some_channel s.channels.items c.args.socket here in
    let is = c.self.invariant.1.each c.args.socket channel at in
    let channels : AreChannels s.script t s.started c.room_at.new.channels.items = by_result c.room_at.result c.room_at.ensures.ok c.room_at.ensures.err
    (λ set. channels_set s.script t s.started c.args.socket s.channels.items _ channel _ c.self.invariant.1 at (set channel at) refl refl is.within)
    (λ same. subst (AreChannels s.script t s.started) (sym same) c.self.invariant.1) in
    let same = c.room_at.ensures.kept in
    let room = c.self.invariant.4.room in
    (c.self.invariant.0, channels, c.self.invariant.2, c.self.invariant.3, record { room = omega (arith, same.same_len, same.same_capacity) })
  where
    by_result : {A E : Type 0} {P Q R : Type 0} (r : Result A E) → OnOk r P → OnErr r Q → (P → R) → (Q → R) → R
    by_result (Ok x) p q f g = f p
    by_result (Err e) p q f g = g q
