use Rattle.std.proofs.Common.{◌≡◌, ◌≤◌, ◌+◌, true, reverse, sym, subst, refl, arith}
use Rattle.std.proofs.lemmas.List.{length-reverse}
use Rattle.taps_socket.specs.declared.item.Item.TheVariants.{Waited}
use Rattle.taps_socket.specs.RaceSockets.{has}
use Rattle.taps_socket.specs.LiveSockets.{named, named_by_end}
use Rattle.taps_script.proofs.ScriptKept.{kept_waited, channels_waited, newest, waits_few}
use Rattle.taps_script.proofs.script_sockets.ScriptSockets.note_wait.Goals as goal

pub overflow_add-self : goal.overflow_add-self
overflow_add-self c =
    let items = c.self.inside.items in
    let few = waits_few (reverse items.items) in
    let are = c.self.invariant.0.waits_are in
    let room : items.len + c.self.inside.spare ≤ items.cap = c.self.invariant.2.room in
    let spare : 1 ≤ c.self.inside.spare = subst (λ v. 1 ≤ v.spare) (sym c.self.view_is) c.requires.room in
    omega (arith, length-reverse items.items, items.ok.0, items.small)

pub invariant_of-self : goal.invariant_of-self
invariant_of-self c =
    let s = c.self.inside in
    let t = reverse s.items.items in
    let names = subst (λ v. (x : _) → has (named_by_end c.args.answer.how) x ≡ true → has (named v.trace) x ≡ true) (sym c.self.view_is) c.requires.names in
    let kept = kept_waited s.script t s.clock s.told s.waits _ s.started c.args.until c.args.answer.at c.args.answer.how s.events.items _ c.self.invariant.0 refl c.requires.fits names c.forget_told.ensures.events in
    let channels = channels_waited s.script t s.started c.args.until c.args.answer.at c.args.answer.how s.channels.items c.self.invariant.1 in
    let first = newest s.items.items _ (Waited c.args.until c.args.answer.at c.args.answer.how) c.add_copy.ensures.items in
    let items = c.self.invariant.2.room in
    let events = c.self.invariant.3.room in
    let room = c.self.invariant.4.room in
    (rw first kept, rw first channels, record { room = omega arith }, record { room = omega arith }, record { room = omega arith })
