use Rattle.std.proofs.Common.{◌≤◌, reverse, sym, subst, arith}
use Rattle.taps_script.specs.ScriptNet.{IsQuiet}
use Rattle.taps_script.proofs.ScriptKept.{kept_quiet, channels_quiet, newest}
use Rattle.taps_script.proofs.script_sockets.ScriptSockets.note.Goals as goal

pub invariant_of-self : goal.invariant_of-self
invariant_of-self c =
    let s = c.self.inside in
    let t = reverse s.items.items in
    let quiet : IsQuiet c.args.item t = subst (λ v. IsQuiet c.args.item v.trace) (sym c.self.view_is) c.requires.quiet in
    let kept = kept_quiet s.script t s.clock c.args.clock s.told c.args.told s.waits s.started c.args.item s.events.items c.self.invariant.0 quiet c.requires.told c.requires.fits in
    let channels = channels_quiet s.script t s.started c.args.item s.channels.items quiet c.self.invariant.1 in
    let first = newest s.items.items _ c.args.item c.add_copy.ensures.items in
    let items = c.self.invariant.2.room in
    let events = c.self.invariant.3.room in
    let room = c.self.invariant.4.room in
    let spare : 1 ≤ s.spare = subst (λ v. 1 ≤ v.spare) (sym c.self.view_is) c.requires.room in
    (rw first kept, rw first channels, record { room = omega arith }, record { room = omega arith }, record { room = omega arith })
