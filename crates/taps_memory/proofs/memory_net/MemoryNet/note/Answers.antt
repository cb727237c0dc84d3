use Rattle.std.proofs.Common.{reverse, sym, subst, arith}
use Rattle.taps_memory.specs.Kept.{IsQuiet}
use Rattle.taps_memory.proofs.Kept.{newest, leaves, kept_quiet}
use Rattle.taps_memory.proofs.Linked.{linked_still}
use Rattle.taps_memory.proofs.memory_net.MemoryNet.note.Goals as goal

pub invariant_of-self : goal.invariant_of-self
invariant_of-self c =
    let s = c.self.inside in
    let t = reverse s.items.items in
    let quiet : IsQuiet c.args.item t = subst (λ v. IsQuiet c.args.item v.trace) (sym c.self.view_is) c.requires.quiet in
    let l = leaves c.args.item t quiet in
    let kept = kept_quiet t s.told s.told _ _ c.args.item _ _ c.self.invariant.0 quiet c.self.invariant.0.fits in
    let linked = linked_still t _ _ _ l.started l.completed l.accepted l.connections c.self.invariant.1 in
    let items = c.self.invariant.3.room in
    let listening = c.self.invariant.4.room in
    rw (newest s.items.items _ c.args.item c.add_copy.ensures.items)
    (kept, linked, c.self.invariant.2, record { room = omega arith }, record { room = omega arith }, c.self.invariant.5, c.self.invariant.6)
