use Rattle.std.proofs.Common.{reverse, sym, subst, arith}
use Rattle.taps_memory.specs.Links.{link_has, link_with_own}
use Rattle.taps_memory.specs.Sides.{sent_side}
use Rattle.taps_memory.specs.Kept.{AreLinked, AreUnused}
use Rattle.taps_memory.proofs.Linked.{linked_own, own_keeps, grows_sent}
use Rattle.taps_memory.proofs.Unused.{unused_changed}
use Rattle.taps_memory.proofs.memory_net.MemoryNet.write.Goals as goal

pub invariant_of-self : goal.invariant_of-self
invariant_of-self c =
    let s = c.self.inside in
    let t = reverse s.items.items in
    let x = c.args.socket in
    let change = sent_side c.args.bytes.now s.told in
    let linked = subst (AreLinked t s.given) (sym c.write_in.ensures.links) (linked_own t _ change x s.links.items (grows_sent c.args.bytes.now s.told) c.self.invariant.1) in
    let unused = subst (λ v. AreUnused s.capacity s.most s.given s.listened v s.unused.items) (sym c.write_in.ensures.links) (unused_changed _ _ _ _ (link_has x) (link_with_own change x) s.links.items _ (own_keeps change (grows_sent c.args.bytes.now s.told) x) c.self.invariant.2) in
    let links = c.self.invariant.6.room in
    let same = c.write_in.ensures.same in
    (c.self.invariant.0, linked, unused, c.self.invariant.3, c.self.invariant.4, c.self.invariant.5, record { room = omega (arith, same.same_len, same.same_capacity) })
