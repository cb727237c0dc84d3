use Rattle.std.proofs.Common.{◌≡◌, ◌≤◌, length, reverse, sym, subst, arith}
use Rattle.std.specs.Prelude.{Some, min}
use Rattle.taps_memory.specs.declared.link.Link.{Link}
use Rattle.taps_memory.specs.Pairs.{first_of, under_way, other_end}
use Rattle.taps_memory.specs.Links.{pair_of, link_has, read_link}
use Rattle.taps_memory.specs.Kept.{AreLinked, AreUnused}
use Rattle.taps_memory.proofs.Linked.{linked_read, read_keeps}
use Rattle.taps_memory.proofs.Unused.{unused_changed, if_some}
use Rattle.taps_memory.proofs.memory_net.MemoryNet.read.Goals as goal

pub invariant_of-self : goal.invariant_of-self
invariant_of-self c =
    let s = c.self.inside in
    let t = reverse s.items.items in
    let x = c.args.socket in
    let n = c.read_in.result in
    let few = λ (l : Link) (e : first_of (link_has x) s.links.items ≡ Some l).
    (let count : n ≡ min (length c.args.out.now) (length (under_way (other_end (pair_of l) x))) = if_some (first_of (link_has x) s.links.items) l (λ l. n ≡ min (length c.args.out.now) (length (under_way (other_end (pair_of l) x)))) e c.read_in.ensures.count in
    let fits : n ≤ length (under_way (other_end (pair_of l) x)) = omega arith in fits) in
    let linked = subst (AreLinked t s.given) (sym c.read_in.ensures.links) (linked_read t _ x n s.links.items c.self.invariant.1 few) in
    let unused = subst (λ v. AreUnused s.capacity s.most s.given s.listened v s.unused.items) (sym c.read_in.ensures.links) (unused_changed _ _ _ _ (link_has x) (read_link x n) s.links.items _ (read_keeps x n) c.self.invariant.2) in
    let links = c.self.invariant.6.room in
    let same = c.read_in.ensures.same in
    (c.self.invariant.0, linked, unused, c.self.invariant.3, c.self.invariant.4, c.self.invariant.5, record { room = omega (arith, same.same_len, same.same_capacity) })
