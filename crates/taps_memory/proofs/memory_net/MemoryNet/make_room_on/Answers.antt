use Rattle.std.proofs.Common.{◌≡◌, List, reverse, sym, subst, arith}
use Rattle.std.specs.Prelude.{Result, Ok, Err, OnOk, OnErr}
use Rattle.taps_memory.specs.declared.link.Link.{Link}
use Rattle.taps_memory.specs.Pairs.{change_first}
use Rattle.taps_memory.specs.Links.{link_has, link_with_own, roomy_link}
use Rattle.taps_memory.specs.Sides.{roomy_side}
use Rattle.taps_memory.specs.Kept.{AreLinked, AreUnused}
use Rattle.taps_memory.proofs.Linked.{linked_own, own_keeps, grows_roomy}
use Rattle.taps_memory.proofs.Unused.{unused_changed}
use Rattle.taps_memory.proofs.memory_net.MemoryNet.make_room_on.Goals as goal

either_way : {T E : Type 0} (r : Result T E) (P : List Link → Type 0) (was more now : List Link) → OnOk r (now ≡ more) → OnErr r (now ≡ was) → P was → P more → P now
either_way (Ok x) P was more now ok err p q = subst P (sym ok) q
either_way (Err e) P was more now ok err p q = subst P (sym err) p

pub invariant_of-self : goal.invariant_of-self
invariant_of-self c =
    let s = c.self.inside in
    let t = reverse s.items.items in
    let x = c.args.socket in
    let change = roomy_side c.args.bytes in
    let more = change_first (link_has x) (roomy_link x c.args.bytes) s.links.items in
    let linked = either_way c.room_in.result (AreLinked t s.given) s.links.items more c.room_in.new.links.items c.room_in.ensures.ok c.room_in.ensures.err c.self.invariant.1 (linked_own t _ change x s.links.items (grows_roomy c.args.bytes) c.self.invariant.1) in
    let unused = either_way c.room_in.result (λ v. AreUnused s.capacity s.most s.given s.listened v s.unused.items) s.links.items more c.room_in.new.links.items c.room_in.ensures.ok c.room_in.ensures.err c.self.invariant.2 (unused_changed _ _ _ _ (link_has x) (link_with_own change x) s.links.items _ (own_keeps change (grows_roomy c.args.bytes) x) c.self.invariant.2) in
    let links = c.self.invariant.6.room in
    let same = c.room_in.ensures.same in
    (c.self.invariant.0, linked, unused, c.self.invariant.3, c.self.invariant.4, c.self.invariant.5, record { room = omega (arith, same.same_len, same.same_capacity) })
