use Rattle.std.proofs.Common.{◌≡◌, ◌∷◌, true, reverse, sym, refl, subst, arith}
use Rattle.taps_socket.specs.RaceSockets.{has}
use Rattle.taps_socket.specs.LiveSockets.{named}
use Rattle.taps_memory.specs.Links.{link_has, link_with_own}
use Rattle.taps_memory.specs.Sides.{with_end}
use Rattle.taps_memory.specs.Pairs.{shut_end}
use Rattle.taps_memory.specs.Kept.{AreLinked, AreUnused}
use Rattle.taps_memory.proofs.Kept.{newest, kept_quiet}
use Rattle.taps_memory.proofs.Linked.{linked_own, linked_still, own_keeps, grows_shut}
use Rattle.taps_memory.proofs.Unused.{unused_changed}
use Rattle.taps_socket.specs.declared.item.Item.TheVariants.{Shut}
use Rattle.taps_memory.proofs.memory_net.MemoryNet.note_shut.Goals as goal

pub invariant_of-self : goal.invariant_of-self
invariant_of-self c =
    let s = c.self.inside in
    let t = reverse s.items.items in
    let x = c.args.socket in
    let there : has (named t) x ≡ true = subst (λ v. has (named v.trace) x ≡ true) (sym c.self.view_is) c.requires.named in
    let kept = kept_quiet t s.told s.told _ _ (Shut x) _ _ c.self.invariant.0 there c.self.invariant.0.fits in
    let linked = subst (AreLinked (Shut x ∷ t) s.given) (sym c.shut_in.ensures.links) (linked_still t (Shut x ∷ t) _ _ refl refl refl refl (linked_own t _ (with_end shut_end) x s.links.items grows_shut c.self.invariant.1)) in
    let unused = subst (λ v. AreUnused s.capacity s.most s.given s.listened v s.unused.items) (sym c.shut_in.ensures.links) (unused_changed _ _ _ _ (link_has x) (link_with_own (with_end shut_end) x) s.links.items _ (own_keeps (with_end shut_end) grows_shut x) c.self.invariant.2) in
    let items = c.self.invariant.3.room in
    let listening = c.self.invariant.4.room in
    let links = c.self.invariant.6.room in
    let same = c.shut_in.ensures.same in
    rw (newest s.items.items _ (Shut x) c.add_copy.ensures.items)
    (kept, linked, unused, record { room = omega arith }, record { room = omega arith }, c.self.invariant.5, record { room = omega (arith, same.same_len, same.same_capacity) })
