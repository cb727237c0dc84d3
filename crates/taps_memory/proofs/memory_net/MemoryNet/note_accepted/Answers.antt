use Rattle.std.proofs.Common.{◌≡◌, ◌+◌, ◌∷◌, true, reverse, refl, ap, sym, ◌∙◌, subst, arith}
use Rattle.taps_socket.specs.declared.item.Item.TheVariants.{Accepted}
use Rattle.taps_socket.specs.RaceSockets.{has}
use Rattle.taps_socket.specs.LiveSockets.{named}
use Rattle.taps_memory.specs.MemoryAnswers.{next_number}
use Rattle.taps_memory.specs.Kept.{AreLinked, AreUnused, some_waits}
use Rattle.taps_memory.proofs.Kept.{newest, kept_accepted}
use Rattle.taps_memory.proofs.Accepting.{linked_accepted}
use Rattle.taps_memory.proofs.Unused.{unused_accepted}
use Rattle.taps_memory.proofs.memory_net.MemoryNet.note_accepted.Goals as goal

pub invariant_of-self : goal.invariant_of-self
invariant_of-self c =
    let s = c.self.inside in
    let t = reverse s.items.items in
    let x = c.args.socket in
    let l = c.args.listener in
    let number : c.args.socket ≡ s.given = c.requires.number ∙ (ap (λ v. next_number v.trace) (sym c.self.view_is) ∙ sym c.self.invariant.0.given_are) in
    let there : has (named t) l ≡ true = subst (λ v. has (named v.trace) l ≡ true) (sym c.self.view_is) c.requires.named in
    let waits : some_waits l s.links.items ≡ true = subst (λ v. some_waits l v.links ≡ true) (sym c.self.view_is) c.requires.waits in
    let kept = kept_accepted t s.told _ _ _ l x s.told _ _ c.self.invariant.0 c.self.invariant.0.fits number refl there in
    let linked = subst (AreLinked (Accepted l x s.told ∷ t) (s.given + 1)) (sym c.accept_first.ensures.links) (linked_accepted t s.given (s.given + 1) x l s.told s.links.items c.self.invariant.1 number refl waits) in
    let unused = subst (λ v. AreUnused s.capacity s.most (s.given + 1) s.listened v s.unused.items) (sym c.accept_first.ensures.links) (unused_accepted _ _ s.given (s.given + 1) _ l x s.links.items _ waits refl c.self.invariant.2) in
    let items = c.self.invariant.3.room in
    let listening = c.self.invariant.4.room in
    let links = c.self.invariant.6.room in
    let same = c.accept_first.ensures.same in
    rw (newest s.items.items _ (Accepted l x s.told) c.add_copy.ensures.items)
    (kept, linked, unused, record { room = omega arith }, record { room = omega arith }, c.self.invariant.5, record { room = omega (arith, same.same_len, same.same_capacity) })
