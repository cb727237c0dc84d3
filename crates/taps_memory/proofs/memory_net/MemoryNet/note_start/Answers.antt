use Rattle.std.proofs.Common.{◌≡◌, ◌+◌, ◌++◌, ◌∷◌, [], reverse, refl, ap, sym, ◌∙◌, subst, arith}
use Rattle.taps_socket.specs.declared.item.Item.TheVariants.{Started}
use Rattle.taps_memory.specs.MemoryAnswers.{next_number}
use Rattle.taps_memory.specs.MemorySteps.{listener_for}
use Rattle.taps_memory.specs.Kept.{AreLinked, AreUnused}
use Rattle.taps_memory.proofs.Kept.{newest, kept_started}
use Rattle.taps_memory.proofs.Linked.{linked_started}
use Rattle.taps_memory.proofs.Unused.{unused_started, after_start_is}
use Rattle.taps_memory.proofs.memory_net.MemoryNet.note_start.Goals as goal

pub returns : goal.returns
returns c =
    let s = c.self.inside in
    let link = c.take_unused-link.ensures.link s.capacity c.self.invariant.2.each in
    let more = c.add.ensures.items ∙ ap (λ l. s.links.items ++ l ∷ []) link in
    after_start_is _ _ _ _ c.args.leaf c.args.target c.args.listener c.args.socket c.self.view_is more (newest s.items.items _ (Started c.args.leaf c.args.target c.args.socket s.told) c.add_copy.ensures.items)

pub invariant_of-self : goal.invariant_of-self
invariant_of-self c =
    let s = c.self.inside in
    let t = reverse s.items.items in
    let x = c.args.socket in
    let l = c.args.listener in
    let number : c.args.socket ≡ s.given = c.requires.number ∙ (ap (λ v. next_number v.trace) (sym c.self.view_is) ∙ sym c.self.invariant.0.given_are) in
    let is : l ≡ listener_for t c.args.target = c.requires.listens ∙ ap (λ v. listener_for v.trace c.args.target) (sym c.self.view_is) in
    let link = c.take_unused-link.ensures.link s.capacity c.self.invariant.2.each in
    let rest = c.take_unused-link.ensures.rest s.capacity c.self.invariant.2.each in
    let fewer = c.take_unused-link.ensures.fewer in
    let more = c.add.ensures.items ∙ ap (λ l. s.links.items ++ l ∷ []) link in
    let kept = kept_started t s.told _ _ _ c.args.leaf x s.told c.args.target _ _ _ c.self.invariant.0 c.self.invariant.0.fits number refl c.add-2.ensures.items c.requires.stream in
    let linked = subst (AreLinked (Started c.args.leaf c.args.target x s.told ∷ t) (s.given + 1)) (sym more) (linked_started t s.given (s.given + 1) x s.capacity l c.args.leaf s.told c.args.target s.links.items c.self.invariant.1 number refl is) in
    let unused = subst (λ v. AreUnused s.capacity s.most (s.given + 1) s.listened v c.take_unused-link.new.unused.items) (sym more) (unused_started _ _ s.given (s.given + 1) _ l x s.links.items s.unused.items _ (omega arith) rest refl c.self.invariant.2) in
    let items = c.self.invariant.3.room in
    let listening = c.self.invariant.4.room in
    let pending = c.self.invariant.5.room in
    let links = c.self.invariant.6.room in
    rw (newest s.items.items _ (Started c.args.leaf c.args.target x s.told) c.add_copy.ensures.items)
    (kept, linked, unused, record { room = omega arith }, record { room = omega arith }, record { room = omega arith }, record { room = omega arith })
