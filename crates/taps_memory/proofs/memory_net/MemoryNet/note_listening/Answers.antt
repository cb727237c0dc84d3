use Rattle.std.proofs.Common.{◌≡◌, ◌+◌, ◌∷◌, ◌++◌, [], ◌<◌, length, reverse, refl, ap, sym, ◌∙◌, subst, arith}
use Rattle.taps_socket.specs.declared.item.Item.TheVariants as item
use Rattle.taps_socket.specs.Sides.{listeners}
use Rattle.taps_memory.specs.MemoryAnswers.{next_number, most_listeners}
use Rattle.taps_memory.specs.declared.listening.Listening.{Listening}
use Rattle.taps_memory.specs.Kept.{AreUnused}
use Rattle.taps_memory.proofs.Kept.{newest, kept_listening}
use Rattle.taps_memory.proofs.Linked.{linked_listening}
use Rattle.taps_memory.proofs.memory_net.MemoryNet.note_listening.Goals as goal

pub invariant_of-self : goal.invariant_of-self
invariant_of-self c =
    let s = c.self.inside in
    let t = reverse s.items.items in
    let x = c.args.socket in
    let number : c.args.socket ≡ s.given = c.requires.number ∙ (ap (λ v. next_number v.trace) (sym c.self.view_is) ∙ sym c.self.invariant.0.given_are) in
    let few : s.listened < most_listeners = (let e = c.self.invariant.0.listened_are in let h : length (listeners t) < most_listeners = subst (λ v. length (listeners v.trace) < most_listeners) (sym c.self.view_is) c.requires.few in omega arith) in
    let more = c.add_listener.ensures.items ∙ ap (λ v. s.listening.items ++ (let l : Listening = record { socket = x; target = v } in l) ∷ []) c.copy_of.ensures in
    let kept = kept_listening t s.told _ _ _ _ x s.told c.args.target _ _ _ c.self.invariant.0 c.self.invariant.0.fits number refl refl few more c.requires.stream in
    let linked = linked_listening t s.given (s.given + 1) x s.told c.args.target s.links.items refl c.self.invariant.1 in
    let u = c.self.invariant.2 in
    let numbers = u.numbers in
    let unused : AreUnused s.capacity s.most (s.given + 1) (s.listened + 1) s.links.items s.unused.items = record { each = u.each; all = u.all; few = u.few; numbers = omega arith } in
    let items = c.self.invariant.3.room in
    let listening = c.self.invariant.4.room in
    rw (newest s.items.items _ (item.Listening c.args.target x s.told) c.add_copy.ensures.items)
    (kept, linked, unused, record { room = omega arith }, record { room = omega arith }, c.self.invariant.5, c.self.invariant.6)
