use Rattle.std.proofs.Common.{◌≤◌, length, map}
use Rattle.taps_chain.proofs.Wrapping.{Wrapped}
use Rattle.taps_chain.proofs.chain.Chain.wrap.Given as goal

abbrev pub invariant-loop-depth : goal.invariant-loop-depth
invariant-loop-depth g l = record {
  within : l.depth ≤ length l.self.framers.items;
  wrapped : Wrapped (map (λ b. (goal.Framer-dyn g (b.now.vtable, b.now.value)).layer b.now.value) l.self.framers.items) l.index l.body l.depth l.current.items;
}

abbrev pub decreases-loop-depth : goal.decreases-loop-depth
decreases-loop-depth g l = l.depth
