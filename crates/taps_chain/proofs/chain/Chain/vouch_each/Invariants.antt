use Rattle.std.proofs.Common.{map, take}
use Rattle.taps_chain.specs.ChainLaws.{AreFramers}
use Rattle.taps_chain.proofs.chain.Chain.vouch_each.Given as goal

abbrev pub invariant-loop-depth : goal.invariant-loop-depth
invariant-loop-depth g l = AreFramers (take l.depth (map (λ b. (goal.Framer-dyn g (b.now.vtable, b.now.value)).layer b.now.value) l.self.framers.items))
