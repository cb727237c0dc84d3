use Rattle.std.proofs.Common.{map, take}
use Rattle.taps_chain.specs.ChainLaws.{AreFramers}
use Rattle.taps_loop_rows.proofs.running.vouch_shelf.Given as goal

abbrev pub invariant-loop-place : goal.invariant-loop-place
invariant-loop-place g l = AreFramers (take l.place (map (λ b. (goal.Framer-dyn g (b.vtable, b.value)).layer b.value) l.shelf.items))
