use Rattle.std.proofs.Common.{◌-◌, map, drop}
use Rattle.taps_chain.specs.Counts.{IsHanded}
use Rattle.taps_chain.proofs.Counting.{Counted}
use Rattle.taps_chain.proofs.Opening.{Reached}
use Rattle.taps_chain.proofs.whole.whole_above.Given as goal

abbrev pub invariant-loop-depth : goal.invariant-loop-depth
invariant-loop-depth g l =
    let fs = map (λ b. (goal.Framer-dyn g (b.now.vtable, b.now.value)).layer b.now.value) l.chain.framers.items in
    record {
      reached : Reached fs l.index l.fn.bytes.items l.first l.depth l.current.items;
      handed : IsHanded (drop l.first fs) l.index l.fn.bytes.items (l.depth - l.first) l.current.items;
      counted : Counted fs l.index l.fn.bytes.items l.first l.watch l.depth l.fn.steps l.steps;
    }
