use Rattle.std.proofs.Common.{◌-◌, length, map}
use Rattle.taps_chain.specs.Hearings.{Waits}
use Rattle.taps_chain.specs.Kept.{HasKept}
use Rattle.taps_chain.proofs.hearing.hear_bytes.Given as goal

abbrev pub invariant-pieces : goal.invariant-pieces
invariant-pieces g l = HasKept (g.S.MessageSink.Keeps l.sink) (λ messages. Waits (map (λ b. (goal.Framer-dyn g (b.now.vtable, b.now.value)).layer b.now.value) l.chain.framers.items) ((goal.Framer-dyn g (l.first.vtable, l.first.value)).layer l.first.value) ((goal.Framer-dyn g (l.first.vtable, l.first.value)).scans l.first.value) l.bytes messages l.progress)

abbrev pub decreases-pieces : goal.decreases-pieces
decreases-pieces g l = length l.bytes - l.progress.fed
