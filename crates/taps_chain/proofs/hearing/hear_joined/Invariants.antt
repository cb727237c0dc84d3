use Rattle.std.proofs.Common.{◌≡◌, length, map, take}
use Rattle.taps_chain.specs.Hearings.{joined, Waits}
use Rattle.taps_chain.specs.Kept.{HasKept}
use Rattle.taps_chain.proofs.hearing.hear_joined.Given as goal

abbrev pub invariant-loop-piece : goal.invariant-loop-piece
invariant-loop-piece g l = record {
  waits : HasKept (λ messages. l.sink.items ≡ messages) (λ messages. Waits (map (λ b. (goal.Framer-dyn g (b.now.vtable, b.now.value)).layer b.now.value) l.chain.framers.items) ((goal.Framer-dyn g (l.first.vtable, l.first.value)).layer l.first.value) ((goal.Framer-dyn g (l.first.vtable, l.first.value)).scans l.first.value) l.bytes messages l.progress);
  fed : l.progress.fed ≡ length (joined (take l.piece-index l.pieces));
}
