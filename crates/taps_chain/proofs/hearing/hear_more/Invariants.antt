use Rattle.std.proofs.Common.{◌≡◌, ◌+◌, ◌-◌, length, map}
use Rattle.taps_chain.specs.Hearings.{IsUnderWay}
use Rattle.taps_chain.specs.Kept.{HasKept}
use Rattle.taps_chain.proofs.hearing.hear_more.Given as goal

abbrev pub invariant-messages : goal.invariant-messages
invariant-messages g l = record {
  under_way : HasKept (g.S.MessageSink.Keeps l.sink) (λ messages. IsUnderWay (map (λ b. (goal.Framer-dyn g (b.now.vtable, b.now.value)).layer b.now.value) l.chain.framers.items) ((goal.Framer-dyn g (l.first.vtable, l.first.value)).layer l.first.value) ((goal.Framer-dyn g (l.first.vtable, l.first.value)).scans l.first.value) l.bytes messages l.progress);
  fed : l.progress.fed ≡ l.fn.progress.fed + l.fn.more;
}

abbrev pub decreases-messages : goal.decreases-messages
decreases-messages g l = length l.bytes - l.progress.taken
