use Rattle.std.proofs.lemmas.List.{take_rest}
use Rattle.taps_base.proofs.Known.{taken_more}
use Rattle.taps_base.proofs.std_sink.hand_over.Goals as goal

pub loop-sent-preserved : goal.loop-sent-preserved
loop-sent-preserved g c = taken_more _ _ _ c.args.bytes.now c.loop-sent.sent c.in-Some.count c.loop-sent.invariant (rw (take_rest c.args.bytes.now c.loop-sent.sent) at c.in-Some.ensures.taken)
