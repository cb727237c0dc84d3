use Rattle.std.proofs.Common.{arith}
use Rattle.taps_frames.proofs.PrefixedHeads.{ends_within, differs_at}
use Rattle.taps_frames.proofs.prefix.strip.Goals as goal

pub returns-then-place-buffer : goal.returns-then-place-buffer
returns-then-place-buffer c = λ name prefix f i e g.
    ends_within name prefix f i c.args.prefix.now c.args.buffer.now c.loop-place.place e g (omega arith) (omega arith) c.loop-place.invariant.1

pub returns-then-buffer-place : goal.returns-then-buffer-place
returns-then-buffer-place c = λ name prefix f i e g.
    differs_at name prefix f i c.args.prefix.now c.args.buffer.now c.loop-place.place e g (omega arith) (omega arith) c.loop-place.invariant.1 c.if-buffer-place.true
