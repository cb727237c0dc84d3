use Rattle.std.proofs.Common.{map}
use Rattle.taps_frame_text.proofs.Lines.{IsFramedTo}
use Rattle.taps_frame_text.proofs.frame.put_frames.Given as goal

abbrev pub invariant-loop-number : goal.invariant-loop-number
invariant-loop-number g l =
    IsFramedTo (map (λ b. (goal.Framer-dyn g (b.now.vtable, b.now.value)).layer b.now.value) l.chain.framers.items) (λ body. body.now) l.bodies l.fn.text.items l.text.items l.number
