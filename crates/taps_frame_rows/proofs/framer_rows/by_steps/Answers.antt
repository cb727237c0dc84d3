use Rattle.std.proofs.Common.{ℕ, List, [], take, subst}
use Rattle.taps_framer.specs.Scans.{Represents}
use Rattle.taps_framer.proofs.Scans.{one_more}
use Rattle.taps_frame_rows.proofs.framer_rows.by_steps.Goals as goal

pub step_in-requires : goal.step_in-requires
step_in-requires g c = (take c.loop-place.place c.args.buffer.now, c.loop-place.invariant)

pub loop-place-preserved : goal.loop-place-preserved
loop-place-preserved g c =
    subst (λ (w : List ℕ). Represents ((goal.Framer-dyn g (c.args.framer.now.vtable, c.args.framer.now.value)).layer c.args.framer.now.value) ((goal.Framer-dyn g (c.args.framer.now.vtable, c.args.framer.now.value)).scans c.args.framer.now.value) c.args.index c.in-More.next w)
    (one_more [] c.args.buffer.now c.loop-place.place c.loop-place-test.true)
    (c.in-More.ensures (take c.loop-place.place c.args.buffer.now) c.loop-place.invariant)
