use Rattle.std.proofs.Common.{arith, length-take}
use Rattle.taps_framer.proofs.Laws.{first_alone, first_within}
use Rattle.taps_frames_bench.proofs.take_frame.Goals as goal

pub slice_bounds-frame-end : goal.slice_bounds-frame-end
slice_bounds-frame-end g c =
    omega (arith, length-take c.in-Whole.used c.args.bytes.now, first_within _ c.args.index c.args.bytes.now c.in-Whole.used c.in-Whole.ensures.0 c.in-Whole.ensures.1)

pub unwrap_in-requires : goal.unwrap_in-requires
unwrap_in-requires g c =
    (first_alone _ c.args.index (c.vouch_in.ensures.at c.args.index (omega arith)) c.args.bytes.now c.in-Whole.used c.in-Whole.ensures.0 c.in-Whole.ensures.1).0

pub returns-in_ok-unwrap_in : goal.returns-in_ok-unwrap_in
returns-in_ok-unwrap_in g c = first_within _ c.args.index c.args.bytes.now c.in-Whole.used c.in-Whole.ensures.0 c.in-Whole.ensures.1

pub returns-else-eq : goal.returns-else-eq
returns-else-eq g c = first_within _ c.args.index c.args.bytes.now c.in-Whole.used c.in-Whole.ensures.0 c.in-Whole.ensures.1
