use Rattle.std.proofs.Common.{take}
use Rattle.taps_framer.specs.Scans.{Represents}
use Rattle.taps_frame_rows.proofs.framer_rows.by_steps.Given as goal

-- the scan represents the bytes before this place
abbrev pub invariant-loop-place : goal.invariant-loop-place
invariant-loop-place g l =
    Represents ((goal.Framer-dyn g (l.framer.vtable, l.framer.value)).layer l.framer.value) ((goal.Framer-dyn g (l.framer.vtable, l.framer.value)).scans l.framer.value)
    l.index l.scan (take l.place l.buffer)
