use Rattle.std.proofs.Common.{take}
use Rattle.taps_frames.specs.Decimals.{IsStarted}
use Rattle.taps_frames.proofs.decimal.head_in.Given as goal

abbrev pub invariant-loop-place : goal.invariant-loop-place
invariant-loop-place l = IsStarted l.least (take l.place l.buffer) l.value
