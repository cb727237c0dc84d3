use Rattle.std.proofs.Common.{◌≡◌, ◌≤◌, length, take}
use Rattle.taps_frames.proofs.prefix.strip.Given as goal

abbrev pub invariant-loop-place : goal.invariant-loop-place
invariant-loop-place l = (l.place ≤ length l.buffer) × (take l.place l.buffer ≡ take l.place l.prefix)
