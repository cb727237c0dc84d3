use Rattle.std.proofs.Common.{◌≡◌, ◌+◌, ◌-◌, ◌≤◌, drop, length, ◌++◌, vec_len, vec_capacity}
use Rattle.taps_frames.specs.Stuffed.{plain}
use Rattle.taps_frames.proofs.stuffed.read_all.Given as goal

abbrev pub invariant-loop-at : goal.invariant-loop-at
invariant-loop-at l = record {
  items : l.out.items ++ plain (drop l.at l.frame) ≡ l.initial.out.items ++ plain l.frame;
  within : l.at ≤ length l.frame;
  len : vec_len l.out ≤ vec_len l.initial.out + l.at;
  capacity : vec_capacity l.initial.out ≤ vec_capacity l.out;
}

abbrev pub decreases-loop-at : goal.decreases-loop-at
decreases-loop-at l = length l.frame - l.at
