use Rattle.std.proofs.Common.{◌≡◌, ◌+◌, ◌-◌, ◌≤◌, drop, length, ◌++◌, vec_len, vec_capacity}
use Rattle.taps_frames.specs.Stuffed.{stuff}
use Rattle.taps_frames.proofs.stuffed.write_all.Given as goal

abbrev pub invariant-loop-at : goal.invariant-loop-at
invariant-loop-at l = record {
  items : l.out.items ++ stuff (drop l.at l.body) ≡ l.initial.out.items ++ stuff l.body;
  within : l.at ≤ length l.body;
  len : vec_len l.out + length (stuff (drop l.at l.body)) ≡ vec_len l.initial.out + length (stuff l.body);
  capacity : vec_capacity l.initial.out ≤ vec_capacity l.out;
}

abbrev pub decreases-loop-at : goal.decreases-loop-at
decreases-loop-at l = length l.body - l.at
