use Rattle.std.proofs.Common.{ℕ, List, ◌-◌, ◌≤◌, ◌++◌, length, take}
use Rattle.taps_framer.specs.Scans.{Represents}
use Rattle.taps_frames.specs.Stuffed.{stuffed, stuffed_scan}
use Rattle.taps_frames.proofs.stuffed.advance.Given as goal

-- what the first scan represents, the scan that is reached represents with the bytes before this place
abbrev pub invariant-loop-at : goal.invariant-loop-at
invariant-loop-at l = record {
  keeps : (x : List ℕ) → Represents stuffed stuffed_scan l._index l.fn.scan x → Represents stuffed stuffed_scan l._index l.reached (x ++ take l.at l.bytes);
  within : l.at ≤ length l.bytes;
}

abbrev pub decreases-loop-at : goal.decreases-loop-at
decreases-loop-at l = length l.bytes - l.at
