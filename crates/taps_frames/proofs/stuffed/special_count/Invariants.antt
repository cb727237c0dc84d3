use Rattle.std.proofs.Common.{◌≡◌, ◌+◌, length}
use Rattle.taps_frames.proofs.stuffed.special_count.Given as goal

abbrev pub invariant-places : goal.invariant-places
invariant-places l = l.count + length l.places ≡ length l.initial.places

abbrev pub decreases-places : goal.decreases-places
decreases-places l = length l.places
