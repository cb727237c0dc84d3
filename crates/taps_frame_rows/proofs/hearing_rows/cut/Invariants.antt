use Rattle.std.proofs.Common.{◌≡◌, ◌≤◌, length}
use Rattle.taps_chain.specs.Hearings.{joined}
use Rattle.taps_frame_rows.proofs.hearing_rows.cut.Given as goal

abbrev pub invariant-loop-place : goal.invariant-loop-place
invariant-loop-place l = record {
  begun : l.from ≤ l.place;
  within : l.from ≤ length l.stream;
  joined : length (joined l.pieces.items) ≡ l.from;
}
