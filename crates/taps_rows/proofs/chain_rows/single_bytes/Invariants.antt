use Rattle.std.proofs.Common.{◌≡◌, length}
use Rattle.taps_chain.specs.Hearings.{joined}
use Rattle.taps_rows.proofs.chain_rows.single_bytes.Given as goal

abbrev pub invariant-loop-place : goal.invariant-loop-place
invariant-loop-place l = length (joined l.pieces.items) ≡ l.place
