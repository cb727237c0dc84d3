use Rattle.std.proofs.Common.{◌≡◌, take}
use Rattle.taps_chain.specs.Hearings.{joined}
use Rattle.taps_chain.proofs.hearing.joined_bytes.Given as goal

abbrev pub invariant-loop-piece : goal.invariant-loop-piece
invariant-loop-piece l = l.bytes.items ≡ joined (take l.piece-index l.pieces)
