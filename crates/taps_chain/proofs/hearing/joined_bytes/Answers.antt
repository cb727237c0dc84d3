use Rattle.taps_chain.proofs.Joined.{joined_next}
use Rattle.taps_chain.proofs.hearing.joined_bytes.Goals as goal

pub loop-piece-preserved : goal.loop-piece-preserved
loop-piece-preserved c = joined_next _ _ _ c.loop-piece-test.true c.piece-item.is _ _ _ c.loop-piece.invariant c.bytes.ensures c.in_ok-extend_from_slice.ensures.items
