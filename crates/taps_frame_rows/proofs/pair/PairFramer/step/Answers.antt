use Rattle.std.proofs.Common.{◌∙◌, arith}
use Rattle.taps_frame_rows.proofs.ShortPairs.{pair_more, pair_whole, pair_wrong}
use Rattle.taps_frame_rows.proofs.pair.PairFramer.step.Goals as goal

pub returns-then-scan-eq0 : goal.returns-then-scan-eq0
returns-then-scan-eq0 c = λ x h. pair_more _ _ x _ c.if-scan-eq0.true h

pub returns-then-byte-saturating_sub : goal.returns-then-byte-saturating_sub
returns-then-byte-saturating_sub c = λ x h. pair_whole _ _ x _ c.if-scan-eq0.false (c.if-byte-saturating_sub.true ∙ c.saturating_sub.ensures) h

pub returns-else-byte-saturating_sub : goal.returns-else-byte-saturating_sub
returns-else-byte-saturating_sub c = λ x h. pair_wrong _ _ x _ c.if-scan-eq0.false (λ e. c.if-byte-saturating_sub.false (omega (arith, e, c.saturating_sub.ensures))) h
