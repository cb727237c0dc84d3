use Rattle.std.proofs.Common.{arith}
use Rattle.taps_frame_rows.proofs.ShortPairs.{short_empty, short_length, short_last, short_next}
use Rattle.taps_frame_rows.proofs.short.ShortFramer.step.Goals as goal

pub returns-then-byte-eq0 : goal.returns-then-byte-eq0
returns-then-byte-eq0 c = λ x h. short_empty _ _ x _ c.if-scan-eq0.true c.if-byte-eq0.true h

pub returns-then-scan-eq0 : goal.returns-then-scan-eq0
returns-then-scan-eq0 c = λ x h. short_length _ _ x _ c.if-scan-eq0.true c.if-byte-eq0.false (omega arith) h

pub returns-then-scan-le1 : goal.returns-then-scan-le1
returns-then-scan-le1 c = λ x h. short_last _ _ x _ c.if-scan-eq0.false (omega arith) h

pub returns : goal.returns
returns c = λ x h. short_next _ _ x _ c.if-scan-eq0.false (omega arith) h
