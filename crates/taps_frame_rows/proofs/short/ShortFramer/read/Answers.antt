use Rattle.std.proofs.Common.{arith}
use Rattle.taps_frame_rows.proofs.ShortPairs.{short_needs, short_whole}
use Rattle.taps_frame_rows.proofs.short.ShortFramer.read.Goals as goal

pub returns-then-buffer-lt1 : goal.returns-then-buffer-lt1
returns-then-buffer-lt1 c = short_needs _ _ (omega (arith, c.type_inv.buffer 0)) (omega arith)

pub returns-then-length-buffer : goal.returns-then-length-buffer
returns-then-length-buffer c = short_whole _ _ (omega (arith, c.type_inv.buffer 0)) c.if-length-buffer.true

pub returns-else-length-buffer : goal.returns-else-length-buffer
returns-else-length-buffer c = short_needs _ _ (omega (arith, c.type_inv.buffer 0)) c.if-length-buffer.false
