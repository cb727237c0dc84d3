use Rattle.std.proofs.Common.{arith}
use Rattle.taps_example_framer.proofs.PacketLaws.{needs_none, bad_mark, needs_more, whole}
use Rattle.taps_example_framer.proofs.packet.PacketFramer.read.Goals as goal

pub returns-then-buffer-eq0 : goal.returns-then-buffer-eq0
returns-then-buffer-eq0 c = needs_none _ _ c.if-buffer-eq0.true

pub returns-then-buffer-ne71 : goal.returns-then-buffer-ne71
returns-then-buffer-ne71 c = bad_mark _ _ c.if-buffer-eq0.false c.if-buffer-ne71.true

pub returns-then-buffer-lt188 : goal.returns-then-buffer-lt188
returns-then-buffer-lt188 c = needs_more _ _ c.if-buffer-ne71.false c.if-buffer-lt188.true

pub returns : goal.returns
returns c = whole _ _ c.if-buffer-ne71.false (omega (arith, c.if-buffer-lt188.false))
