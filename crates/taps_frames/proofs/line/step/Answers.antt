use Rattle.std.proofs.Common.{arith}
use Rattle.taps_frames.proofs.Lines.{byte_ends, byte_too_long, byte_waits}
use Rattle.taps_frames.proofs.line.step.Goals as goal

pub returns-then-byte-eq10 : goal.returns-then-byte-eq10
returns-then-byte-eq10 c = λ x h. byte_ends c.args._index x c.args.scan.length c.args.byte h.told c.if-byte-eq10.true

pub returns-then-scan : goal.returns-then-scan
returns-then-scan c = λ x h. byte_too_long c.args._index x c.args.scan.length c.args.byte h.told c.if-byte-eq10.false c.if-scan.true

pub returns : goal.returns
returns c = λ x h.
    let s = h.told.small in
    byte_waits c.args._index x c.args.scan.length c.args.byte h.told c.if-byte-eq10.false (omega (arith, s, c.if-scan.false)) (omega arith)
