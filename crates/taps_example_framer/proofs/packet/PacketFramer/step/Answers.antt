use Rattle.std.proofs.Common.{ap, arith}
use Rattle.taps_example_framer.proofs.PacketLaws.{step_bad, step_more, step_whole}
use Rattle.taps_example_framer.proofs.packet.PacketFramer.step.Goals as goal

pub returns-then-byte-ne71 : goal.returns-then-byte-ne71
returns-then-byte-ne71 c = λ x h. step_bad _ _ x _ c.if-scan-eq0.true c.if-byte-ne71.true h

pub returns-then-scan-eq187 : goal.returns-then-scan-eq187
returns-then-scan-eq187 c = λ x h. step_whole _ _ x _ c.if-scan-eq187.true h

pub returns-then-scan-eq0 : goal.returns-then-scan-eq0
returns-then-scan-eq0 c = λ x h. step_more _ c.args.scan _ x _ (λ _. c.if-byte-ne71.false)
    (λ e. omega (arith, e, c.if-scan-eq0.true)) (omega (arith, ap (λ s. s.length) c.part.ensures, c.if-scan-eq0.true)) h

pub returns : goal.returns
returns c = λ x h. step_more _ c.args.scan _ x _ (λ z. absurd (c.if-scan-eq0.false z)) c.if-scan-eq187.false (ap (λ s. s.length) c.part-2.ensures) h
