use Rattle.std.proofs.Common.{length, arith}
use Rattle.taps_frames.proofs.Lines.{no_end_before}
use Rattle.taps_frames.proofs.line.line_len.Goals as goal

pub returns-in-Some-clause-one : goal.returns-in-Some-clause-one
returns-in-Some-clause-one c = no_end_before c.args.bytes.now c.in-Some.place (let h = c.in-Some.ensures.0.high in omega (arith, h)) (λ k l e. c.in-Some.ensures.0.before k (omega arith) l e)

pub returns-in-None-clause-one : goal.returns-in-None-clause-one
returns-in-None-clause-one c = no_end_before c.args.bytes.now (length c.args.bytes.now) (omega arith) (λ k l e. c.in-None.ensures k (omega arith) l e)
