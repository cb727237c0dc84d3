use Rattle.std.proofs.Common.{length, arith}
use Rattle.taps_frames.proofs.Spellings.{none_before}
use Rattle.taps_frames.proofs.stuffed.plain_run.Goals as goal

pub returns-in-Some-clause-plain : goal.returns-in-Some-clause-plain
returns-in-Some-clause-plain c = none_before c.args.bytes.now c.in-Some.place (let h = c.in-Some.ensures.0.high in omega (arith, h)) (λ k l e. c.in-Some.ensures.0.before k (omega arith) l e)

pub returns-in-None-clause-plain : goal.returns-in-None-clause-plain
returns-in-None-clause-plain c = none_before c.args.bytes.now (length c.args.bytes.now) (omega arith) (λ k l e. c.in-None.ensures k (omega arith) l e)
