use Rattle.std.specs.Prelude.{[], codes}
use Rattle.std.proofs.Common.{refl, arith}
use Rattle.taps_frames.proofs.DecimalHeads.{part_started}
use Rattle.taps_frames.proofs.counted.CountedHeaded.head_with.Goals as goal

pub digit_step-requires-clause-value : goal.digit_step-requires-clause-value
digit_step-requires-clause-value c =
    (part_started (codes "counted") 1 32 [] (omega arith) refl c.args._index c.args.count c.args.value c.args.byte c.requires.0 c.requires.1).small

pub returns : goal.returns
returns c = λ x p. c.digit_step.ensures (codes "counted") [] x c.args._index p
