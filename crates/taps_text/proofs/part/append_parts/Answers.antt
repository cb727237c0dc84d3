use Rattle.taps_text.proofs.Appended.{all_parts}
use Rattle.taps_text.proofs.part.append_parts.Goals as goal

pub returns : goal.returns
returns c = all_parts _ _ c.args.parts.now c.loop-part.part-index c.loop-part-test.false c.loop-part.invariant
