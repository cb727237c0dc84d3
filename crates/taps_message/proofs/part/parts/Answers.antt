use Rattle.std.proofs.Common.{arith, length}
use Rattle.taps_message.proofs.Parting.{are_parts}
use Rattle.taps_message.proofs.part.parts.Goals as goal

pub returns : goal.returns
returns c = rw c.bytes.ensures (are_parts c.args.max (length c.args.body.now) c.args.body.now c.requires (omega arith))
