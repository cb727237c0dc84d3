use Rattle.std.proofs.Common.{arith}
use Rattle.taps_framer.proofs.Bytes.{are_bytes_fit}
use Rattle.taps_frames.proofs.BodyLemmas.{body_within, body_below}
use Rattle.taps_frames.proofs.room.is_of_size.Goals as goal

pub returns-then-least-body : goal.returns-then-least-body
returns-then-least-body c = body_within c.args.least c.args.most c.args.body.now (are_bytes_fit _ c.type_inv.body) (omega arith)

pub returns-else-least-body : goal.returns-else-least-body
returns-else-least-body c = body_below c.args.least c.args.most c.args.body.now (omega arith)
