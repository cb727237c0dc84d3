use Rattle.std.proofs.Common.{arith}
use Rattle.taps_framer.proofs.Bytes.{are_bytes_fit}
use Rattle.taps_frames.proofs.Len16Heads.{len16_begun}
use Rattle.taps_frames.proofs.len16.Len16Headed.head_in.Goals as goal

pub returns-in_default : goal.returns-in_default
returns-in_default c = len16_begun c.args._index c.args.buffer.now (are_bytes_fit _ c.type_inv.buffer) (omega arith)
