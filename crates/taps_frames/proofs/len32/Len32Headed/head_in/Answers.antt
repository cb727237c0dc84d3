use Rattle.std.proofs.Common.{arith}
use Rattle.taps_framer.proofs.Bytes.{are_bytes_fit}
use Rattle.taps_frames.proofs.Len32Heads.{len32_begun}
use Rattle.taps_frames.proofs.len32.Len32Headed.head_in.Goals as goal

pub returns-then-buffer-lt4 : goal.returns-then-buffer-lt4
returns-then-buffer-lt4 c = len32_begun c.args._index c.args.buffer.now (are_bytes_fit _ c.type_inv.buffer) (omega arith) (omega arith)

pub returns-then-size-gt-MOST : goal.returns-then-size-gt-MOST
returns-then-size-gt-MOST c = c.bad_place.ensures c.args._index
