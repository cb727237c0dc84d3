use Rattle.std.proofs.Common.{ℕ, arith}
use Rattle.taps_framer.proofs.Bytes.{are_bytes_fit}
use Rattle.taps_frames.proofs.VarintPlaces.{begun_empty, begun_one, bad_second, whole_one, whole_two}
use Rattle.taps_frames.proofs.varint.VarintHeaded.head_in.Goals as goal

pub returns-in-empty : goal.returns-in-empty
returns-in-empty c = let i : ℕ = c.args._index in begun_empty i c.args.buffer.now (omega arith)

pub returns-in-len1-up : goal.returns-in-len1-up
returns-in-len1-up c = let i : ℕ = c.args._index in whole_one i c.args.buffer.now (are_bytes_fit _ c.type_inv.buffer) (omega arith) (omega arith)

pub returns-in-len1 : goal.returns-in-len1
returns-in-len1 c = let i : ℕ = c.args._index in begun_one i c.args.buffer.now (are_bytes_fit _ c.type_inv.buffer) (omega arith) (omega arith) (omega arith) (omega arith)

pub returns-then-size-lt64 : goal.returns-then-size-lt64
returns-then-size-lt64 c = let i : ℕ = c.args._index in bad_second i c.args.buffer.now (are_bytes_fit _ c.type_inv.buffer) (omega arith) (omega arith) (omega arith) (omega arith) (let e = c.from_be_bytes.ensures in omega (arith, e))

pub returns-else-size-lt64 : goal.returns-else-size-lt64
returns-else-size-lt64 c = let i : ℕ = c.args._index in let e = c.from_be_bytes.ensures in
    whole_two i c.args.buffer.now (are_bytes_fit _ c.type_inv.buffer) (omega arith) _ (omega arith) (omega (arith, e)) (omega arith) (let s = c.type_inv.buffer 1 in omega (arith, e, s))

pub returns-in_default : goal.returns-in_default
returns-in_default c = c.head_of_four.ensures c.args._index
