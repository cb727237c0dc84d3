use Rattle.taps_framer.proofs.Bytes.{are_bytes_fit}
use Rattle.taps_frames.proofs.Len32Heads.{passes_at_1, passes_at_2, passes_at_3}
use Rattle.taps_frames.proofs.len32.bad_place.Goals as goal

pub returns-then-number : goal.returns-then-number
returns-then-number c = λ i. passes_at_1 i c.args._buffer.now c.args.number (are_bytes_fit _ c.type_inv._buffer) c.requires.told c.requires.large c.if-number-ge16777216.false c.if-number.true

pub returns-then-number-2 : goal.returns-then-number-2
returns-then-number-2 c = λ i. passes_at_2 i c.args._buffer.now c.args.number (are_bytes_fit _ c.type_inv._buffer) c.requires.told c.requires.large c.if-number.false c.if-number-2.true

pub returns : goal.returns
returns c = λ i. passes_at_3 i c.args._buffer.now c.args.number (are_bytes_fit _ c.type_inv._buffer) c.requires.told c.requires.large c.if-number-2.false
