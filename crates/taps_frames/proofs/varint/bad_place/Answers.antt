use Rattle.taps_framer.proofs.Bytes.{are_bytes_fit}
use Rattle.taps_frames.proofs.VarintPlaces.{passes_at_1, passes_at_2, passes_at_3}
use Rattle.taps_frames.proofs.varint.bad_place.Goals as goal

pub returns-then-size : goal.returns-then-size
returns-then-size c = λ i. passes_at_1 i c.args._buffer.now (are_bytes_fit _ c.type_inv._buffer) c.requires.some c.args.size c.requires.told c.requires.first c.requires.large c.if-size.true

pub returns-then-size-2 : goal.returns-then-size-2
returns-then-size-2 c = λ i. passes_at_2 i c.args._buffer.now (are_bytes_fit _ c.type_inv._buffer) c.requires.some c.args.size c.requires.told c.requires.first c.requires.large c.if-size.false c.if-size-2.true

pub returns : goal.returns
returns c = λ i. passes_at_3 i c.args._buffer.now (are_bytes_fit _ c.type_inv._buffer) c.requires.some c.args.size c.requires.told c.requires.first c.requires.large c.if-size-2.false
