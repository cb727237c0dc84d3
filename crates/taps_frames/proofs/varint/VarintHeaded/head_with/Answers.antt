use Rattle.std.proofs.Common.{◌<◌, [], refl, arith}
use Rattle.taps_frames.specs.Varint.{varint_format}
use Rattle.taps_frames.proofs.VarintForms.{length-shortest}
use Rattle.taps_frames.proofs.Rebuilt.{fits, grown_next}
use Rattle.taps_frames.proofs.VarintHeads.{varint_lawful}
use Rattle.taps_frames.proofs.varint.VarintHeaded.head_with.Goals as goal

pub returns : goal.returns
returns c = λ x p.
    grown_next varint_format [] varint_lawful c.args.index c.args.count c.args.value c.args.byte x p _ refl (length-shortest _).1
    _ _ _ c.head_in.result c.grown_by.result c.to_be_bytes-bytes.ensures c.first_of-seen.ensures c.head_in.ensures refl c.grown_by.ensures

pub bounds-bytes-count : goal.bounds-bytes-count
bounds-bytes-count c =
    let h : c.args.count < 4 = fits varint_format [] varint_lawful c.args.index c.args.count c.args.value c.args.byte c.requires.0 c.requires.1 _ refl (length-shortest _).1 in
    omega arith

pub overflow_add-count : goal.overflow_add-count
overflow_add-count c =
    let h : c.args.count < 4 = fits varint_format [] varint_lawful c.args.index c.args.count c.args.value c.args.byte c.requires.0 c.requires.1 _ refl (length-shortest _).1 in
    omega arith
