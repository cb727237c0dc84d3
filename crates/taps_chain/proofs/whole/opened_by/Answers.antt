use Rattle.std.proofs.Common.{arith, []}
use Rattle.taps_chain.specs.Faults.{unfinished}
use Rattle.taps_chain.proofs.Looking.{more_of, whole_of, bad_of}
use Rattle.taps_chain.proofs.Opening.{over_used, whole_used, bad_in}
use Rattle.taps_chain.proofs.whole.opened_by.Goals as goal

pub returns-then-used-bytes : goal.returns-then-used-bytes
returns-then-used-bytes g c =
    let r = whole_of _ _ _ [] c.args.bytes.now _ c.requires.run _ c.in-Whole.is in
    over_used _ _ _ (c.requires.framers.at _ (omega arith)) _ r.1 r.2 c.if-used-bytes.true

pub open_frame-requires : goal.open_frame-requires
open_frame-requires g c =
    let r = whole_of _ _ _ [] c.args.bytes.now _ c.requires.run _ c.in-Whole.is in
    whole_used _ _ _ _ r.1 r.2 c.if-used-bytes.false

pub returns-in-More : goal.returns-in-More
returns-in-More g c =
    let r = more_of _ _ _ [] c.args.bytes.now _ c.requires.run _ c.in-More.is in
    unfinished r.unfinished r.viable

pub returns-in-Bad : goal.returns-in-Bad
returns-in-Bad g c =
    let r = bad_of _ _ _ [] c.args.bytes.now _ c.requires.run _ c.in-Bad.is in
    bad_in _ _ _ (c.requires.framers.at _ (omega arith)) _ r.0 r.1 r.2
