use Rattle.std.proofs.Common.{[], ◌∷◌, arith, length-append}
use Rattle.taps_frames.specs.Stuffed.{stuff}
use Rattle.taps_frames.proofs.Spellings.{length-stuff}
use Rattle.taps_frames.proofs.stuffed.StuffedFramer.write.Goals as goal

pub returns-in_err-reserve-clause-room : goal.returns-in_err-reserve-clause-room
returns-in_err-reserve-clause-room c = λ h.
    let f = c.in_err-reserve.ensures.full in
    let n = c.special_count.ensures in
    absurd (omega (arith, h, f, n, length-stuff c.args.body.now, length-append (stuff c.args.body.now) (192 ∷ [])))

pub write_all-requires : goal.write_all-requires
write_all-requires c =
    let r = c.in_ok-reserve.ensures.ok in
    let n = c.special_count.ensures in
    record { room = omega (arith, r, n, length-stuff c.args.body.now) }

pub put-requires : goal.put-requires
put-requires c =
    let r = c.in_ok-reserve.ensures.ok in
    let n = c.special_count.ensures in
    let l = c.write_all.ensures.len in
    let k = c.write_all.ensures.capacity in
    record { room = omega (arith, r, n, k, l, length-stuff c.args.body.now) }
