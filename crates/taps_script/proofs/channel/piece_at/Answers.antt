use Rattle.std.proofs.Common.{◌≡◌, ◌≤◌, ◌<◌, ◌+◌, ◌∷◌, length, drop, drop-cons, add-one, get_or, sym, ◌∙◌, arith}
use Rattle.taps_script.proofs.Pieces.{piece_step}
use Rattle.taps_script.proofs.channel.piece_at.Goals as goal

pub loop-length-preserved : goal.loop-length-preserved
loop-length-preserved c =
    let i = c.loop-length.length-index in
    let lengths = c.args.lengths.now in
    let here : i < length lengths = c.loop-length-test.true in
    let front : drop i lengths ≡ get_or lengths i 0 ∷ drop (i + 1) lengths = rw (add-one, drop-cons lengths i 0) in
    let some : 1 ≤ c.loop-length.left = omega arith in
    let step = piece_step lengths c.loop-length.rest.now c.split_at.result.1.now i c.loop-length.left (get_or lengths i 0) front some c.split_at.ensures.back c.loop-length.invariant.lengths in
    record { lengths = step.0; same = sym step.1 ∙ c.loop-length.invariant.same }
