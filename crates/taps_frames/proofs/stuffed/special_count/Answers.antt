use Rattle.std.proofs.Common.{◌≡◌, length, ap, ◌∙◌, arith}
use Rattle.memchr.proofs.lemmas.CallerLemmas.{length-places}
use Rattle.taps_frames.specs.Stuffed.{is_special}
use Rattle.taps_frames.proofs.stuffed.special_count.Goals as goal

pub returns : goal.returns
returns c =
    let none : length c.places.places ≡ 0 = ap length c.in_default.ensures.steps.0 in
    omega (arith, none, c.places.invariant, ap length c.memchr2_iter-places.ensures.value ∙ length-places is_special c.args.body.now)
