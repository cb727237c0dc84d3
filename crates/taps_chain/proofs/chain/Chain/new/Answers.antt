use Rattle.std.proofs.Common.{◌<◌, length, arith, refl, length-append}
use Rattle.taps_chain.proofs.Depths.{taken_more}
use Rattle.taps_chain.proofs.chain.Chain.new.Goals as goal

pub loop-place-preserved : goal.loop-place-preserved
loop-place-preserved g c =
    let at : c.loop-place.place-index < length c.args.places.now = omega arith in
    record {
      count = rw c.in_ok-push.ensures.items (rw length-append (omega arith));
      taken = rw c.in_ok-push.ensures.items (taken_more _ _ _ _ _ _ _ _ _ at refl (c.requires.within c.loop-place.place-index 0 at) c.index.ensures refl c.loop-place.invariant.taken);
    }
