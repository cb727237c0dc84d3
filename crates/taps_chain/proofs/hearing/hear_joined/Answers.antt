use Rattle.std.proofs.Common.{◌∙◌, refl}
use Rattle.taps_chain.proofs.Joined.{one_came, one_fits, all_came}
use Rattle.taps_chain.proofs.Kept.{of_items}
use Rattle.taps_chain.proofs.UnderWay.{none_came, ends_needing}
use Rattle.taps_chain.proofs.hearing.hear_joined.Goals as goal

pub loop-piece-init : goal.loop-piece-init
loop-piece-init g c = record {
  waits = record {
    messages = c.args.sink.now.items;
    kept = refl;
    holds = none_came _ c.requires.some c.requires.framers _ _ _ c.requires.few _ c.start-progress.ensures.none c.start-progress.ensures.looked _ c.requires.empty;
  };
  fed = c.start-progress.ensures.none.0;
}

pub hear_more-requires-clause-more : goal.hear_more-requires-clause-more
hear_more-requires-clause-more g c = one_fits _ _ refl _ c.requires.joined _ _ c.loop-piece.invariant.fed _ _ c.loop-piece-test.true c.piece-item.is c.bytes-more.ensures

pub hear_more-requires-clause-heard : goal.hear_more-requires-clause-heard
hear_more-requires-clause-heard g c =
    let k = c.loop-piece.invariant.waits in
    record { messages = k.messages; kept = k.kept; holds = k.holds.under_way }

pub loop-piece-preserved : goal.loop-piece-preserved
loop-piece-preserved g c = record {
  waits = c.hear_more.ensures.goes_on c.in_default.is;
  fed = c.hear_more.ensures.fed ∙ one_came _ _ refl _ c.requires.joined _ _ c.loop-piece.invariant.fed _ _ c.loop-piece-test.true c.piece-item.is c.bytes-more.ensures;
}

pub returns-in-Some : goal.returns-in-Some
returns-in-Some g c = of_items _ _ c.in-Some.ensures.ends

pub returns : goal.returns
returns g c = rw c.needs_more.ensures.end (ends_needing _ c.requires.some c.requires.framers _ _ _ c.requires.few _ _ _ (of_items _ _ c.loop-piece.invariant.waits) (all_came _ _ refl _ c.requires.joined _ _ c.loop-piece.invariant.fed c.loop-piece-test.false) c.needs_more.ensures.rest)
