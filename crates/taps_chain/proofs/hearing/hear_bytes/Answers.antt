use Rattle.std.proofs.Common.{[], refl}
use Rattle.taps_chain.proofs.UnderWay.{none_came, looked_on, ends_needing}
use Rattle.taps_chain.proofs.hearing.hear_bytes.Goals as goal

pub pieces-init : goal.pieces-init
pieces-init g c = record {
  messages = [];
  kept = c.requires.empty;
  holds = none_came _ c.requires.some c.vouch_each.ensures _ _ _ c.requires.few _ c.start-progress.ensures.none c.start-progress.ensures.looked _ refl;
}

pub hear_more-requires-clause-heard : goal.hear_more-requires-clause-heard
hear_more-requires-clause-heard g c = record {
  messages = c.pieces.invariant.messages;
  kept = c.pieces.invariant.kept;
  holds = looked_on _ c.requires.some c.vouch_each.ensures _ _ _ c.requires.few _ _ c.pieces.invariant.holds.under_way _ c.take_piece.ensures.came c.take_piece.ensures.others c.take_piece.ensures.looked;
}

pub returns : goal.returns
returns g c =
    let k = c.pieces.invariant in
    record {
      messages = k.messages;
      kept = k.kept;
      holds = rw c.needs_more.ensures.end (ends_needing _ c.requires.some c.vouch_each.ensures _ _ _ c.requires.few _ _ _ k.holds c.pieces-test.false c.needs_more.ensures.rest);
    }
