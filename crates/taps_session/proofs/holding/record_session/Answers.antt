use Rattle.std.proofs.Common.{ap, rules}
use Rattle.taps_session.proofs.Recording.{held_when}
use Rattle.taps_session.proofs.holding.record_session.Goals as goal

pub returns-in-Ok-initiated : goal.returns-in-Ok-initiated
returns-in-Ok-initiated g c = record {
  ran = held_when _ g.N.Sockets.Becomes g.N.Sockets.net _ _ c.args.net.now _ c.new-recorder.result.net.now c.carry_out-ended.new.net.net.now g.L.Layers.layers c.args.ready.now c.in-Ok.ended c.into_parts-net.result.1.items c.in-Ok-initiated.session
      (ap (λ r. r.net.now) c.new-recorder.ensures) (search rules) (λ calls h. h.1) c.requires.fresh c.into_parts-net.ensures.items c.in-Ok-initiated.ensures c.in-Ok.ensures.ran;
}
