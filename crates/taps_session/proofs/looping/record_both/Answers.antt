use Rattle.std.proofs.Common.{ap, rules}
use Rattle.taps_session.proofs.LoopEnds.{held}
use Rattle.taps_session.proofs.looping.record_both.Goals as goal

pub returns-in-Ok-looped : goal.returns-in-Ok-looped
returns-in-Ok-looped g c = record {
  ran = held _ g.N.Sockets.Becomes g.N.Sockets.net _ _ c.args.net.now _ c.new-recorder.result.net.now c.carry_both-ended.new.net.net.now g.L.Layers.layers c.args.ready.now c.args.target c.in-Ok.ended c.into_parts-net.result.1.items c.in-Ok-looped.session
      c.requires.first (ap (λ r. r.net.now) c.new-recorder.ensures) (search rules) (λ calls h. h.1) c.into_parts-net.ensures.items c.in-Ok-looped.ensures c.in-Ok.ensures.ran;
}
