use Rattle.std.proofs.Common.{ap, rules}
use Rattle.taps_session.proofs.Grouped.{group_held}
use Rattle.taps_session.proofs.grouping.record_grouped.Goals as goal

pub returns-in-Ok-grouped : goal.returns-in-Ok-grouped
returns-in-Ok-grouped g c = record {
  ran = group_held _ g.N.Sockets.Becomes g.N.Sockets.net _ _ c.args.net.now _ c.new-recorder.result.net.now c.carry_grouped-ended.new.net.net.now g.L.Layers.layers c.args.ready.now c.in-Ok.ended c.into_parts-net.result.1.items c.in-Ok-grouped.session
      (ap (λ r. r.net.now) c.new-recorder.ensures) (search rules) (λ calls h. h.1) c.requires.fresh c.into_parts-net.ensures.items c.in-Ok-grouped.ensures c.in-Ok.ensures.ran;
}
