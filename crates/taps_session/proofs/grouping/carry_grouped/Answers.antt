use Rattle.std.proofs.Common.{refl}
use Rattle.taps_session.proofs.Carrying.{IsCarried, carries}
use Rattle.taps_session.proofs.Grouped.{carried_group, carried_group_cut, group_not_raced, group_not_reserved}
use Rattle.taps_session.proofs.grouping.carry_grouped.Given.{Over}
use Rattle.taps_session.proofs.grouping.carry_grouped.Goals.{In_ok-answer}
use Rattle.taps_session.proofs.grouping.carry_grouped.Goals as goal

carried : (g : Over) (c : In_ok-answer g) → IsCarried g.N.Sockets.Becomes g.N.Sockets.net c.args.net.now c.reserve.new.self c.race.new.net c.args.ready.now c.args.racer.rules c.args.targets.now c.in_ok-answer.answer
carried g c = carries g.N.Sockets.Becomes g.N.Sockets.net _ _ _ _ _ _ _ c.requires.fresh c.reserve.ensures.net c.reserve.ensures.becomes c.requires.prepared.same_rules c.requires.prepared.same_targets c.race.ensures.becomes c.in_ok-answer.ensures.raced

pub returns-in_err-reserve : goal.returns-in_err-reserve
returns-in_err-reserve g c = record {
  ran = group_not_reserved g.N.Sockets.Becomes g.N.Sockets.net c.args.net.now c.reserve.new.self g.L.Layers.layers c.args.ready.now _ c.from_residual.ensures.0 g.met.N.Sockets.shows c.requires.fresh c.reserve.ensures.net c.reserve.ensures.becomes;
}

pub returns-in_err-answer : goal.returns-in_err-answer
returns-in_err-answer g c = record {
  ran = group_not_raced g.N.Sockets.Becomes g.N.Sockets.net c.args.net.now c.reserve.new.self c.race.new.net g.L.Layers.layers c.args.ready.now _ c.from_residual-in_err-answer.ensures.0
      g.met.N.Sockets.becomes_on g.met.N.Sockets.shows c.requires.fresh c.reserve.ensures.net c.reserve.ensures.becomes c.in_err-answer.ensures.unchanged c.race.ensures.becomes;
}

pub returns-in-Ok : goal.returns-in-Ok
returns-in-Ok g c = record {
  ran = carried_group g.N.Sockets.Becomes g.N.Sockets.net _ _ _ g.L.Layers.layers _ g.met.N.Sockets.becomes_on c.vouch_members.ensures g.met.N.Sockets.shows c.go_on_grouped.new.net
      _ _ _ c.items-raced.result.now _ c.in-Ok.held (carried g (goal.at.returns-in-Ok g c).In_ok-answer) c.items-raced.ensures refl c.in-Ok.ensures;
}

pub returns-in-Err : goal.returns-in-Err
returns-in-Err g c = record {
  ran = carried_group_cut g.N.Sockets.Becomes g.N.Sockets.net _ _ _ g.L.Layers.layers _ g.met.N.Sockets.becomes_on c.vouch_members.ensures g.met.N.Sockets.shows c.go_on_grouped.new.net
      _ _ _ c.in-Err.none (carried g (goal.at.returns-in-Err g c).In_ok-answer) c.in-Err.ensures;
}
