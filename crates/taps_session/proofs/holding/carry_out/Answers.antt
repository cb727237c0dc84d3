use Rattle.std.proofs.Common.{refl}
use Rattle.taps_session.proofs.Carrying.{IsCarried, carries, carried_ok, carried_err, not_raced, not_reserved}
use Rattle.taps_session.proofs.holding.carry_out.Given.{Over}
use Rattle.taps_session.proofs.holding.carry_out.Goals.{In_ok-answer}
use Rattle.taps_session.proofs.holding.carry_out.Goals as goal

carried : (g : Over) (c : In_ok-answer g) → IsCarried g.N.Sockets.Becomes g.N.Sockets.net c.args.net.now c.reserve.new.self c.race.new.net c.args.ready.now c.args.racer.rules c.args.targets.now c.in_ok-answer.answer
carried g c = carries g.N.Sockets.Becomes g.N.Sockets.net _ _ _ _ _ _ _ c.requires.fresh c.reserve.ensures.net c.reserve.ensures.becomes c.requires.prepared.same_rules c.requires.prepared.same_targets c.race.ensures.becomes c.in_ok-answer.ensures.raced

pub returns-in_err-reserve : goal.returns-in_err-reserve
returns-in_err-reserve g c = record {
  ran = not_reserved g.N.Sockets.Becomes g.N.Sockets.net c.args.net.now c.reserve.new.self g.L.Layers.layers c.args.ready.now _ c.from_residual.ensures.0 g.met.N.Sockets.shows c.requires.fresh c.reserve.ensures.net c.reserve.ensures.becomes;
}

pub returns-in_err-answer : goal.returns-in_err-answer
returns-in_err-answer g c = record {
  ran = not_raced g.N.Sockets.Becomes g.N.Sockets.net c.args.net.now c.reserve.new.self c.race.new.net g.L.Layers.layers c.args.ready.now _ c.from_residual-in_err-answer.ensures.0
      g.met.N.Sockets.becomes_on g.met.N.Sockets.shows c.requires.fresh c.reserve.ensures.net c.reserve.ensures.becomes c.in_err-answer.ensures.unchanged c.race.ensures.becomes;
}

pub returns-in-Ok : goal.returns-in-Ok
returns-in-Ok g c = record {
  ran = carried_ok g.N.Sockets.Becomes g.N.Sockets.net _ _ _ c.go_on.new.net g.L.Layers.layers _ _ _ _ c.items-raced.result.now _ c.told-at.result c.in-Ok.exchanged
      g.met.N.Sockets.becomes_on g.met.N.Sockets.shows (carried g (goal.at.returns-in-Ok g c).In_ok-answer) c.items-raced.ensures refl c.told-at.ensures c.in-Ok.ensures;
}

pub returns-in-Err : goal.returns-in-Err
returns-in-Err g c = record {
  ran = carried_err g.N.Sockets.Becomes g.N.Sockets.net _ _ _ c.go_on.new.net g.L.Layers.layers _ _ _ _ c.told-at.result c.in-Err.none
      g.met.N.Sockets.becomes_on g.met.N.Sockets.shows (carried g (goal.at.returns-in-Err g c).In_ok-answer) c.told-at.ensures c.in-Err.ensures;
}
