use Rattle.taps_session.proofs.ServiceRuns.{ended, room, rules_are}
use Rattle.taps_session.proofs.serving.carry_service.Goals as goal

pub returns-in-Ok : goal.returns-in-Ok
returns-in-Ok g c = record {
  ran = ended g.N.Sockets.Becomes g.N.Sockets.net c.args.net.now c.reserve.new.self c.listen_over.new.net g.L.Layers.layers c.args.ready.now c.args.target _ _ c.requires.first
      (rules_are g.L.Layers.layers c.args.ready.now c.args.target c.service-service.result _ _ c.service-service.ensures.is c.requires.layers c.requires.messages) g.met.N.Sockets.becomes_on g.met.N.Sockets.shows
      (room g.N.Sockets.Becomes g.N.Sockets.net c.args.net.now c.reserve.new.self c.requires.fresh c.reserve.ensures.net c.reserve.ensures.becomes) c.in-Ok.ensures;
}

pub returns-in-Err : goal.returns-in-Err
returns-in-Err g c = record {
  ran = ended g.N.Sockets.Becomes g.N.Sockets.net c.args.net.now c.reserve.new.self c.listen_over.new.net g.L.Layers.layers c.args.ready.now c.args.target _ _ c.requires.first
      (rules_are g.L.Layers.layers c.args.ready.now c.args.target c.service-service.result _ _ c.service-service.ensures.is c.requires.layers c.requires.messages) g.met.N.Sockets.becomes_on g.met.N.Sockets.shows
      (room g.N.Sockets.Becomes g.N.Sockets.net c.args.net.now c.reserve.new.self c.requires.fresh c.reserve.ensures.net c.reserve.ensures.becomes) c.in-Err.ensures;
}
