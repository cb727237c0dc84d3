use Rattle.std.proofs.Common.{refl, sym, subst}
use Rattle.std.specs.Prelude.{Ok}
use Rattle.taps_command.specs.Nets.{HasRun}
use Rattle.taps_session.specs.Loops.{EndsBoth}
use Rattle.taps_session.proofs.LoopEnds.{refused_copy, unraced_both, listening_copy, ended_both, cut_by}
use Rattle.taps_session.proofs.LoopRuns.{IsRacedOn, stands}
use Rattle.taps_session.proofs.ServiceRuns.{room}
use Rattle.taps_session.proofs.looping.carry_both.Given.{Over}
use Rattle.taps_session.proofs.looping.carry_both.Goals.{In-Ok-race_behind}
use Rattle.taps_session.proofs.looping.carry_both.Goals as goal

-- the race was carried out behind the listener
raced_on : (g : Over) (c : In-Ok-race_behind g)
    → IsRacedOn g.N.Sockets.Becomes g.N.Sockets.net c.args.net.now c.reserve.new.self c.listen.new.net c.race_behind.new.net c.args.ready.now c.args.target c.in-Ok.listener c.args.racer.rules c.args.targets.now c.in-Ok-race_behind.answer
raced_on g c = record {
  on = g.met.N.Sockets.becomes_on;
  show = g.met.N.Sockets.shows;
  room = room g.N.Sockets.Becomes g.N.Sockets.net c.args.net.now c.reserve.new.self c.requires.fresh c.reserve.ensures.net c.reserve.ensures.becomes;
  first = c.requires.first;
  same_rules = c.requires.prepared.same_rules;
  same_targets = c.requires.prepared.same_targets;
  listening = listening_copy g.N.Sockets.Becomes g.N.Sockets.net c.reserve.new.self c.listen.new.net c.args.target _ c.in-Ok.listener c.copy_of.ensures c.in-Ok.ensures;
  added = c.race_behind.ensures.becomes;
  raced = c.in-Ok-race_behind.ensures.raced;
}

pub returns-in-Err : goal.returns-in-Err
returns-in-Err g c = record {
  ran = refused_copy g.N.Sockets.Becomes g.N.Sockets.net c.args.net.now c.reserve.new.self c.listen.new.net c.args.ready.now c.args.target _ g.L.Layers.layers _ c.items-first.result.now _ c.copy_of.ensures c.requires.first g.met.N.Sockets.becomes_on g.met.N.Sockets.shows
      (room g.N.Sockets.Becomes g.N.Sockets.net c.args.net.now c.reserve.new.self c.requires.fresh c.reserve.ensures.net c.reserve.ensures.becomes) c.in-Err.ensures refl c.items-first.ensures;
}

pub returns-in-Err-race_behind : goal.returns-in-Err-race_behind
returns-in-Err-race_behind g c = record {
  ran = unraced_both g.N.Sockets.Becomes g.N.Sockets.net c.args.net.now c.reserve.new.self c.listen.new.net c.race_behind.new.net _ c.args.ready.now c.args.target g.L.Layers.layers c.in-Ok.listener _ c.requires.first g.met.N.Sockets.becomes_on g.met.N.Sockets.shows
      (room g.N.Sockets.Becomes g.N.Sockets.net c.args.net.now c.reserve.new.self c.requires.fresh c.reserve.ensures.net c.reserve.ensures.becomes)
      (listening_copy g.N.Sockets.Becomes g.N.Sockets.net c.reserve.new.self c.listen.new.net c.args.target _ c.in-Ok.listener c.copy_of.ensures c.in-Ok.ensures)
      c.in-Err-race_behind.ensures.unchanged c.race_behind.ensures.becomes c.stop.ensures;
}

pub go_behind-requires-clause-winner : goal.go_behind-requires-clause-winner
go_behind-requires-clause-winner g c = (stands g.N.Sockets.Becomes g.N.Sockets.net _ _ _ _ _ _ _ _ _ _ (raced_on g (goal.at.go_behind-requires-clause-winner g c).In-Ok-race_behind)).winner

pub go_behind-requires-clause-other : goal.go_behind-requires-clause-other
go_behind-requires-clause-other g c = (stands g.N.Sockets.Becomes g.N.Sockets.net _ _ _ _ _ _ _ _ _ _ (raced_on g (goal.at.go_behind-requires-clause-other g c).In-Ok-race_behind)).other

pub go_behind-requires-clause-leads : goal.go_behind-requires-clause-leads
go_behind-requires-clause-leads g c = (stands g.N.Sockets.Becomes g.N.Sockets.net _ _ _ _ _ _ _ _ _ _ (raced_on g (goal.at.go_behind-requires-clause-leads g c).In-Ok-race_behind)).leads

pub go_behind-requires-clause-room : goal.go_behind-requires-clause-room
go_behind-requires-clause-room g c = (stands g.N.Sockets.Becomes g.N.Sockets.net _ _ _ _ _ _ _ _ _ _ (raced_on g (goal.at.go_behind-requires-clause-room g c).In-Ok-race_behind)).room

pub returns-in_err-looped : goal.returns-in_err-looped
returns-in_err-looped g c = record {
  ran = cut_by g.N.Sockets.Becomes g.N.Sockets.net _ _ _ _ c.go_behind.new.net _ _ _ _ _ _ (raced_on g (goal.at.returns-in_err-looped g c).In-Ok-race_behind) g.L.Layers.layers _ _ c.from_residual-in_err-looped.ensures.0 c.in_err-looped.ensures;
}

pub returns : goal.returns
returns g c = record {
  ran = subst (λ e. HasRun g.N.Sockets.Becomes c.args.net.now.net c.go_behind.new.net.net (g.N.Sockets.net c.args.net.now.net) (g.N.Sockets.net c.go_behind.new.net.net) (EndsBoth g.L.Layers.layers c.args.ready.now c.args.target (Ok e))) (sym c.ended_by.ensures)
      (ended_both g.N.Sockets.Becomes g.N.Sockets.net _ _ _ _ c.go_behind.new.net _ _ _ _ _ _ (raced_on g (goal.at.returns g c).In-Ok-race_behind) g.L.Layers.layers c.in_ok-looped.looped c.items-raced.result.now c.items-all.result.now _ _ refl refl c.items-raced.ensures c.items-all.ensures c.in_ok-looped.ensures);
}
