use Rattle.std.proofs.Common.{subst}
use Rattle.taps_socket.proofs.Added.{added_on}
use Rattle.taps_group.specs.Clones.{HasRaced}
use Rattle.taps_group.proofs.Cloning.{grown_by, grown_failed}
use Rattle.taps_group.proofs.group.Group.grow.Goals as goal

pub returns-in-Ready-clause-grown : goal.returns-in-Ready-clause-grown
returns-in-Ready-clause-grown g c =
    let (n, is) = c.in-Ready.ensures in
    grown_by _ c.args.leaf c.args.timeout (g.N.Sockets.net c.args.net.now) (g.N.Sockets.net c.race.new.net) (g.N.Sockets.net c.join.new.net) c.args.self.now c.join.result c.join.new.self n c.in-Ready.socket c.in-Ready.at
    (subst (HasRaced c.args.self.now.target c.args.leaf c.args.timeout (g.N.Sockets.net c.args.net.now) (g.N.Sockets.net c.race.new.net)) is c.in-Ok.ensures.raced) c.join.ensures.joined

pub returns-in-Ready-clause-becomes : goal.returns-in-Ready-clause-becomes
returns-in-Ready-clause-becomes g c = added_on g.N.Sockets.Becomes _ _ _ _ _ _ g.met.N.Sockets.becomes_on c.race.ensures.becomes c.join.ensures.becomes

pub returns-in-Failed-clause-grown : goal.returns-in-Failed-clause-grown
returns-in-Failed-clause-grown g c = grown_failed c.args.leaf c.args.timeout (g.N.Sockets.net c.args.net.now) (g.N.Sockets.net c.race.new.net) c.args.self.now c.in-Ok.answer c.in-Failed.failed c.in-Failed.ensures.0 c.in-Failed.ensures.1 c.in-Ok.ensures.raced
