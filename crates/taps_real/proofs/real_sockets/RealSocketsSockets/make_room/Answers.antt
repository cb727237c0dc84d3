use Rattle.taps_real.proofs.Answered.{roomy_after}
use Rattle.taps_real.proofs.real_sockets.RealSocketsSockets.make_room.Goals as goal

pub returns-clause-becomes : goal.returns-clause-becomes
returns-clause-becomes g c = roomy_after _ c.args.self.now c.make_room.new.self c.args.socket _ c.self.view_is c.make_room.ensures.net c.make_room.ensures.kept
