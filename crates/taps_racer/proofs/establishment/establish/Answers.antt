use Rattle.std.proofs.Common.{ap}
use Rattle.taps_socket.proofs.Added.{added_none, added_on}
use Rattle.taps_racer.proofs.establishment.establish.Goals as goal

pub returns-clause-becomes : goal.returns-clause-becomes
returns-clause-becomes g c = added_on g.N.Sockets.Becomes _ _ _ _ _ _ g.met.N.Sockets.becomes_on (added_none g.N.Sockets.Becomes _ _ _ _ (ap (λ n. n.trace) c.reserve.ensures.net) c.reserve.ensures.becomes) c.carry_out.ensures.becomes
