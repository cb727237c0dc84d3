use Rattle.std.proofs.Common.{refl}
use Rattle.taps_socket.proofs.Added.{added_none}
use Rattle.taps_group.proofs.race.race.Goals as goal

pub returns-in_err-racer-clause-becomes : goal.returns-in_err-racer-clause-becomes
returns-in_err-racer-clause-becomes g c = added_none g.N.Sockets.Becomes _ _ _ _ refl (g.met.N.Sockets.becomes_itself c.args.net.now)
