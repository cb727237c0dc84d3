use Rattle.std.proofs.Common.{◌+◌, ◌-◌, ◌*◌, length}
use Rattle.taps_socket.specs.Calls.{HasAdded}
use Rattle.taps_racer.specs.UnderWay.{UnderWay}
use Rattle.taps_racer.proofs.establishment.carry_out.Given as goal

abbrev pub invariant-race : goal.invariant-race
invariant-race g l = record { race : UnderWay l.racing l.fn.racer.rules l.first l.targets (g.N.Sockets.net l.fn.net) (g.N.Sockets.net l.net); becomes : HasAdded g.N.Sockets.Becomes l.fn.net l.net (g.N.Sockets.net l.fn.net).trace (g.N.Sockets.net l.net).trace }

abbrev pub decreases-race : goal.decreases-race
decreases-race g l = 4 * length l.targets + 2 + length (g.N.Sockets.net l.fn.net).trace - length (g.N.Sockets.net l.net).trace
