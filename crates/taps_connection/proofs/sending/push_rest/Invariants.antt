use Rattle.std.proofs.Common.{◌-◌, [], length}
use Rattle.std.specs.Prelude.{None}
use Rattle.taps_socket.specs.Sides.{carries_stream}
use Rattle.taps_connection.specs.Adds.{Adds}
use Rattle.taps_connection.specs.Pushes.{IsPushing, Took}
use Rattle.taps_connection.proofs.sending.push_rest.Given as goal

abbrev pub invariant-sending : goal.invariant-sending
invariant-sending g l =
    record {
      pushing : IsPushing g.N.Sockets.Becomes l.fn.net l.net l.socket l.until l.bytes l.from l.at l.taken l.moment;
      took : Took (carries_stream (g.N.Sockets.net l.fn.net).trace l.socket) ((g.N.Sockets.net l.fn.net).traffic l.socket) ((g.N.Sockets.net l.net).traffic l.socket) l.bytes l.from l.taken;
      adds : Adds l.socket [] None (g.N.Sockets.net l.fn.net) (g.N.Sockets.net l.net);
    }

abbrev pub decreases-sending : goal.decreases-sending
decreases-sending g l = length l.bytes - l.taken
