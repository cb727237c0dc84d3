use Rattle.std.proofs.Common.{◌≡◌, ◌+◌, length, map}
use Rattle.taps_socket.specs.Winner.{place_of}
use Rattle.taps_racer.specs.Attempts.{socket_of}
use Rattle.taps_racer.proofs.attempts.place_in.Given as goal

abbrev pub invariant-loop-rest : goal.invariant-loop-rest
invariant-loop-rest l =
    record {
      place : l.place + place_of l.socket (map socket_of l.rest) ≡ place_of l.socket (map socket_of l.attempts);
      size : l.place + length l.rest ≡ length l.attempts;
    }

abbrev pub decreases-loop-rest : goal.decreases-loop-rest
decreases-loop-rest l = length l.rest
