use Rattle.std.proofs.Common.{◌≡◌, drop}
use Rattle.taps_script.specs.PeerTimes.{failure}
use Rattle.taps_script.proofs.peer.failure.Given as goal

abbrev pub invariant-loop-line : goal.invariant-loop-line
invariant-loop-line l = failure l.done l.now l.lines ≡ failure l.done l.now (drop l.line-index l.lines)
