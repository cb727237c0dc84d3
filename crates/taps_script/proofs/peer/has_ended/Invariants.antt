use Rattle.std.proofs.Common.{◌≡◌, drop}
use Rattle.taps_script.specs.PeerTimes.{has_ended}
use Rattle.taps_script.proofs.peer.has_ended.Given as goal

abbrev pub invariant-loop-line : goal.invariant-loop-line
invariant-loop-line l = has_ended l.done l.now l.lines ≡ has_ended l.done l.now (drop l.line-index l.lines)
