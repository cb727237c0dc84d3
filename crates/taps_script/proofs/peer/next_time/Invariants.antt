use Rattle.std.proofs.Common.{◌≡◌, drop}
use Rattle.taps_script.specs.PeerTimes.{next_time}
use Rattle.taps_script.proofs.peer.next_time.Given as goal

abbrev pub invariant-loop-line : goal.invariant-loop-line
invariant-loop-line l = next_time l.stream l.done l.now l.lines ≡ next_time l.stream l.done l.now (drop l.line-index l.lines)
