use Rattle.std.proofs.Common.{◌≡◌, drop}
use Rattle.taps_script.specs.ScriptLines.{is_echoing}
use Rattle.taps_script.proofs.peer.is_echoing.Given as goal

abbrev pub invariant-loop-line : goal.invariant-loop-line
invariant-loop-line l = is_echoing l.lines ≡ is_echoing (drop l.line-index l.lines)
