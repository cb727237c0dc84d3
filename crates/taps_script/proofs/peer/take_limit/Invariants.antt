use Rattle.std.proofs.Common.{◌≡◌, drop}
use Rattle.taps_script.specs.ScriptLines.{take_in}
use Rattle.taps_script.proofs.peer.take_limit.Given as goal

abbrev pub invariant-loop-line : goal.invariant-loop-line
invariant-loop-line l = take_in l.lines ≡ take_in (drop l.line-index l.lines)
