use Rattle.std.proofs.Common.{◌≡◌, drop}
use Rattle.taps_script.specs.ScriptLines.{hold_in}
use Rattle.taps_script.proofs.peer.hold.Given as goal

abbrev pub invariant-loop-line : goal.invariant-loop-line
invariant-loop-line l = hold_in l.lines ≡ hold_in (drop l.line-index l.lines)
