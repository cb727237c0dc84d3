use Rattle.std.proofs.Common.{◌≡◌, drop}
use Rattle.taps_script.specs.ScriptLines.{fate_under}
use Rattle.taps_script.proofs.script.fate_in.Given as goal

abbrev pub invariant-loop-line : goal.invariant-loop-line
invariant-loop-line l = fate_under l.leaf l.lines ≡ fate_under l.leaf (drop l.line-index l.lines)
