use Rattle.std.proofs.Common.{◌≡◌, drop}
use Rattle.taps_script.specs.ScriptLines.{give_in}
use Rattle.taps_script.proofs.peer.give_limit.Given as goal

abbrev pub invariant-loop-line : goal.invariant-loop-line
invariant-loop-line l = give_in l.lines ≡ give_in (drop l.line-index l.lines)
