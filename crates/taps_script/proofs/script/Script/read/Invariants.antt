use Rattle.std.proofs.Common.{◌≡◌, ◌≤◌, ◌+◌, length}
use Rattle.taps_script.specs.Scripts.{texts_of, script_from, script_of}
use Rattle.taps_script.proofs.script.Script.read.Given as goal

abbrev pub invariant-lines : goal.invariant-lines
invariant-lines l =
    record {
      few : l.number ≤ 4096;
      count : length l.script ≤ l.number;
      rest_is : script_of l.bytes ≡ script_from (l.number + 1) l.script (texts_of l.rest);
    }

abbrev pub decreases-lines : goal.decreases-lines
decreases-lines l = length l.rest
