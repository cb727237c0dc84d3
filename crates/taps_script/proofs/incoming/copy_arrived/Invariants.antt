use Rattle.std.proofs.Common.{◌≡◌, ◌≤◌, ◌-◌, ◌++◌, drop, take, length}
use Rattle.std.specs.List.{concat}
use Rattle.taps_script.specs.PeerTimes.{arrived}
use Rattle.taps_script.proofs.incoming.copy_arrived.Given as goal

abbrev pub invariant-loop-line : goal.invariant-loop-line
invariant-loop-line l =
    record {
      within : l.filled ≤ l.most;
      length : length l.out ≡ length l.initial.out;
      bytes : take l.most (drop l.skip (concat (arrived l.done l.now l.lines))) ≡ take l.filled l.out ++ take (l.most - l.filled) (drop l.left (concat (arrived l.done l.now (drop l.line-index l.lines))));
    }
