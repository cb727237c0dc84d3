use Rattle.std.proofs.Common.{◌≡◌, ◌++◌, drop, string_bytes}
use Rattle.taps_candidate.specs.PlanText.{interface_of, leaf_lines}
use Rattle.taps_candidate.proofs.text.append_leaves.Given as goal

abbrev pub invariant-loop-number : goal.invariant-loop-number
invariant-loop-number l =
    string_bytes l.text ++ leaf_lines (interface_of l.pre) l.number (drop l.number l.leaves) (drop l.number l.gaps) ≡ string_bytes l.fn.text ++ leaf_lines (interface_of l.pre) 0 l.leaves l.gaps
