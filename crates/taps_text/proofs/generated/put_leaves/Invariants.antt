use Rattle.std.proofs.Common.{◌≡◌, ◌-◌, ◌++◌}
use Rattle.taps_text.specs.Appends.{Continues}
use Rattle.taps_text.specs.Generated.{leaf_lines}
use Rattle.taps_text.proofs.generated.put_leaves.Given as goal

abbrev pub invariant-loop-leaf : goal.invariant-loop-leaf
invariant-loop-leaf l = record {
  continues : Continues l.fn.text.items l.text.items;
  whole : l.text.items ++ leaf_lines (l.count - l.leaf) l.leaf l.x ≡ l.fn.text.items ++ leaf_lines l.count 0 l.first;
}
