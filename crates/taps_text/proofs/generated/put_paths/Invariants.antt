use Rattle.std.proofs.Common.{◌≡◌, ◌-◌, ◌++◌}
use Rattle.taps_text.specs.Appends.{Continues}
use Rattle.taps_text.specs.Generated.{path_tables}
use Rattle.taps_text.proofs.generated.put_paths.Given as goal

abbrev pub invariant-loop-place : goal.invariant-loop-place
invariant-loop-place l = record {
  continues : Continues l.fn.text.items l.text.items;
  whole : l.text.items ++ path_tables (l.count - l.place) l.place ≡ l.fn.text.items ++ path_tables l.count 0;
}
