use Rattle.std.proofs.Common.{◌≡◌, ◌-◌, ◌++◌}
use Rattle.taps_text.specs.Appends.{Continues}
use Rattle.taps_text.specs.Generated.{address_lines}
use Rattle.taps_text.proofs.generated.put_addresses.Given as goal

abbrev pub invariant-loop-place : goal.invariant-loop-place
invariant-loop-place l = record {
  continues : Continues l.fn.text.items l.text.items;
  whole : l.text.items ++ address_lines (l.count - l.place) l.place l.x ≡ l.fn.text.items ++ address_lines l.count 0 l.first;
}
