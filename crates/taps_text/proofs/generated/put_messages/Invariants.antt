use Rattle.std.proofs.Common.{◌≡◌, ◌-◌, ◌++◌}
use Rattle.taps_text.specs.Appends.{Continues}
use Rattle.taps_text.specs.Generated.{message_tables}
use Rattle.taps_text.proofs.generated.put_messages.Given as goal

abbrev pub invariant-loop : goal.invariant-loop
invariant-loop l = record {
  continues : Continues l.fn.text.items l.text.items;
  whole : l.text.items ++ message_tables (l.count - l.counter) l.x ≡ l.fn.text.items ++ message_tables l.count l.first;
}
