use Rattle.std.proofs.Common.{◌≡◌, ◌++◌, drop}
use Rattle.taps_text.specs.Appends.{Continues}
use Rattle.taps_text.specs.MemberLines.{messages_lines}
use Rattle.taps_text.proofs.member.put_messages.Given as goal

abbrev pub invariant-loop-number : goal.invariant-loop-number
invariant-loop-number l = record {
  continues : Continues l.fn.text.items l.text.items;
  whole : l.text.items ++ messages_lines l.part l.member l.number (drop l.number l.bodies) ≡ l.fn.text.items ++ messages_lines l.part l.member 0 l.bodies;
}
