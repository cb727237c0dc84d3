use Rattle.std.proofs.Common.{◌≡◌, ◌++◌, drop}
use Rattle.taps_text.specs.Appends.{Continues}
use Rattle.taps_text.specs.MemberLines.{members_lines}
use Rattle.taps_text.proofs.member.put_members.Given as goal

abbrev pub invariant-loop-place : goal.invariant-loop-place
invariant-loop-place l = record {
  continues : Continues l.fn.text.items l.text.items;
  whole : l.text.items ++ members_lines l.part l.place (drop l.place l.members) ≡ l.fn.text.items ++ members_lines l.part 0 l.members;
}
