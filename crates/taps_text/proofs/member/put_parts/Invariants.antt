use Rattle.std.proofs.Common.{◌≡◌, ◌++◌, map}
use Rattle.taps_message.specs.Parts.{parts_of}
use Rattle.taps_text.specs.MemberLines.{part_lines}
use Rattle.taps_text.proofs.member.put_parts.Given as goal

abbrev pub invariant-loop-part : goal.invariant-loop-part
invariant-loop-part l = record {
  text : l.text.items ≡ l.fn.text.items ++ part_lines l.member l.number (map (λ part. record { bytes = part.bytes.now; last = part.last }) l.yielded);
  whole : map (λ part. record { bytes = part.bytes.now; last = part.last }) l.yielded ++ l.part-iterator ≡ parts_of l.most l.body;
}
