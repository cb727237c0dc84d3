use Rattle.std.proofs.Common.{arith}
use Rattle.taps_log.specs.Entries.{Entry, say_part}
use Rattle.taps_text.specs.BodyLines.{hex_text}
use Rattle.taps_log_laws.proofs.LineTexts.{part_is, written}
use Rattle.taps_log_laws.proofs.lines.read_part.Goals as goal

pub returns : goal.returns
returns c =
    let entry : Entry = say_part c.args.member c.args.number (hex_text c.args.body.now) in
    let is = part_is c.args.member c.args.number c.args.body.now in
    c.read_whole.ensures entry (omega arith, omega arith)
    (written _ _ _ _ entry c.clear.ensures.items c.in_ok-put_part.ensures c.deref.ensures.value is)
