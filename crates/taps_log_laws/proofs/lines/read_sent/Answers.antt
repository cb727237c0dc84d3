use Rattle.std.proofs.Common.{arith}
use Rattle.taps_log.specs.Entries.{say_sent}
use Rattle.taps_text.specs.BodyLines.{sent_line}
use Rattle.taps_log_laws.proofs.LineTexts.{sent_is, written}
use Rattle.taps_log_laws.proofs.lines.read_sent.Goals as goal

pub returns : goal.returns
returns c = c.read_whole.ensures (say_sent c.args.member c.args.count) (omega arith, omega arith)
    (written (sent_line c.args.member c.args.count) _ _ _ (say_sent c.args.member c.args.count)
    c.clear.ensures.items c.in_ok-put_sent.ensures c.deref.ensures.value (sent_is c.args.member c.args.count))
