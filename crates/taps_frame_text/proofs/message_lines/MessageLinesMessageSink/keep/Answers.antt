use Rattle.taps_frame_text.proofs.MessageLines.{one_more}
use Rattle.taps_frame_text.proofs.message_lines.MessageLinesMessageSink.keep.Goals as goal

pub returns-clause-ok : goal.returns-clause-ok
returns-clause-ok c = λ messages kept count. one_more _ _ _ _ _ c.bytes.ensures c.in_default.ensures messages kept count
