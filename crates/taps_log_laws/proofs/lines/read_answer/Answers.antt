use Rattle.taps_text.specs.AnswerLines.{answer_line}
use Rattle.taps_log_laws.specs.EntriesOf.{entry_of_answer}
use Rattle.taps_log_laws.proofs.LineTexts.{answer_is, written}
use Rattle.taps_log_laws.proofs.lines.read_answer.Goals as goal

pub returns : goal.returns
returns c = c.read_whole.ensures (entry_of_answer c.args.answer) c.bound_answer.ensures
    (written (answer_line c.args.answer) _ _ _ (entry_of_answer c.args.answer)
    c.clear.ensures.items c.in_ok-put_answer.ensures c.deref.ensures.value (answer_is c.args.answer))
