use Rattle.taps_text.specs.OutcomeLines.{outcome_line}
use Rattle.taps_log_laws.specs.EntriesOf.{entry_of_outcome}
use Rattle.taps_log_laws.proofs.LineTexts.{outcome_is, written}
use Rattle.taps_log_laws.proofs.lines.read_outcome.Goals as goal

pub returns : goal.returns
returns c = c.read_whole.ensures (entry_of_outcome c.args.outcome) c.bound_outcome.ensures
    (written (outcome_line c.args.outcome) _ _ _ (entry_of_outcome c.args.outcome)
    c.clear.ensures.items c.in_ok-put_outcome.ensures c.deref.ensures.value (outcome_is c.args.outcome))
