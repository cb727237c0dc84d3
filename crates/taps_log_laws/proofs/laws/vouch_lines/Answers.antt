use Rattle.taps_log_laws.proofs.LineTexts.{items_say, answers_say, outcomes_say, counts_say, messages_say, parts_say}
use Rattle.taps_log_laws.proofs.laws.vouch_lines.Goals as goal

pub returns : goal.returns
returns c = record {
  items = items_say;
  answers = answers_say;
  outcomes = outcomes_say;
  counts = counts_say;
  messages = messages_say;
  parts = parts_say;
}
