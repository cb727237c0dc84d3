use Rattle.taps_log_laws.proofs.LineTexts.{leaf_counts_say, leaves_say}
use Rattle.taps_log_laws.proofs.laws.vouch_plan_lines.Goals as goal

pub returns : goal.returns
returns c = record { counts = leaf_counts_say; leaves = leaves_say }
