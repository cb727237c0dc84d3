use Rattle.taps_log_laws.proofs.Texts.{plans_say, logs_say}
use Rattle.taps_log_laws.proofs.Whole.{sessions_are_read}
use Rattle.taps_log_laws.proofs.laws.vouch_texts.Goals as goal

pub returns : goal.returns
returns c = record { plans = plans_say; logs = logs_say; sessions = sessions_are_read }
