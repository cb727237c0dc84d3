use Rattle.taps_group_exchange.proofs.WorkedGroupSessions.{judged}
use Rattle.taps_group_exchange.proofs.worked.judge_worked_groups.Goals as goal

pub returns : goal.returns
returns c = judged
