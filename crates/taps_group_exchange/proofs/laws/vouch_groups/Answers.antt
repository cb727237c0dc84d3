use Rattle.taps_group_exchange.proofs.GroupJudging.{judged}
use Rattle.taps_group_exchange.proofs.laws.vouch_groups.Goals as goal

pub returns : goal.returns
returns g = judged
