use Rattle.taps_group_exchange.proofs.MemberJudging.{judges_members}
use Rattle.taps_group_exchange.proofs.laws.vouch_members.Goals as goal

pub returns : goal.returns
returns g = judges_members
