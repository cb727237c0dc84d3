use Rattle.taps_exchange.proofs.Judging.{judged}
use Rattle.taps_exchange.proofs.laws.vouch_outcomes.Goals as goal

pub returns : goal.returns
returns c = record { judged = judged }
