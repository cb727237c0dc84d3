use Rattle.taps_exchange.proofs.Alone.{one_is_alone}
use Rattle.taps_exchange.proofs.laws.vouch_alone.Goals as goal

pub returns : goal.returns
returns c = record { alone = one_is_alone }
