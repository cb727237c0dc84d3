use Rattle.taps_exchange.proofs.Unique.{unique}
use Rattle.taps_exchange.proofs.laws.vouch_unique.Goals as goal

pub returns : goal.returns
returns c = record { unique = λ script turn. unique script turn }
