use Rattle.taps_log.proofs.Numbers.{number_found}
use Rattle.taps_log.proofs.parts.last_number.Goals as goal

pub returns-clause-found : goal.returns-clause-found
returns-clause-found c = number_found c.args.text.now c.whole_number.result c.whole_number.ensures
