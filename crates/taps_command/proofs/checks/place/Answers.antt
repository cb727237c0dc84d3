use Rattle.taps_command.proofs.FileChecks.{shelved_stop}
use Rattle.taps_command.proofs.checks.place.Goals as goal

pub returns-in-Err-clause-returns : goal.returns-in-Err-clause-returns
returns-in-Err-clause-returns g c = shelved_stop g.R.FileRules.rules g.L.Layers.layers c.args.pre c.in-Err.unready c.in-Err.ensures.returns
