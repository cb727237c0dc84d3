use Rattle.std.proofs.Common.{inl, rules}
use Rattle.taps.proofs.Sinks.{written}
use Rattle.taps.proofs.Systems.{over_some}
use Rattle.taps.proofs.real.run_real.Goals as goal

pub returns-clause-system : goal.returns-clause-system
returns-clause-system g c = inl (over_some _ _ _ _ _ _ _ _ _ _ _ _ _ _ (search rules) c.run.ensures.promises)

pub returns-clause-written : goal.returns-clause-written
returns-clause-written g c = written _ _ _ _ _ _ _ c.run.ensures.promises.holds
