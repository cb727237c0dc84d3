use Rattle.std.proofs.Common.{arith}
use Rattle.taps_chain.proofs.Undone.{undone}
use Rattle.taps_chain.proofs.chain.Chain.whole.Goals as goal

pub returns-clause-undone : goal.returns-clause-undone
returns-clause-undone g c = undone _ c.vouch_each.ensures _ (omega arith) _ _ c.whole_from.ensures
