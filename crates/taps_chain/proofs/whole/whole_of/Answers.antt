use Rattle.taps_chain.proofs.Depths.{framer_at}
use Rattle.taps_chain.proofs.Opening.{fault_first}
use Rattle.taps_chain.proofs.whole.whole_of.Goals as goal

pub returns-in-Bad : goal.returns-in-Bad
returns-in-Bad g c = fault_first _ _ _ _ c.at.ensures _ c.in-Bad.ensures.opened

pub open-requires : goal.open-requires
open-requires g c = framer_at _ _ _ c.at.ensures c.requires
