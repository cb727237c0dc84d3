use Rattle.taps_chain.proofs.UnderWay.{unheard}
use Rattle.taps_chain.proofs.hearing.hear_pieces.Goals as goal

pub returns-in-Err : goal.returns-in-Err
returns-in-Err g c = rw c.out_of_memory.ensures (unheard _ c.requires.some c.vouch_each.ensures _ c.requires.few _ c.requires.empty c.out_of_memory.result.rest)
