use Rattle.taps_session.proofs.Racing.{raced}
use Rattle.taps_session.proofs.holding.race.Goals as goal

pub returns-in-Ok-clause-raced : goal.returns-in-Ok-clause-raced
returns-in-Ok-clause-raced g c = raced _ _ _ _ c.in-Ok.ended _ c.requires.fresh c.requires.room c.in-Ok.ensures.race c.answer.ensures.answer
