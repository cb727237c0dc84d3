use Rattle.taps_session.proofs.BehindListener.{raced_behind}
use Rattle.taps_session.proofs.looping.race_behind.Goals as goal

pub returns-in-Ok-clause-raced : goal.returns-in-Ok-clause-raced
returns-in-Ok-clause-raced g c = raced_behind _ _ _ _ c.in-Ok.ended _ c.requires.room c.in-Ok.ensures.race c.answer.ensures.answer
