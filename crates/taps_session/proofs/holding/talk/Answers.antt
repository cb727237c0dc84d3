use Rattle.taps_session.proofs.Closed.{cut_at_once}
use Rattle.taps_session.proofs.holding.talk.Goals as goal

pub returns-in-Err : goal.returns-in-Err
returns-in-Err g c = cut_at_once g.N.Sockets.Becomes c.args.net.now c.close.new.self _ _ _ c.requires.room c.close.ensures.net c.close.ensures.becomes
