use Rattle.taps_session.proofs.Grouped.{cut_at_first}
use Rattle.taps_session.proofs.grouping.talk_grouped.Goals as goal

pub returns-in-Err : goal.returns-in-Err
returns-in-Err g c = cut_at_first g.N.Sockets.Becomes c.args.net.now.net c.close.new.self.net _ _ _ c.close.ensures.becomes.becomes
