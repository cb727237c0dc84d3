use Rattle.taps_memory_rows.proofs.Others.{other_usable}
use Rattle.taps_memory_rows.proofs.turns.talk.Goals as goal

pub finish-requires : goal.finish-requires
finish-requires g c = other_usable _ c.take_turns.new.starter c.take_turns.new.acceptor (g.N.Sockets.net c.take_turns.new.net) (g.N.Sockets.net c.let_go.new.net) c.take_turns.ensures c.let_go.ensures.others
