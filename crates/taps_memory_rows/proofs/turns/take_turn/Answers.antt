use Rattle.taps_memory_rows.proofs.Others.{first_moved, second_moved}
use Rattle.taps_memory_rows.proofs.turns.take_turn.Goals as goal

pub returns-in-Starter : goal.returns-in-Starter
returns-in-Starter g c = (let step = c.take_step in first_moved _ c.args.starter.now step.new.connection c.args.acceptor.now (g.N.Sockets.net c.args.net.now) (g.N.Sockets.net step.new.net) c.requires step.ensures.socket step.ensures.usable step.ensures.others)

pub returns-in-Acceptor : goal.returns-in-Acceptor
returns-in-Acceptor g c = (let step = c.take_step-in-Acceptor in second_moved _ c.args.starter.now c.args.acceptor.now step.new.connection (g.N.Sockets.net c.args.net.now) (g.N.Sockets.net step.new.net) c.requires step.ensures.socket step.ensures.usable step.ensures.others)
