use Rattle.taps_memory_rows.proofs.Others.{second_moved}
use Rattle.taps_memory_rows.proofs.carry.pull_in.Goals as goal

pub returns-in-Message : goal.returns-in-Message
returns-in-Message g c = second_moved _ c.args.from.now c.args.to.now c.pull.new.connection (g.N.Sockets.net c.args.net.now) (g.N.Sockets.net c.pull.new.net) c.requires c.pull.ensures.socket c.pull.ensures.usable c.pull.ensures.others

pub returns-in_default : goal.returns-in_default
returns-in_default g c = second_moved _ c.args.from.now c.args.to.now c.pull.new.connection (g.N.Sockets.net c.args.net.now) (g.N.Sockets.net c.pull.new.net) c.requires c.pull.ensures.socket c.pull.ensures.usable c.pull.ensures.others
