use Rattle.taps_memory_rows.proofs.Others.{first_moved}
use Rattle.taps_memory_rows.proofs.carry.push_out.Goals as goal

pub returns-in-Sent : goal.returns-in-Sent
returns-in-Sent g c = first_moved _ c.args.from.now c.push.new.connection c.args.to.now (g.N.Sockets.net c.args.net.now) (g.N.Sockets.net c.push.new.net) c.requires c.push.ensures.socket c.push.ensures.usable c.push.ensures.others

pub returns-in-NotSpeakable : goal.returns-in-NotSpeakable
returns-in-NotSpeakable g c = first_moved _ c.args.from.now c.push.new.connection c.args.to.now (g.N.Sockets.net c.args.net.now) (g.N.Sockets.net c.push.new.net) c.requires c.push.ensures.socket c.push.ensures.usable c.push.ensures.others
