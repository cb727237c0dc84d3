use Rattle.std.proofs.Common.{rules}
use Rattle.taps_session.proofs.LoopCalls.{live_behind, loops_with, dropped_at}
use Rattle.taps_session.proofs.looping.loop_with.Goals as goal

pub stop-requires-clause-live : goal.stop-requires-clause-live
stop-requires-clause-live g c = live_behind (g.N.Sockets.net c.args.net.now) (g.N.Sockets.net c.close.new.self) c.args.socket c.args.listener.socket (g.N.Sockets.net c.args.net.now).told c.requires.apart c.requires.accepts c.close.ensures.net

pub returns-in-Ok : goal.returns-in-Ok
returns-in-Ok g c = loops_with g.N.Sockets.Becomes c.args.net.now c.loop_over.new.net (g.N.Sockets.net c.args.net.now) (g.N.Sockets.net c.loop_over.new.net) g.L.Layers.layers c.args.ready.now c.args.target c.args.listener.socket c.args.stack c.args.socket _ _ c.in-Ok.messages.items _ _ c.requires.layers (search rules) (search rules) (search rules) c.loop_over.ensures

pub returns-in-Err : goal.returns-in-Err
returns-in-Err g c = dropped_at g.N.Sockets.Becomes c.args.net.now c.close.new.self _ (g.N.Sockets.net c.args.net.now) (g.N.Sockets.net c.close.new.self) _ g.L.Layers.layers c.args.ready.now c.args.target c.args.listener.socket c.args.stack c.args.socket (g.N.Sockets.net c.args.net.now).told _ g.met.N.Sockets.becomes_on c.close.ensures.net c.close.ensures.becomes c.stop.ensures
