use Rattle.std.specs.Vec.Iter.{into_iter_items, into_iter_len}
use Rattle.taps_group.specs.Closes.{sockets_of}
use Rattle.taps_group.proofs.Closing.{IsClosing}
use Rattle.taps_group.proofs.closes.close_all.Given as goal

abbrev pub invariant-loop-member : goal.invariant-loop-member
invariant-loop-member g l = IsClosing g.N.Sockets.Becomes l.fn.net l.net (g.N.Sockets.net l.fn.net) (g.N.Sockets.net l.net) (sockets_of l.fn.members.items) (sockets_of (into_iter_items l.rest))

abbrev pub decreases-loop-member : goal.decreases-loop-member
decreases-loop-member g l = into_iter_len l.rest
