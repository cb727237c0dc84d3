use Rattle.std.proofs.Common.{◌≡◌, ◌≤◌, ◌+◌, ◌-◌, List, [], length, None}
use Rattle.taps_socket.specs.Net.{Net}
use Rattle.taps_exchange.specs.Turns.{Place}
use Rattle.taps_group.specs.Closes.{MayClose, sockets_of}
use Rattle.taps_group_exchange.specs.GroupHearings.{AllFrom, AllNeed, HearsOrOver}
use Rattle.taps_group_exchange.specs.Standing.{MayTalk}
use Rattle.taps_group_exchange.proofs.hearing.hear_all.Given as goal

abbrev pub invariant-hearing : goal.invariant-hearing
invariant-hearing g l =
    record {
      within : l.place ≤ length l.members.items;
      told_size : length l.progress.told.items ≡ l.place;
      talk : l.progress.stopped ≡ None → AllFrom (MayTalk (λ vtable. (g.dyn-1.0.entry vtable).1) (g.N.Sockets.net l.net)) l.place l.members.items;
      close : MayClose (g.N.Sockets.net l.net).trace (sockets_of l.members.items);
      sockets : sockets_of l.members.items ≡ sockets_of l.fn.members.items;
      spare : (g.N.Sockets.net l.fn.net).spare ≤ (g.N.Sockets.net l.net).spare + l.place;
      hears : (first : _) (net_first : Net) (places : List Place) → AllNeed l.until l.needs places →
          HearsOrOver (λ vtable. (g.dyn-1.0.entry vtable).1) g.N.Sockets.Becomes first l.fn.net net_first (g.N.Sockets.net l.fn.net) places l.fn.stopped [] l.fn.members.items →
          HearsOrOver (λ vtable. (g.dyn-1.0.entry vtable).1) g.N.Sockets.Becomes first l.net net_first (g.N.Sockets.net l.net) places l.progress.stopped l.progress.told.items l.members.items;
    }

abbrev pub decreases-hearing : goal.decreases-hearing
decreases-hearing g l = length l.members.items - l.place
