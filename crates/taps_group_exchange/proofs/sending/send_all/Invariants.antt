use Rattle.std.proofs.Common.{◌≡◌, ◌≤◌, ◌+◌, List, []}
use Rattle.taps_exchange.specs.Turns.{Place}
use Rattle.taps_group.specs.Closes.{IsOpen, sockets_of}
use Rattle.taps_group.specs.Groups.{IsSoundGroup}
use Rattle.taps_group_exchange.specs.GroupSendings.{AllUntil, SendsOn}
use Rattle.taps_group_exchange.specs.Standing.{AllOf, AreStanding, MayTalk, count_shut}
use Rattle.taps_group_exchange.proofs.Waiting.{count_waiting}
use Rattle.taps_group_exchange.proofs.sending.send_all.Given as goal

abbrev pub invariant-sending : goal.invariant-sending
invariant-sending g l =
    record {
      sound : IsSoundGroup (λ vtable. (g.dyn-1.0.entry vtable).1) l.group;
      opened : IsOpen (g.N.Sockets.net l.net) l.group.members.items;
      talk : AllOf (MayTalk (λ vtable. (g.dyn-1.0.entry vtable).1) (g.N.Sockets.net l.net)) l.group.members.items;
      sockets : sockets_of l.group.members.items ≡ sockets_of l.fn.group.members.items;
      spare : (g.N.Sockets.net l.fn.net).spare ≤ (g.N.Sockets.net l.net).spare + count_shut l.group.members.items;
      sends : (places : List Place) → AllUntil l.until places → AreStanding (λ vtable. (g.dyn-1.0.entry vtable).1) [] places l.fn.group.members.items →
          SendsOn (λ vtable. (g.dyn-1.0.entry vtable).1) g.N.Sockets.Becomes l.fn.net l.net (g.N.Sockets.net l.fn.net) (g.N.Sockets.net l.net) places l.group.members.items;
    }

abbrev pub decreases-sending : goal.decreases-sending
decreases-sending g l = count_waiting l.group.members.items
