use Rattle.std.proofs.Common.{◌≡◌, []}
use Rattle.taps_group.specs.Closes.{sockets_of}
use Rattle.taps_group.specs.Groups.{IsSoundGroup}
use Rattle.taps_group_exchange.specs.Preparing.{AreHanded, IsUnused}
use Rattle.taps_group_exchange.specs.Standing.{AllOf}
use Rattle.taps_group_exchange.proofs.preparing.hand_all.Given as goal

abbrev pub invariant-handing : goal.invariant-handing
invariant-handing g l =
    record {
      sound : IsSoundGroup (λ vtable. (g.dyn-1.0.entry vtable).1) l.group;
      sockets : sockets_of l.group.members.items ≡ sockets_of l.fn.group.members.items;
      handed : AllOf (IsUnused l.at) l.fn.group.members.items → l.fn.group.order.items ≡ [] → AreHanded l.at l.yielded l.fn.group l.group;
    }
