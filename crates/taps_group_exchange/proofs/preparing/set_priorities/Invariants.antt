use Rattle.std.proofs.Common.{◌≤◌, ◌-◌, length, take}
use Rattle.taps_group.specs.Groups.{IsSoundGroup}
use Rattle.taps_group_exchange.specs.Preparing.{IsPrioritized}
use Rattle.taps_group_exchange.proofs.preparing.set_priorities.Given as goal

abbrev pub invariant-setting : goal.invariant-setting
invariant-setting g l =
    record {
      within : l.place ≤ length l.priorities;
      sound : IsSoundGroup (λ vtable. (g.dyn-1.0.entry vtable).1) l.group;
      set : IsPrioritized (take l.place l.priorities) l.fn.group l.group;
    }

abbrev pub decreases-setting : goal.decreases-setting
decreases-setting g l = length l.priorities - l.place
