use Rattle.taps_group.specs.Members.{standings}
use Rattle.taps_group.proofs.Firsts.{IsFirstBelow}
use Rattle.taps_group.proofs.group.Group.next_sender.Given as goal

abbrev pub invariant-loop-place : goal.invariant-loop-place
invariant-loop-place g l = IsFirstBelow l.self.order.items (standings l.self.members.items) l.place l.first
