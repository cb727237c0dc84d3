use Rattle.std.proofs.Common.{◌≡◌, ◌-◌, length, drop}
use Rattle.taps_group_exchange.specs.GroupEnds.{outcome_at_end}
use Rattle.taps_group_exchange.proofs.exchanging.outcome_at_end.Given as goal

abbrev pub invariant-looking : goal.invariant-looking
invariant-looking g l = outcome_at_end 0 l.members.items ≡ outcome_at_end l.place (drop l.place l.members.items)

abbrev pub decreases-looking : goal.decreases-looking
decreases-looking g l = length l.members.items - l.place
