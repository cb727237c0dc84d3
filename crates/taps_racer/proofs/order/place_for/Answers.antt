use Rattle.std.proofs.Common.{◌<◌, ◌≤◌, ◌≡◌, ℕ, sym, ap, rules, length, get_or, arith}
use Rattle.std.specs.Prelude.{nat_lt}
use Rattle.std.specs.List.Sorted.{IsPartitionedBy, IsNonDecreasingBy}
use Rattle.std.proofs.lemmas.Bool.{ltb-true, ltb-false}
use Rattle.std.proofs.lemmas.List.Sorted.{IsPartitionPoint-from_clause, IsPartitionedBy-ltb}
use Rattle.taps_racer.specs.declared.order.Numbered.{Numbered}
use Rattle.taps_racer.proofs.Numbers.{rise_weakly}
use Rattle.taps_racer.proofs.order.place_for.Goals as goal

pub returns-clause-below : goal.returns-clause-below
returns-clause-below c =
    let parted = IsPartitionedBy-ltb (λ (n : Numbered). n.socket) c.args.order.now c.args.socket (rise_weakly c.args.order.now c.requires) in
    let point = IsPartitionPoint-from_clause (λ (n : Numbered). nat_lt n.socket c.args.socket) _ _ c.partition_point.ensures.partitioned parted (λ a r q k. search rules) in
    λ k d lt. ltb-true (get_or c.args.order.now k d).socket c.args.socket (point.0 k d (omega arith) lt)

pub returns-clause-above : goal.returns-clause-above
returns-clause-above c =
    let parted = IsPartitionedBy-ltb (λ (n : Numbered). n.socket) c.args.order.now c.args.socket (rise_weakly c.args.order.now c.requires) in
    let point = IsPartitionPoint-from_clause (λ (n : Numbered). nat_lt n.socket c.args.socket) _ _ c.partition_point.ensures.partitioned parted (λ a r q k. search rules) in
    λ k d from lt. ltb-false (get_or c.args.order.now k d).socket c.args.socket (point.1 k d from lt)
