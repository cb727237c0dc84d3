use Rattle.std.proofs.Common.{◌≡◌, drop}
use Rattle.std.specs.Prelude.{◌==◌}
use Rattle.std.specs.List.{list_any}
use Rattle.taps_memory.proofs.answers.is_among.Given as goal

abbrev pub invariant-loop-k : goal.invariant-loop-k
invariant-loop-k l = list_any (λ k. k == l.turns) l.plan ≡ list_any (λ k. k == l.turns) (drop l.k-index l.plan)
