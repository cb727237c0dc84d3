-- The plan of a race: its leaves in the order in which they are tried, and the gaps between them (RFC 9623 section 4.3,
-- RFC 8305 section 5).
use Rattle.std.specs.Prelude.{ℕ, suc, zero, List, [], ◌∷◌, length, map, replicate}
use Rattle.taps_base.specs.declared.gap.Gap.{Gap}
use Rattle.taps_base.specs.declared.gap.Gap.TheVariants.{After, Never}
use Rattle.taps_preconnection.specs.declared.race.Mode.{Mode}
use Rattle.taps_preconnection.specs.declared.race.Mode.TheVariants.{Simultaneous, Staggered, Failover}
use Rattle.taps_rank.specs.Order.{ranked}
use Rattle.taps_candidate.specs.declared.plan.Leaf.{Leaf}
use Rattle.taps_candidate.specs.declared.plan.Plan.{Plan}
use Rattle.taps_candidate.specs.Gathering.{Gathering, Candidate, survivors}
use Rattle.taps_candidate.specs.Ranking.{rank_key}

-- the leaf of a triple
abbrev pub leaf_of : Candidate → Leaf
leaf_of c = record { path = c.path_place; target = record { stack = c.stack; address = c.address } }

-- at each place the leaf with exactly as many smaller keys
unfoldable pub leaves_of : Gathering → List Leaf
leaves_of g = map leaf_of (ranked (rank_key g) (survivors g))

-- the gap before every leaf but the first, with this delay in milliseconds
abbrev pub gap_of : Mode → ℕ → Gap
gap_of Simultaneous delay = After 0
gap_of Staggered delay = After delay
gap_of Failover delay = Never

-- the first of so many leaves is tried at once
abbrev pub gaps_of : Mode → ℕ → ℕ → List Gap
gaps_of mode delay zero = []
gaps_of mode delay (suc later) = After 0 ∷ replicate later (gap_of mode delay)

-- the leaves and the gaps of a plan
pub record RankedPlan : Type 0 where
  pub leaves : List Leaf
  pub gaps : List Gap

-- the ranked leaves, and the gap before each
abbrev pub plan_of : Gathering → Mode → ℕ → RankedPlan
plan_of g mode delay = record { leaves = leaves_of g; gaps = gaps_of mode delay (length (leaves_of g)) }

-- what a plan lists
abbrev pub listed : Plan → RankedPlan
listed plan = record { leaves = plan.leaves.items; gaps = plan.gaps.items }
