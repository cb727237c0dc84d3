-- The gaps of a plan are short.
use Rattle.std.proofs.Common.{◌≤◌, ℕ, zero, suc, replicate, refl, arith}
use Rattle.std.specs.List.{All}
use Rattle.std.proofs.lemmas.List.Elements.{All-nil, All-cons, All-replicate}
use Rattle.taps_preconnection.specs.declared.race.Mode.{Mode}
use Rattle.taps_preconnection.specs.declared.race.Mode.TheVariants as modes
use Rattle.taps_candidate.specs.Plan.{RankedPlan, gap_of, gaps_of, listed}
use Rattle.taps_candidate.specs.declared.plan.Plan as candidate
use Rattle.taps_command.specs.Ready.{Ready}
use Rattle.taps_session.specs.FileSessions.{IsPlanFor}
use Rattle.taps_racer.specs.Kept.{IsShort}
use Rattle.taps_base.specs.declared.gap.Gap.{Gap}
use Rattle.taps_base.specs.declared.gap.Gap.TheVariants.{After}

same_gaps : (n : ℕ) (gap : Gap) → IsShort gap → All IsShort (replicate n gap)
same_gaps n gap short = All-replicate IsShort n gap short

short_gap : (mode : Mode) (delay : ℕ) → delay ≤ 2000 → IsShort (gap_of mode delay)
short_gap modes.Simultaneous delay few = omega arith
short_gap modes.Staggered delay few = few
short_gap modes.Failover delay few = tt

pub short_gaps : (mode : Mode) (delay n : ℕ) → delay ≤ 2000 → All IsShort (gaps_of mode delay n)
short_gaps mode delay zero few = All-nil IsShort
short_gaps mode delay (suc later) few = All-cons IsShort (After 0) (replicate later (gap_of mode delay)) (omega arith) (same_gaps later (gap_of mode delay) (short_gap mode delay few))

-- a plan is the one that it lists
pub as_listed : (ready : Ready) (wanted : RankedPlan) (plan : candidate.Plan) → IsPlanFor ready wanted plan → IsPlanFor ready (listed plan) plan
as_listed ready wanted plan h = record { ranked = refl; even = h.even; placed = h.placed; few = h.few; short = h.short }
