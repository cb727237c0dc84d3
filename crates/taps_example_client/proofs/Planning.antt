-- The gaps of a plan are short, and the plan of a file's meaning is that of the file.
use Rattle.std.proofs.Common.{◌≡◌, ◌≤◌, ℕ, zero, suc, List, Result, Ok, Err, replicate, arith, sym, ◌∙◌, ap}
use Rattle.std.specs.List.{All}
use Rattle.std.proofs.lemmas.List.Elements.{All-nil, All-cons, All-replicate}
use Rattle.taps_base.specs.declared.gap.Gap.TheVariants.{After}
use Rattle.taps_preconnection.specs.declared.preconnection.Preconnection.{Preconnection}
use Rattle.taps_preconnection.specs.declared.race.Mode.{Mode}
use Rattle.taps_preconnection.specs.declared.race.Mode.TheVariants as modes
use Rattle.taps_preconnection.specs.File.{preconnection_of}
use Rattle.taps_candidate.specs.Plan.{gap_of, gaps_of}
use Rattle.taps_racer.specs.Kept.{IsShort}
use Rattle.taps_example_client.specs.declared.plan.Planned.{Planned}
use Rattle.taps_example_client.specs.declared.plan.PlanError.{PlanError}
use Rattle.taps_example_client.specs.declared.plan.PlanError.TheVariants as error
use Rattle.taps_example_client.specs.Plans.{Plans, PlansFor}

short_gap : (mode : Mode) (delay : ℕ) → delay ≤ 2000 → IsShort (gap_of mode delay)
short_gap modes.Simultaneous delay few = omega arith
short_gap modes.Staggered delay few = few
short_gap modes.Failover delay few = tt

pub short_gaps : (mode : Mode) (delay n : ℕ) → delay ≤ 2000 → All IsShort (gaps_of mode delay n)
short_gaps mode delay zero few = All-nil IsShort
short_gaps mode delay (suc later) few =
    All-cons IsShort (After 0) (replicate later (gap_of mode delay)) (omega arith) (All-replicate IsShort later (gap_of mode delay) (short_gap mode delay few))

pub plans_on : (file : List ℕ) (pre : Preconnection) (result : Result Planned PlanError) → preconnection_of file ≡ Ok pre → PlansFor pre result → Plans file result
plans_on file pre (Ok planned) read h = (read ∙ ap (λ (p : Preconnection). Ok p) (sym h.0), h.1)
plans_on file pre (Err (error.File why)) read h = absurd h
plans_on file pre (Err (error.TooMany count)) read h = (pre, (read, h.0, h.1))
plans_on file pre (Err error.NoMemory) read h = tt
