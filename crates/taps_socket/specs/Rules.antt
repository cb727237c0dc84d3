-- What is fixed before a race.
use Rattle.std.specs.Prelude.{ℕ, List, Option}
use Rattle.taps_base.specs.declared.gap.Gap.{Gap}

-- a gap for each leaf, and how long after its beginning the race is given up, by itself and by the application
pub record Rules : Type 0 where
  pub gaps : List Gap
  pub timeout : ℕ
  pub cancel : Option ℕ
