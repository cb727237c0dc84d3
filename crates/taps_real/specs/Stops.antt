-- How tries to accept stopped.
use Rattle.std.specs.Prelude.{ℕ, ◌≤◌}
use Rattle.taps_real.specs.declared.rounds.Stop.{Stop}
use Rattle.taps_real.specs.declared.rounds.Stop.TheVariants.{Timed, Faulted}

-- the time at which they did
abbrev pub stopped_at : Stop → ℕ
stopped_at (Timed at) = at
stopped_at (Faulted at) = at

-- they were timed not before their time
abbrev pub StopsInTime : ℕ → Stop → Type 0
StopsInTime until (Timed at) = until ≤ at
StopsInTime until (Faulted at) = Unit {0}
