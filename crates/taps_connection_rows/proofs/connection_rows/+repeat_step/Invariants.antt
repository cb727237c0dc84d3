use Rattle.taps_connection_rows.proofs.connection_rows.+repeat_step.Given as goal

abbrev pub decreases-repeat_step : goal.decreases-repeat_step
decreases-repeat_step g l = l.times
