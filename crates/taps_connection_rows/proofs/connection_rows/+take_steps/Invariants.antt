use Rattle.std.proofs.Common.{length}
use Rattle.taps_connection_rows.proofs.connection_rows.+take_steps.Given as goal

abbrev pub decreases-take_steps : goal.decreases-take_steps
decreases-take_steps g l = length l.steps.now
