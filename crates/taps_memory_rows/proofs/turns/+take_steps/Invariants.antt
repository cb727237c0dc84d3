use Rattle.std.proofs.Common.{length}
use Rattle.taps_memory_rows.proofs.turns.+take_steps.Given as goal

abbrev pub decreases-take_steps : goal.decreases-take_steps
decreases-take_steps g l = length l.steps.now
