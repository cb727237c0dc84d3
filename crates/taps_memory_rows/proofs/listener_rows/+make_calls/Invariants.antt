use Rattle.std.proofs.Common.{length}
use Rattle.taps_memory_rows.proofs.listener_rows.+make_calls.Given as goal

abbrev pub decreases-make_calls : goal.decreases-make_calls
decreases-make_calls g l = length l.calls.now
