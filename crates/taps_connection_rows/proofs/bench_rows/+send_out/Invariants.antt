use Rattle.std.proofs.Common.{◌-◌}
use Rattle.taps_connection_rows.proofs.bench_rows.+send_out.Given as goal

abbrev pub decreases-send_out : goal.decreases-send_out
decreases-send_out g l = 256 - l.number
