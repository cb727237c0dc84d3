use Rattle.taps_connection_rows.proofs.bench_rows.+take_pieces.Given as goal

abbrev pub decreases-take_pieces : goal.decreases-take_pieces
decreases-take_pieces g l = l.times
