use Rattle.taps_connection_rows.proofs.bench_rows.+hear_pieces.Given as goal

abbrev pub decreases-hear_pieces : goal.decreases-hear_pieces
decreases-hear_pieces g l = l.pieces
