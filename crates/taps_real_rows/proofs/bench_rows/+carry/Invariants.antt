use Rattle.taps_real_rows.proofs.bench_rows.+carry.Given as goal

abbrev pub decreases-carry : goal.decreases-carry
decreases-carry g l = l.pieces
