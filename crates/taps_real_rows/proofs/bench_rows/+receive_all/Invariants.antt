use Rattle.taps_real_rows.proofs.bench_rows.+receive_all.Given as goal

abbrev pub decreases-receive_all : goal.decreases-receive_all
decreases-receive_all g l = l.left
