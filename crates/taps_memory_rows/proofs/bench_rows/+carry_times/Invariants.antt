use Rattle.taps_memory_rows.proofs.bench_rows.+carry_times.Given as goal

abbrev pub decreases-carry_times : goal.decreases-carry_times
decreases-carry_times g l = l.times
