use Rattle.taps_connection_rows.proofs.bench_rows.+send_frames.Given as goal

abbrev pub decreases-send_frames : goal.decreases-send_frames
decreases-send_frames g l = l.times
