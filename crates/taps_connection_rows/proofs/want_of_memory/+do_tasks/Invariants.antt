use Rattle.taps_connection_rows.proofs.want_of_memory.+do_tasks.Given as goal

abbrev pub decreases-do_tasks : goal.decreases-do_tasks
decreases-do_tasks g l = l.progress.left
