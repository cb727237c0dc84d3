use Rattle.taps_memory_rows.proofs.carry.+take_turns.Given as goal

abbrev pub decreases-take_turns : goal.decreases-take_turns
decreases-take_turns g l = l.turns
