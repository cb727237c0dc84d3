use Rattle.taps_loop.proofs.Judging.{judges_loops, loops_hear_as_sent, plain_loops_hear}
use Rattle.taps_loop.proofs.laws.vouch_loops.Goals as goal

pub returns : goal.returns
returns c = record { judged = judges_loops; heard = loops_hear_as_sent; plain = plain_loops_hear }
