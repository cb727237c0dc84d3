use Rattle.taps_socket.proofs.WorkedRaces.{judged}
use Rattle.taps_race_rows.proofs.worked.judge_worked_races.Goals as goal

pub returns : goal.returns
returns c = judged
