use Rattle.taps_socket.proofs.WorkedCalls.{judged}
use Rattle.taps_race_rows.proofs.worked.judge_worked_calls.Goals as goal

pub returns : goal.returns
returns c = judged
