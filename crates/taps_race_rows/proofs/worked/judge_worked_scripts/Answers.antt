use Rattle.taps_race_rows.proofs.WorkedScripts.{judged}
use Rattle.taps_race_rows.proofs.worked.judge_worked_scripts.Goals as goal

pub returns : goal.returns
returns c = judged
