use Rattle.taps_listening.proofs.Ending.{judges_sessions}
use Rattle.taps_listening.proofs.laws.vouch_ends.Goals as goal

pub returns : goal.returns
returns c = judges_sessions
