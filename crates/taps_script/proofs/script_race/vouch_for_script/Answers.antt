use Rattle.taps_script.proofs.OneRace.{goes_one_way}
use Rattle.taps_script.proofs.script_race.vouch_for_script.Goals as goal

pub returns-clause-one_way : goal.returns-clause-one_way
returns-clause-one_way c = goes_one_way c.args.sockets.now.lines
