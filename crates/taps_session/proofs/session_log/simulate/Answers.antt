use Rattle.taps_session.specs.FileGroups.{has_one_member}
use Rattle.taps_session.proofs.GroupSimulating.{simulated_by}
use Rattle.taps_session.proofs.session_log.simulate.Goals as goal

pub returns-in-Ok-clause-simulated : goal.returns-in-Ok-clause-simulated
returns-in-Ok-clause-simulated g c = simulated_by (has_one_member c.args.ready.now.pre) g.L.Layers.layers c.args.ready.now c.args.sockets c.session_text.new.net c.in-Ok.printed c.requires.first c.vouch_for_script.ensures.one_way c.vouch_unique.ensures.unique c.in-Ok.ensures.ran
