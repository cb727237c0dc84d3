use Rattle.taps_session.specs.FileGroups.{has_one_member}
use Rattle.taps_app.proofs.SummingUp.{summed_up_by}
use Rattle.taps_app.proofs.commands.generate.sum_up.Goals as goal

pub returns-in-Ok-summary-clause-summed_up : goal.returns-in-Ok-summary-clause-summed_up
returns-in-Ok-summary-clause-summed_up g c =
    summed_up_by (has_one_member c.args.ready.now.pre) g.L.Layers.layers c.args.number c.args.ready.now c.in_ok-plan.plan c.args.sockets c.hold_initiated.new.net c.in-Ok.session c.in-Ok-summary.printed c.requires.first c.vouch_for_script.ensures.one_way c.vouch_unique.ensures.unique c.in_ok-plan.ensures
    c.in-Ok-summary.ensures.text c.in-Ok-summary.ensures.status c.in-Ok.ensures.ran
