use Rattle.taps_command.proofs.Running.{untouched_printed}
use Rattle.taps_app.specs.Sim.{PrintsSimulation}
use Rattle.taps_app.proofs.commands.sim.SimCommand.print.Goals as goal

pub returns-clause-ran : goal.returns-clause-ran
returns-clause-ran g c = (untouched_printed g.N.Sockets.Becomes _ _ _ _ (PrintsSimulation g.L.Layers.layers c.args.value) c.simulate.result c.requires.fresh (rw c.in-Both.is c.simulate.ensures.simulated) c.vouch_untouched.ensures)
