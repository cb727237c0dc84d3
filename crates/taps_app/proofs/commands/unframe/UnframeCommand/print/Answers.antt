use Rattle.taps_command.proofs.Running.{untouched_printed}
use Rattle.taps_app.specs.Unframe.{PrintsMessages}
use Rattle.taps_app.proofs.commands.unframe.UnframeCommand.print.Goals as goal

pub returns-clause-ran : goal.returns-clause-ran
returns-clause-ran g c = (untouched_printed g.N.Sockets.Becomes _ _ _ _ (PrintsMessages g.L.Layers.layers c.args.value) c.print_messages.result c.requires.fresh (rw (c.in-Both.is, ← c.bytes-in-Both.ensures) c.print_messages.ensures.decoded) c.vouch_untouched.ensures)
