use Rattle.taps_command.proofs.one_file.OnlyCommand.print.Goals as goal

pub returns-clause-ran : goal.returns-clause-ran
returns-clause-ran g c = rw c.in-Some.is c.print.ensures.ran
