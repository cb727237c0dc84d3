use Rattle.taps_command.specs.Runs.{HaveCome, names_of}
use Rattle.taps_command.proofs.gather.gather.Given as goal

abbrev pub invariant-loop-at : goal.invariant-loop-at
invariant-loop-at g l =
    HaveCome g.C.Command.meaning (names_of l.names) l.at (g.C.Command.seen l.value) (g.F.Files.state l.fn.files) (g.F.Files.state l.files)
    × g.C.Command.keeps l.at l.value
