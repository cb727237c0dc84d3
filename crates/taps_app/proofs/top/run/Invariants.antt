use Rattle.std.proofs.Common.{map}
use Rattle.taps_app.proofs.top.run.Given as goal

abbrev pub ghosts-run_words : goal.ghosts-run_words
ghosts-run_words g a = record { layers = map (λ b. (g.dyn-1.0.entry b.vtable).1.layer b.value) a.shelf.now.framers.now.items }
