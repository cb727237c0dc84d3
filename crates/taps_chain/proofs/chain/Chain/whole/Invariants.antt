use Rattle.taps_chain.proofs.chain.Chain.whole.Given as goal

abbrev pub ghosts-whole_from : goal.ghosts-whole_from
ghosts-whole_from g a = record { name = a.blank.name; parts = a.blank.parts }
