use Rattle.std.proofs.lemmas.List.{take_rest}
use Rattle.taps_chain.proofs.Looking.{looked_whole, looked_bad}
use Rattle.taps_chain.proofs.look.Look.look_on.Goals as goal

pub returns-in-Whole-clause-looks : goal.returns-in-Whole-clause-looks
returns-in-Whole-clause-looks g c = looked_whole _ _ _ _ _ _ c.in-More.is c.requires _ (take_rest c.args.unread.now c.args.self.now.scanned) _ c.in-Whole.ensures.run

pub returns-in-Bad-clause-looks : goal.returns-in-Bad-clause-looks
returns-in-Bad-clause-looks g c = looked_bad _ _ _ _ _ _ c.in-More.is c.requires _ (take_rest c.args.unread.now c.args.self.now.scanned) _ c.in-Bad.ensures.run
