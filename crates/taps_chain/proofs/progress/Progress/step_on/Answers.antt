use Rattle.std.proofs.lemmas.List.{take_rest}
use Rattle.taps_chain.proofs.Looking.{represents_all, looked_behind}
use Rattle.taps_chain.proofs.progress.Progress.step_on.Goals as goal

pub returns-clause-looked : goal.returns-clause-looked
returns-clause-looked g c =
    let p = c.args.self.now in
    let x = c.args.bytes.now in
    let all = represents_all _ _ _ x p.taken p.fed _ _ c.in-More.is c.requires.looked c.requires.all c.requires.taken c.requires.more in
    looked_behind _ _ _ x p.taken p.fed _ _ c.in-More.is c.requires.looked c.requires.all c.requires.taken c.requires.more _ (take_rest x p.fed) _ _ c.step_along_in-on.ensures.within
    (c.step_along_in-on.ensures.settled _ all)
