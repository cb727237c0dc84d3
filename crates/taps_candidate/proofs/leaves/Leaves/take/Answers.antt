use Rattle.std.proofs.Common.{◌+◌, Some, rules, sym, subst}
use Rattle.taps_candidate.specs.Expanding.{progress_of}
use Rattle.taps_candidate.specs.Progress.{GivesNext}
use Rattle.taps_candidate.proofs.Giving.{gives_one, expanding_on}
use Rattle.taps_candidate.proofs.leaves.Leaves.take.Goals as goal

pub invariant_of-self : goal.invariant_of-self
invariant_of-self c = expanding_on c.self.inside c.index.result.now c.self.invariant (search rules) c.index.ensures

pub returns-clause-next : goal.returns-clause-next
returns-clause-next c =
    let r' = record c.self.inside { taken = c.self.inside.taken + 1 } in
    subst (λ p. GivesNext p (progress_of r') (Some c.make_leaf-given.result)) c.self.view_is
    (subst (λ l. GivesNext (progress_of c.self.inside) (progress_of r') (Some l)) (sym c.make_leaf-given.ensures)
    (gives_one c.self.inside c.index.result.now c.self.invariant (search rules) c.index.ensures))
