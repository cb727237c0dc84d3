use Rattle.std.proofs.Common.{◌≡◌, ◌++◌, [], None, rules, ap, sym, ◌∙◌}
use Rattle.std.proofs.lemmas.List.{append-nil}
use Rattle.taps_candidate.proofs.Giving.{all_given}
use Rattle.taps_candidate.proofs.plan.collect_leaves.Goals as goal

pub returns : goal.returns
returns c =
    let none : c.next.result ≡ None = search rules in
    let empty : c.loop-path.leaves.to_come ≡ [] = all_given c.loop-path.leaves c.next.new.self c.next.result none c.next.ensures.next in
    c.loop-path.invariant.collected ∙ sym (append-nil c.loop-path.leaves.given) ∙ ap (λ ls. c.loop-path.leaves.given ++ ls) (sym empty) ∙ c.loop-path.invariant.all
