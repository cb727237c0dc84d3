use Rattle.std.proofs.Common.{◌≡◌, ◌∙◌, ap, sym, subst}
use Rattle.std.specs.Prelude.{Some}
use Rattle.taps_socket.specs.Over.{over}
use Rattle.taps_racer.specs.Kept.{standing_of}
use Rattle.taps_racer.specs.Commands.{command_of, IsFinish}
use Rattle.taps_racer.proofs.RunsOn.{over_is}
use Rattle.taps_racer.proofs.racer.Racer+Ended.answer.Goals as goal

pub returns-clause-over : goal.returns-clause-over
returns-clause-over c = λ first t run.
    let k = c.args.self.now in
    let finish : IsFinish (command_of k) = subst (λ k. IsFinish (command_of k)) c.self.view_is c.self.invariant in
    let ends : over k.rules (standing_of k) ≡ Some c.in-Some.answer = sym (ap (λ k. over k.rules (standing_of k)) c.self.view_is) ∙ sym c.over.ensures ∙ c.in-Some.is in
    over_is k first t c.in-Some.answer finish ends run
