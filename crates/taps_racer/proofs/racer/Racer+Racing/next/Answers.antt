use Rattle.std.proofs.Common.{◌∙◌, ap, sym, subst}
use Rattle.taps_socket.specs.Standing.{standing}
use Rattle.taps_racer.specs.Commands.{ComesNext, command_of}
use Rattle.taps_racer.proofs.Turns.{comes_next, only_next}
use Rattle.taps_racer.proofs.RunsOn.{command_is}
use Rattle.taps_racer.proofs.racer.Racer+Racing.next.Goals as goal

pub returns-clause-turn : goal.returns-clause-turn
returns-clause-turn c = λ first t run.
    let k = c.args.self.now in
    let found = c.command.ensures.command ∙ ap command_of c.self.view_is ∙ command_is k first t run in
    subst (ComesNext k.rules (standing t)) (sym found) (comes_next k first t run)

pub returns-clause-only : goal.returns-clause-only
returns-clause-only c = λ first t run other next.
    let k = c.args.self.now in
    let found = c.command.ensures.command ∙ ap command_of c.self.view_is ∙ command_is k first t run in
    sym (only_next k first t other run next) ∙ sym found
