use Rattle.std.proofs.Common.{◌≤◌, refl, sym, subst, arith}
use Rattle.taps_script.specs.ScriptAnswers.{wait_answer}
use Rattle.taps_script.specs.ScriptNet.{net_of}
use Rattle.taps_script.proofs.ScriptKept.{MayAnswer, answer_may}
use Rattle.taps_script.proofs.script_sockets.ScriptSockets.wait_answer.Goals as goal

answer : (c : goal.After-choose_answer) → MayAnswer c.args.self.now.lines c.args.self.now.trace c.self.inside.clock c.args.until c.choose_answer.result
answer c =
    let s = c.self.inside in
    let may = answer_may s.script _ s.clock c.args.until c.self.invariant.0.fits in
    subst (MayAnswer c.args.self.now.lines c.args.self.now.trace s.clock c.args.until) (sym c.choose_answer.ensures) (subst (λ v. MayAnswer v.lines v.trace s.clock c.args.until (wait_answer v.lines v.clock v.trace c.args.until)) c.self.view_is may)

pub returns-clause-next : goal.returns-clause-next
returns-clause-next c =
    let told : c.args.self.now.told ≤ c.self.inside.clock = subst (λ v. v.told ≤ c.self.inside.clock) c.self.view_is c.self.invariant.0.told_before in
    let a = answer c in
    record { later = omega (arith, a.later); fits = a.fits }

pub returns-clause-ends : goal.returns-clause-ends
returns-clause-ends c = λ after count. (answer c).ends (net_of c.args.self.now) after refl count

pub returns-clause-names : goal.returns-clause-names
returns-clause-names c = (answer c).names
