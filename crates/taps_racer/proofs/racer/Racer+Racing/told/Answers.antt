use Rattle.std.proofs.Common.{◌≡◌, true, false, refl}
use Rattle.taps_racer.specs.Steps.{is_used}
use Rattle.taps_racer.proofs.StandsOn.{stands_on}
use Rattle.taps_racer.proofs.RunsOn.{runs_on, used_is, rules_heard}
use Rattle.taps_racer.proofs.racer.Racer+Racing.told.Goals as goal

pub returns-then-tell-clause-answer : goal.returns-then-tell-clause-answer
returns-then-tell-clause-answer c = λ first t run command next.
    let used : is_used c.args.self.now c.args.event ≡ true = cc in
    rw (← used_is c.args.self.now first t c.args.event command run next, used) refl

pub returns-then-tell-clause-stands : goal.returns-then-tell-clause-stands
returns-then-tell-clause-stands c = λ is first t target stands.
    let used : is_used c.args.self.now c.args.event ≡ true = cc in
    rw (c.tell.ensures.kept, used) (stands_on c.args.self.now first t target c.args.event stands used)

pub returns-then-tell-clause-run : goal.returns-then-tell-clause-run
returns-then-tell-clause-run c = λ is first t target run.
    let used : is_used c.args.self.now c.args.event ≡ true = cc in
    rw (c.tell.ensures.kept, used) (runs_on c.args.self.now first t target c.args.event run used)

pub returns-then-tell-clause-rules : goal.returns-then-tell-clause-rules
returns-then-tell-clause-rules c = rw c.tell.ensures.kept (rules_heard (is_used c.args.self.now c.args.event) c.args.self.now c.args.event refl)

pub returns-else-tell-clause-answer : goal.returns-else-tell-clause-answer
returns-else-tell-clause-answer c = λ first t run command next.
    let not_used : is_used c.args.self.now c.args.event ≡ false = cc in
    rw (← used_is c.args.self.now first t c.args.event command run next, not_used) refl
