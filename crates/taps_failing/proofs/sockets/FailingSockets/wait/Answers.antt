use Rattle.std.proofs.Common.{◌≡◌, [], ◌≤◌, ◌-◌, ◌∷◌, refl, ap, sym, ◌∙◌, subst, arith}
use Rattle.taps_socket.specs.declared.item.Item.TheVariants.{Waited}
use Rattle.taps_socket.specs.Calls.{waits}
use Rattle.taps_socket.specs.Net.{IsLater, with_item, with_faults, MayEnd}
use Rattle.taps_failing.specs.FailingCalls.{turned}
use Rattle.taps_failing.specs.FailingNet.{Agrees, own_faults, failing_net}
use Rattle.taps_failing.proofs.Same.{newest, streams_same}
use Rattle.taps_failing.proofs.Steps.{turned_faults, turned_is, own_with, seen, goes_passed, ends_on, ends_in_time, end_rose}
use Rattle.taps_failing.proofs.sockets.FailingSockets.wait.Goals as goal

pub returns-clause-how : goal.returns-clause-how
returns-clause-how g c =
    let a = c.args.self.now in
    let answer = c.wait-answer.result in
    let m = g.N.Sockets.net c.wait-answer.new.self in
    let agrees = subst (λ v. Agrees v.own (g.N.Sockets.net v.net)) c.self.view_is c.self.invariant.1 in
    let e = c.self-2.view_is ∙ c.is_turn.ensures.after in
    let how = subst (λ v. MayEnd answer.how c.args.until answer.at (g.N.Sockets.net v.net) m) e c.wait-answer.ensures.how in
    ends_on answer.how c.args.until answer.at (g.N.Sockets.net a.net) m a.own _ agrees.sockets (ap (λ v. own_faults v.own.failure) e
    ∙ turned_faults a.own.failure) how

pub returns-clause-becomes : goal.returns-clause-becomes
returns-clause-becomes g c =
    let net = g.N.Sockets.net in
    let a = c.args.self.now in
    let s = c.self-2.inside in
    let until = c.args.until in
    let answer = c.wait-answer.result in
    let call = waits until answer in
    let n = net a.net in
    let m = net c.wait-answer.new.self in
    let item = Waited until answer.at answer.how in
    let agrees : Agrees a.own n = subst (λ v. Agrees v.own (net v.net)) c.self.view_is c.self.invariant.1 in
    let e = c.self-2.view_is ∙ c.is_turn.ensures.after in
    let next = sym c.is_turn.ensures.answer ∙ c.if-is_turn.false in
    let failure : s.failure ≡ turned a.own.failure = ap (λ v. v.own.failure) e in
    let count : own_faults s.failure ≡ own_faults a.own.failure = ap own_faults failure ∙ turned_faults a.own.failure in
    let how : MayEnd answer.how until answer.at n m = subst (λ v. MayEnd answer.how until answer.at (net v.net) m) e c.wait-answer.ensures.how in
    let is : m ≡ with_faults (with_item n item answer.at) m.faults = subst (λ v. m ≡ with_faults (with_item (net v.net) item answer.at) m.faults) e c.wait-answer.ensures.net in
    let becomes = subst (λ v. g.N.Sockets.Becomes v.net (call ∷ []) c.wait-answer.new.self) e c.wait-answer.ensures.becomes in
    let moment : IsLater n.told answer.at = subst (λ v. IsLater (net v.net).told answer.at) e c.wait-answer.ensures.moment in
    let rose : n.faults ≤ m.faults = subst (λ v. (net v.net).faults ≤ m.faults) e c.wait-answer.ensures.faults in
    let trace = newest s.items.items c.add.new.self.items item (ap (λ v. v.items) c.add.ensures)
    ∙ ap (λ v. item ∷ v.own.trace) e in
    let spare : s.spare - 1 ≡ a.own.spare - 1 = ap (λ v. v.own.spare - 1) e in
    let told = agrees.told in
    let later = moment.later in
    let whole = ap (λ t. failing_net m (record {
      trace = t;
      told = answer.at;
      spare = s.spare - 1;
      failure = s.failure;
    })) trace
    ∙ (ap (λ k. failing_net m (record {
      trace = item ∷ a.own.trace;
      told = answer.at;
      spare = k;
      failure = s.failure;
    })) spare
    ∙ seen call n m a.own s.failure (streams_same a.own.trace n.trace agrees.sockets) is) in
    let ends = ends_on answer.how until answer.at n m a.own (own_with call a.own s.failure) agrees.sockets count how in
    goes_passed net g.N.Sockets.Becomes a _ call next (failure
    ∙ sym (turned_is call a.own.failure refl next)) becomes whole (
      record {
        later = omega arith;
        fits = moment.fits;
      },
      ends_in_time answer.how until answer.at (failing_net n a.own) _ ends,
    )
    (omega arith)
    (end_rose answer.how until answer.at _ _ ends)
