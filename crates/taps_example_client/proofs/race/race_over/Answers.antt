use Rattle.std.proofs.Common.{◌≡◌, ap, refl, arith}
use Rattle.taps_socket.proofs.Added.{added_none, added_on}
use Rattle.taps_example_client.specs.Plans.{targets_of}
use Rattle.taps_example_client.proofs.Racing.{rules_fit, raced}
use Rattle.taps_example_client.proofs.race.race_over.Goals as goal

pub returns-in_err-targets-clause-becomes : goal.returns-in_err-targets-clause-becomes
returns-in_err-targets-clause-becomes g c = added_none g.N.Sockets.Becomes _ _ _ _ refl (g.met.N.Sockets.becomes_itself c.args.net.now)

pub returns-in_err-racer-clause-becomes : goal.returns-in_err-racer-clause-becomes
returns-in_err-racer-clause-becomes g c = added_none g.N.Sockets.Becomes _ _ _ _ refl (g.met.N.Sockets.becomes_itself c.args.net.now)

pub returns-in-Ok-clause-raced : goal.returns-in-Ok-clause-raced
returns-in-Ok-clause-raced g c =
    let t = c.in_ok-targets.ensures in
    let s = c.as_slice.ensures in
    let d = c.deref.ensures.value in
    let same : c.deref.result.now ≡ targets_of c.args.planned.now = cc in
    let room = c.in_ok-reserve.ensures.room in
    let len = c.len.ensures in
    raced c.args.planned.now c.in_ok-racer.racer.rules c.deref.result.now _ (g.N.Sockets.net c.reserve.new.self) _ c.in-Ok.ended _
    (rules_fit c.args.planned.now c.as_slice-gaps.result.now c.in_ok-racer.racer c.as_slice-gaps.ensures c.in_ok-racer.ensures)
    same c.reserve.ensures.net c.reserve.ensures.kept (omega arith) c.in-Ok.ensures.race c.answer.ensures.answer

pub returns-in-Ok-clause-becomes : goal.returns-in-Ok-clause-becomes
returns-in-Ok-clause-becomes g c = added_on g.N.Sockets.Becomes _ _ _ _ _ _ g.met.N.Sockets.becomes_on (added_none g.N.Sockets.Becomes _ _ _ _ (ap (λ n. n.trace) c.reserve.ensures.net) c.reserve.ensures.becomes) c.establish.ensures.becomes

pub returns-clause-becomes : goal.returns-clause-becomes
returns-clause-becomes g c = added_on g.N.Sockets.Becomes _ _ _ _ _ _ g.met.N.Sockets.becomes_on (added_none g.N.Sockets.Becomes _ _ _ _ (ap (λ n. n.trace) c.reserve.ensures.net) c.reserve.ensures.becomes) c.establish.ensures.becomes
