use Rattle.std.proofs.Common as common
use Rattle.taps_socket.specs.Calls as call
use Rattle.taps_socket.proofs.Added.{added_one}
use Rattle.taps_racer.proofs.UnderWay.{waits}
use Rattle.taps_racer.proofs.establishment.wait.Goals as goal

pub returns-clause-goes_on : goal.returns-clause-goes_on
returns-clause-goes_on g c = λ asked rules first targets before under.
    waits c.args.racer.now c.tell.new.self rules first targets before (g.N.Sockets.net c.args.net.now) (g.N.Sockets.net c.wait-answer.new.self) c.args.until c.wait-answer.result.at c.wait-answer.result.how asked c.wait-answer.ensures.net c.wait-answer.ensures.moment c.wait-answer.ensures.how c.wait-answer.ensures.faults c.requires c.tell.ensures.kept under

pub returns-clause-becomes : goal.returns-clause-becomes
returns-clause-becomes g c = added_one g.N.Sockets.Becomes _ _ _ _ (call.waits c.args.until c.wait-answer.result) _ common.refl (common.ap (λ n. n.trace) c.wait-answer.ensures.net) c.wait-answer.ensures.becomes
