use Rattle.std.proofs.Common as common
use Rattle.taps_socket.specs.Calls as call
use Rattle.taps_socket.proofs.Added.{added_one}
use Rattle.taps_racer.proofs.UnderWay.{closes}
use Rattle.taps_racer.proofs.establishment.close.Goals as goal

pub returns-clause-goes_on : goal.returns-clause-goes_on
returns-clause-goes_on g c = λ asked rules first targets before under.
    closes c.args.racer.now c.tell.new.self rules first targets before (g.N.Sockets.net c.args.net.now) (g.N.Sockets.net c.close.new.self) c.args.socket asked c.close.ensures.net c.requires.room c.tell.ensures.kept under

pub returns-clause-becomes : goal.returns-clause-becomes
returns-clause-becomes g c = added_one g.N.Sockets.Becomes _ _ _ _ (call.closes c.args.socket) _ common.refl (common.ap (λ n. n.trace) c.close.ensures.net) c.close.ensures.becomes
