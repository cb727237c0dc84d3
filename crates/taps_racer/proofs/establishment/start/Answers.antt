use Rattle.std.proofs.Common as common
use Rattle.taps_socket.specs.Calls as call
use Rattle.taps_socket.proofs.Added.{added_one}
use Rattle.std.proofs.Common.{◌∙◌, ap}
use Rattle.taps_socket.specs.Calls.{started_item, started_at}
use Rattle.taps_socket.specs.Net.{with_item}
use Rattle.taps_racer.specs.Steps.{heard}
use Rattle.taps_racer.proofs.UnderWay.{starts}
use Rattle.taps_racer.proofs.establishment.start.Goals as goal

pub returns-clause-goes_on : goal.returns-clause-goes_on
returns-clause-goes_on g c = λ asked rules first targets before number aims under.
    starts c.args.racer.now c.tell.new.self rules first targets before (g.N.Sockets.net c.args.net.now) (g.N.Sockets.net c.start-answer.new.self) c.args.leaf c.args.target c.start-answer.result asked aims (c.start-answer.ensures.net ∙ ap (λ n. with_item (g.N.Sockets.net c.args.net.now) (started_item n c.args.target c.start-answer.result) (started_at c.start-answer.result)) number) c.start-answer.ensures.moment c.start-answer.ensures.socket c.requires (c.tell.ensures.kept ∙ ap (λ e. heard c.args.racer.now e) c.event_of.ensures) under

pub returns-clause-becomes : goal.returns-clause-becomes
returns-clause-becomes g c = added_one g.N.Sockets.Becomes _ _ _ _ (call.starts c.args.number c.args.target c.start-answer.result) _ common.refl (common.ap (λ n. n.trace) c.start-answer.ensures.net) c.start-answer.ensures.becomes
