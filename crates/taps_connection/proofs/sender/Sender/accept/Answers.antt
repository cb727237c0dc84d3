use Rattle.std.proofs.Common.{ap, refl, subst}
use Rattle.taps_message.specs.Queues.{SendQueueState, IsPushed}
use Rattle.taps_connection.specs.declared.sender.Sender.{Sender}
use Rattle.taps_connection.proofs.Accepting.{sound_pushed}
use Rattle.taps_connection.proofs.sender.Sender.accept.Goals as goal

pub returns-clause-sound : goal.returns-clause-sound
returns-clause-sound c = λ stream fs h.
    let e = c.reach.ensures in
    let p : IsPushed c.args.self.now.queue c.args.message c.args.at c.push.result c.push.new.self = subst (λ (v : SendQueueState). IsPushed v c.args.message c.args.at c.push.result c.push.new.self) (ap (λ (v : Sender). v.queue) e) c.push.ensures in
    sound_pushed stream fs c.args.self.now (record c.reach.new.self { queue = c.push.new.self }) c.push.new.self c.args.message c.args.at c.push.result p refl (ap (λ (v : Sender). v.begun) e) (ap (λ (v : Sender). v.sent) e) (ap (λ (v : Sender). v.shut) e) h
