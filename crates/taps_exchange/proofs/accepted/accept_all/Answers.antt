use Rattle.std.proofs.Common.{subst}
use Rattle.taps_chain.specs.Layers.{layers_of}
use Rattle.taps_stack.specs.StackTable.{is_stream}
use Rattle.taps_connection.specs.Sound.{IsSound}
use Rattle.taps_exchange.proofs.Accepting.{hands_on, moment_on, queue_on}
use Rattle.taps_exchange.proofs.SendingAll.{kept_on}
use Rattle.taps_exchange.proofs.accepted.accept_all.Goals as goal

pub accepting-preserved : goal.accepting-preserved
accepting-preserved g c =
    let i = c.accepting.invariant.2 in
    let e = c.hand.ensures in (
      tt,
      tt,
      record {
        queue = queue_on c.args.at c.accepting.yielded c.in-Some.message c.accepting.connection.sender.queue.queue c.hand.new.connection.sender.queue.queue i.queue c.in-Ok.ensures.handed;
        moment = moment_on c.args.connection.now.sender c.accepting.connection.sender c.hand.new.connection.sender c.args.at i.moment e.sender;
        sound = subst (λ x. IsSound (is_stream x.stack) (layers_of (λ vtable. (g.dyn-1.0.entry vtable).1) x.chain) c.hand.new.connection.sender) i.kept e.sound;
        sender = hands_on c.args.connection.now.sender c.accepting.connection.sender c.hand.new.connection.sender c.args.at i.sender e.sender;
        kept = kept_on c.args.connection.now c.accepting.connection c.hand.new.connection i.kept e.kept;
      },
    )
