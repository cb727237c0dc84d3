use Rattle.std.proofs.Common.{sym, subst}
use Rattle.taps_chain.specs.Layers.{layers_of}
use Rattle.taps_loop.specs.Looped.{AreEndsOver, MayExchangeBoth, HasClosedBoth}
use Rattle.taps_loop.proofs.both.exchange_over.Goals as goal

pub exchange_with-requires-clause-ready : goal.exchange_with-requires-clause-ready
exchange_with-requires-clause-ready g c =
    subst (λ k. MayExchangeBoth k c.in-Ok.connection.stack c.args.to c.args.accepting c.args.at c.args.piece c.args.deadline (g.N.Sockets.net c.args.net.now)) (sym c.in-Ok.ensures.socket.0)
    (subst (λ k. MayExchangeBoth c.args.from k c.args.to c.args.accepting c.args.at c.args.piece c.args.deadline (g.N.Sockets.net c.args.net.now)) (sym c.in-Ok.ensures.socket.1) c.requires.ready)

pub returns-in-Ok-clause-closed : goal.returns-in-Ok-clause-closed
returns-in-Ok-clause-closed g c =
    λ x over.
    let there = subst (λ k. AreEndsOver x k c.in-Ok.connection.stack c.args.to c.args.accepting (layers_of (λ vtable. (g.dyn-1.0.entry vtable).1) c.in-Ok.connection.chain) c.args.messages.items c.args.at c.args.piece c.args.deadline) (sym c.in-Ok.ensures.socket.0)
    (subst (λ k. AreEndsOver x c.args.from k c.args.to c.args.accepting (layers_of (λ vtable. (g.dyn-1.0.entry vtable).1) c.in-Ok.connection.chain) c.args.messages.items c.args.at c.args.piece c.args.deadline) (sym c.in-Ok.ensures.socket.1)
    (subst (λ k. AreEndsOver x c.args.from c.args.stack c.args.to c.args.accepting k c.args.messages.items c.args.at c.args.piece c.args.deadline) (sym c.in-Ok.ensures.layers) over)) in
    subst (λ k. HasClosedBoth g.N.Sockets.Becomes x k c.args.to c.args.net.now c.exchange_with.new.net c.exchange_with.result) c.in-Ok.ensures.socket.0
    (c.exchange_with.ensures.closed x there)
