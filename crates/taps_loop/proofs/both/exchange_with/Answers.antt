use Rattle.std.proofs.Common.{◌≡◌, length, sym, ap, subst, ◌∙◌}
use Rattle.taps_chain.specs.Layers.{layers_of}
use Rattle.taps_connection.specs.Sources.{unread_of}
use Rattle.taps_connection.specs.Unread.{first_unread}
use Rattle.taps_loop.specs.Looped.{AreEndsOver, HasClosedBoth}
use Rattle.taps_loop.proofs.both.exchange_with.Goals as goal

pub returns-in-Ok-clause-closed : goal.returns-in-Ok-clause-closed
returns-in-Ok-clause-closed g c =
    λ x over.
    let there = subst (λ k. AreEndsOver x c.args.from.socket c.args.from.stack k c.in-Ok.to.stack (layers_of (λ vtable. (g.dyn-1.0.entry vtable).1) c.args.from.chain) c.args.messages.items c.args.at c.args.piece c.args.deadline) (sym c.in-Ok.ensures.socket.0)
    (subst (λ k. AreEndsOver x c.args.from.socket c.args.from.stack c.args.to k (layers_of (λ vtable. (g.dyn-1.0.entry vtable).1) c.args.from.chain) c.args.messages.items c.args.at c.args.piece c.args.deadline) (sym c.in-Ok.ensures.socket.1) over) in
    let unread : unread_of c.in-Ok.to.receiver.source ≡ first_unread c.in-Ok.to.stack c.args.piece (length (layers_of (λ vtable. (g.dyn-1.0.entry vtable).1) c.in-Ok.to.chain)) =
    c.in-Ok.ensures.unread ∙ ap (λ k. first_unread k c.args.piece (length (layers_of (λ vtable. (g.dyn-1.0.entry vtable).1) c.in-Ok.to.chain))) (sym c.in-Ok.ensures.socket.1) in
    subst (λ k. HasClosedBoth g.N.Sockets.Becomes x c.args.from.socket k c.args.net.now c.exchange_all.new.net c.exchange_all.result) c.in-Ok.ensures.socket.0
    (c.exchange_all.ensures.closed x c.args.piece unread there)
