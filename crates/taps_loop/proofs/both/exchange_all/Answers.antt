use Rattle.std.proofs.Common.{◌≡◌, [], length, sym, ap, subst, ◌∙◌}
use Rattle.taps_chain.specs.ChainLaws.{AreFramers}
use Rattle.taps_chain.specs.Layers.{layers_of}
use Rattle.taps_stack.specs.StackTable.{is_stream}
use Rattle.taps_connection.specs.Conditions.{IsHeld}
use Rattle.taps_connection.specs.Encodings.{encoding_of}
use Rattle.taps_connection.specs.Histories.{Represents}
use Rattle.taps_connection.specs.Senders.{queued}
use Rattle.taps_connection.specs.Sources.{unread_of}
use Rattle.taps_connection.specs.Unread.{first_unread}
use Rattle.taps_loop.specs.Connections.{MayTakeTurns, FromFirst}
use Rattle.taps_loop.specs.Rounds.{AreEnds, AreKept}
use Rattle.taps_loop.specs.Looped.{HasClosedBoth}
use Rattle.taps_loop.proofs.Acceptings.{ends_of, kept_first}
use Rattle.taps_loop.proofs.both.exchange_all.Goals as goal

pub exchange_open-requires-clause-may : goal.exchange_open-requires-clause-may
exchange_open-requires-clause-may g c =
    subst (λ z. MayTakeTurns (λ vtable. (g.dyn-1.0.entry vtable).1) z c.args.to (g.N.Sockets.net c.args.net.now) c.args.deadline) (sym c.in-Ok.ensures.kept)
    (record {
      framers = c.requires.framers;
      hearers = subst AreFramers (sym c.requires.same) c.requires.framers;
      sends = c.in-Ok.ensures.sound;
      holds = subst (λ b. IsHeld (g.N.Sockets.net c.args.net.now).trace c.args.from.socket (is_stream c.args.from.stack) b c.args.from.receiver.ended) (sym c.in-Ok.ensures.still_open) c.requires.holds;
      sound = c.requires.sound;
      held = c.requires.held;
      apart = c.requires.apart;
      bounded = c.requires.deadline;
      some = c.requires.some;
    })

pub returns-in-Ok-clause-closed : goal.returns-in-Ok-clause-closed
returns-in-Ok-clause-closed g c =
    λ x piece unread over.
    let same = c.requires.same in
    let ends = subst (λ fs. AreEnds x (encoding_of (is_stream c.args.from.stack) (layers_of (λ vtable. (g.dyn-1.0.entry vtable).1) c.args.from.chain)) c.args.from.socket (is_stream c.args.to.stack) fs c.args.to.socket piece c.args.deadline) (sym same) (ends_of x c.args.from.socket c.args.from.stack c.args.to.socket c.args.to.stack (layers_of (λ vtable. (g.dyn-1.0.entry vtable).1) c.args.from.chain) c.args.messages.items c.args.at piece c.args.deadline over c.requires.apart) in
    let first = kept_first x c.args.from.socket c.args.from.stack c.args.to.socket c.args.to.stack (layers_of (λ vtable. (g.dyn-1.0.entry vtable).1) c.args.from.chain) c.args.messages.items c.args.at piece c.args.deadline over c.requires.apart c.accept_all.new.connection.sender (g.N.Sockets.net c.args.net.now).told c.args.to.receiver.ended (unread_of c.args.to.receiver.source) c.requires.framers c.in-Ok.ensures.fresh c.in-Ok.ensures.moment c.in-Ok.ensures.accepted c.requires.told c.requires.goes_on
    (unread ∙ ap (λ fs. first_unread c.args.to.stack piece (length fs)) same) (subst (λ fs. Represents fs c.args.to.receiver.ended (unread_of c.args.to.receiver.source) [] []) same c.requires.represents) in
    let kept = subst (λ fs. AreKept x [] (encoding_of (is_stream c.args.from.stack) (layers_of (λ vtable. (g.dyn-1.0.entry vtable).1) c.args.from.chain)) (is_stream c.args.to.stack) fs piece c.accept_all.new.connection.sender (g.N.Sockets.net c.args.net.now).told c.args.to.receiver.ended (unread_of c.args.to.receiver.source) []) (sym same) first in
    let opened = subst (λ z. FromFirst (λ vtable. (g.dyn-1.0.entry vtable).1) z c.args.to c.args.deadline (g.N.Sockets.net c.args.net.now).told [] (λ x. x.from.messages ≡ queued c.accept_all.new.connection.sender) (λ x. HasClosedBoth g.N.Sockets.Becomes x z.socket c.args.to.socket c.args.net.now c.exchange_open.new.net c.exchange_open.result)) c.in-Ok.ensures.kept c.exchange_open.ensures.closed in
    opened x piece ends kept (over.messages_is ∙ sym c.in-Ok.ensures.accepted)
