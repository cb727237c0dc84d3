use Rattle.std.proofs.Common.{◌≡◌, ◌∷◌, [], true, false, length, sym, ap, subst, ◌∙◌, arith}
use Rattle.taps_chain.specs.ChainLaws.{AreFramers}
use Rattle.taps_chain.specs.Layers.{layers_of}
use Rattle.taps_stack.specs.StackTable.{is_stream}
use Rattle.taps_socket.specs.declared.item.Item.TheVariants as item
use Rattle.taps_socket.specs.Calls.{closes}
use Rattle.taps_socket.specs.LiveSockets.{live_sockets}
use Rattle.taps_socket.specs.Net.{with_item}
use Rattle.taps_socket.specs.RaceSockets.{has}
use Rattle.taps_connection.specs.Conditions.{IsHeld}
use Rattle.taps_connection.specs.Inboxes.{IsSoundReceiver}
use Rattle.taps_connection.specs.Senders.{queued}
use Rattle.taps_connection.specs.Sound.{IsSound}
use Rattle.taps_connection.specs.Sources.{unread_of}
use Rattle.taps_connection.specs.Unread.{count_given, first_unread}
use Rattle.taps_exchange.specs.Accepting.{accepted_of}
use Rattle.taps_exchange.specs.Exchanged.{member_over, HasExchanged}
use Rattle.taps_exchange.proofs.Behind.{live_of}
use Rattle.taps_exchange.proofs.Closing.{closes_none}
use Rattle.taps_exchange.proofs.exchanged.exchange_messages.Goals as goal

pub accept_all-requires-clause-new : goal.accept_all-requires-clause-new
accept_all-requires-clause-new g c =
    c.requires.new

pub accept_all-requires-clause-sound : goal.accept_all-requires-clause-sound
accept_all-requires-clause-sound g c =
    c.requires.sends

pub exchange-requires-clause-framers : goal.exchange-requires-clause-framers
exchange-requires-clause-framers g c =
    subst (λ x. AreFramers (layers_of (λ vtable. (g.dyn-1.0.entry vtable).1) x.chain)) (sym c.accept_all.ensures.kept) c.requires.framers

pub exchange-requires-clause-fresh : goal.exchange-requires-clause-fresh
exchange-requires-clause-fresh g c =
    c.accept_all.ensures.fresh

pub exchange-requires-clause-sends : goal.exchange-requires-clause-sends
exchange-requires-clause-sends g c =
    subst (λ x. IsSound (is_stream x.stack) (layers_of (λ vtable. (g.dyn-1.0.entry vtable).1) x.chain) x.sender) (sym c.accept_all.ensures.kept) c.accept_all.ensures.sound

pub exchange-requires-clause-hears : goal.exchange-requires-clause-hears
exchange-requires-clause-hears g c =
    subst (λ x. IsSoundReceiver (λ vtable. (g.dyn-1.0.entry vtable).1) x.stack (layers_of (λ vtable. (g.dyn-1.0.entry vtable).1) x.chain) x.receiver) (sym c.accept_all.ensures.kept) c.requires.hears

pub exchange-requires-clause-none_given : goal.exchange-requires-clause-none_given
exchange-requires-clause-none_given g c =
    subst (λ x. count_given (unread_of x.receiver.source) ≡ 0) (sym c.accept_all.ensures.kept) c.requires.none_given

pub exchange-requires-clause-goes_on : goal.exchange-requires-clause-goes_on
exchange-requires-clause-goes_on g c =
    subst (λ x. x.receiver.ended ≡ false) (sym c.accept_all.ensures.kept) c.requires.goes_on

pub exchange-requires-clause-held : goal.exchange-requires-clause-held
exchange-requires-clause-held g c =
    let shut : c.accept_all.new.connection.sender.shut ≡ false = c.accept_all.ensures.still_open ∙ ap (λ v. v.shut) c.requires.new in
    let held : IsHeld (g.N.Sockets.net c.args.net.now).trace c.args.connection.socket (is_stream c.args.connection.stack) c.accept_all.new.connection.sender.shut c.args.connection.receiver.ended =
    subst (λ b. IsHeld (g.N.Sockets.net c.args.net.now).trace c.args.connection.socket (is_stream c.args.connection.stack) b c.args.connection.receiver.ended) (sym shut) (subst (λ b. IsHeld (g.N.Sockets.net c.args.net.now).trace c.args.connection.socket (is_stream c.args.connection.stack) false b) (sym c.requires.goes_on) c.requires.held) in
    subst (λ x. IsHeld (g.N.Sockets.net c.args.net.now).trace x.socket (is_stream x.stack) x.sender.shut x.receiver.ended) (sym c.accept_all.ensures.kept) held

pub exchange-requires-clause-spare : goal.exchange-requires-clause-spare
exchange-requires-clause-spare g c =
    c.requires.spare

pub exchange-requires-clause-until : goal.exchange-requires-clause-until
exchange-requires-clause-until g c =
    c.requires.until

pub abort-requires-clause-live : goal.abort-requires-clause-live
abort-requires-clause-live g c =
    subst (λ x. has (live_sockets (g.N.Sockets.net c.args.net.now).trace) x.socket ≡ true) (sym c.accept_all.ensures.kept) (live_of (g.N.Sockets.net c.args.net.now).trace c.args.connection.socket c.requires.held.connected)

pub abort-requires-clause-spare : goal.abort-requires-clause-spare
abort-requires-clause-spare g c =
    let s = c.requires.spare in omega (arith, s)

pub returns-in-Ok : goal.returns-in-Ok
returns-in-Ok g c =
    λ piece e.
    let first : unread_of c.accept_all.new.connection.receiver.source ≡ first_unread c.accept_all.new.connection.stack piece (length (layers_of (λ vtable. (g.dyn-1.0.entry vtable).1) c.accept_all.new.connection.chain)) = subst (λ x. unread_of x.receiver.source ≡ first_unread x.stack piece (length (layers_of (λ vtable. (g.dyn-1.0.entry vtable).1) x.chain))) (sym c.accept_all.ensures.kept) e in
    let done : HasExchanged g.N.Sockets.Becomes c.args.net.now c.exchange.new.net (g.N.Sockets.net c.args.net.now) (g.N.Sockets.net c.exchange.new.net) (member_over c.args.connection.socket c.args.connection.stack (layers_of (λ vtable. (g.dyn-1.0.entry vtable).1) c.args.connection.chain) (queued c.accept_all.new.connection.sender) c.accept_all.new.connection.sender.moment c.args.needs piece c.args.until) c.exchange.result =
    subst (λ x. HasExchanged g.N.Sockets.Becomes c.args.net.now c.exchange.new.net (g.N.Sockets.net c.args.net.now) (g.N.Sockets.net c.exchange.new.net) (member_over x.socket x.stack (layers_of (λ vtable. (g.dyn-1.0.entry vtable).1) x.chain) (queued x.sender) x.sender.moment c.args.needs piece c.args.until) c.exchange.result) c.accept_all.ensures.kept (c.exchange.ensures piece first) in
    subst (λ v. HasExchanged g.N.Sockets.Becomes c.args.net.now c.exchange.new.net (g.N.Sockets.net c.args.net.now) (g.N.Sockets.net c.exchange.new.net) (member_over c.args.connection.socket c.args.connection.stack (layers_of (λ vtable. (g.dyn-1.0.entry vtable).1) c.args.connection.chain) (accepted_of c.args.at c.args.messages.items) v c.args.needs piece c.args.until) c.exchange.result) c.accept_all.ensures.moment
    (subst (λ v. HasExchanged g.N.Sockets.Becomes c.args.net.now c.exchange.new.net (g.N.Sockets.net c.args.net.now) (g.N.Sockets.net c.exchange.new.net) (member_over c.args.connection.socket c.args.connection.stack (layers_of (λ vtable. (g.dyn-1.0.entry vtable).1) c.args.connection.chain) v c.accept_all.new.connection.sender.moment c.args.needs piece c.args.until) c.exchange.result) c.in-Ok.ensures.accepted done)

pub returns-in-Err : goal.returns-in-Err
returns-in-Err g c =
    λ piece e.
    let then = subst (λ x. g.N.Sockets.Becomes c.args.net.now (closes x.socket ∷ []) c.abort.new.net) c.accept_all.ensures.kept c.abort.ensures.becomes in
    let closed = subst (λ x. (g.N.Sockets.net c.abort.new.net) ≡ with_item (g.N.Sockets.net c.args.net.now) (item.Closed x.socket) (g.N.Sockets.net c.args.net.now).told) c.accept_all.ensures.kept c.abort.ensures.net in
    closes_none g.N.Sockets.Becomes c.args.net.now c.abort.new.net (g.N.Sockets.net c.args.net.now) (g.N.Sockets.net c.abort.new.net) (member_over c.args.connection.socket c.args.connection.stack (layers_of (λ vtable. (g.dyn-1.0.entry vtable).1) c.args.connection.chain) (accepted_of c.args.at c.args.messages.items) c.args.at c.args.needs piece c.args.until) c.in-Err.none g.met.N.Sockets.becomes_on (λ calls b. g.met.N.Sockets.shows c.args.net.now c.args.net.now calls b) (g.met.N.Sockets.becomes_itself c.args.net.now) then closed c.requires.spare
