use Rattle.std.proofs.Common.{◌≡◌, false, length, sym, subst, arith}
use Rattle.taps_chain.specs.ChainLaws.{AreFramers}
use Rattle.taps_chain.specs.Layers.{layers_of}
use Rattle.taps_stack.specs.StackTable.{is_stream}
use Rattle.taps_connection.specs.Conditions.{IsHeld}
use Rattle.taps_connection.specs.Inboxes.{IsSoundReceiver}
use Rattle.taps_connection.specs.Sound.{IsSound}
use Rattle.taps_connection.specs.Sources.{unread_of}
use Rattle.taps_connection.specs.Unread.{first_unread}
use Rattle.taps_exchange.specs.Accepting.{accepted_of}
use Rattle.taps_exchange.specs.Exchanged.{member_over, HasExchanged}
use Rattle.taps_exchange.proofs.Behind.{live_of}
use Rattle.taps_exchange.proofs.Closing.{closes_none}
use Rattle.taps_exchange.proofs.Kept.{count_first}
use Rattle.taps_exchange.proofs.exchanged.exchange_over.Goals as goal

pub new-requires-clause-some : goal.new-requires-clause-some
new-requires-clause-some g c =
    c.requires.some

pub new-requires-clause-few : goal.new-requires-clause-few
new-requires-clause-few g c =
    c.requires.few

pub exchange_messages-requires-clause-framers : goal.exchange_messages-requires-clause-framers
exchange_messages-requires-clause-framers g c =
    subst AreFramers (sym c.in-Ok.ensures.layers) c.vouch.ensures.framers

pub exchange_messages-requires-clause-new : goal.exchange_messages-requires-clause-new
exchange_messages-requires-clause-new g c =
    c.in-Ok.ensures.sender

pub exchange_messages-requires-clause-sends : goal.exchange_messages-requires-clause-sends
exchange_messages-requires-clause-sends g c =
    subst (λ v. IsSound (is_stream v) (layers_of (λ vtable. (g.dyn-1.0.entry vtable).1) c.in-Ok.connection.chain) c.in-Ok.connection.sender) (sym c.in-Ok.ensures.socket.1) c.in-Ok.ensures.sound

pub exchange_messages-requires-clause-hears : goal.exchange_messages-requires-clause-hears
exchange_messages-requires-clause-hears g c =
    subst (λ v. IsSoundReceiver (λ vtable. (g.dyn-1.0.entry vtable).1) v (layers_of (λ vtable. (g.dyn-1.0.entry vtable).1) c.in-Ok.connection.chain) c.in-Ok.connection.receiver) (sym c.in-Ok.ensures.socket.1) c.in-Ok.ensures.receiver

pub exchange_messages-requires-clause-goes_on : goal.exchange_messages-requires-clause-goes_on
exchange_messages-requires-clause-goes_on g c =
    c.in-Ok.ensures.goes_on

pub exchange_messages-requires-clause-held : goal.exchange_messages-requires-clause-held
exchange_messages-requires-clause-held g c =
    subst (λ v. IsHeld (g.N.Sockets.net c.args.net.now).trace v (is_stream c.in-Ok.connection.stack) false false) (sym c.in-Ok.ensures.socket.0) (subst (λ v. IsHeld (g.N.Sockets.net c.args.net.now).trace c.args.socket (is_stream v) false false) (sym c.in-Ok.ensures.socket.1) c.requires.held)

pub exchange_messages-requires-clause-spare : goal.exchange_messages-requires-clause-spare
exchange_messages-requires-clause-spare g c =
    c.requires.spare

pub exchange_messages-requires-clause-until : goal.exchange_messages-requires-clause-until
exchange_messages-requires-clause-until g c =
    c.requires.until

pub close-requires-clause-room : goal.close-requires-clause-room
close-requires-clause-room g c =
    let s = c.requires.spare in omega (arith, s)

pub close-requires-clause-live : goal.close-requires-clause-live
close-requires-clause-live g c =
    live_of (g.N.Sockets.net c.args.net.now).trace c.args.socket c.requires.held.connected

pub returns-in-Ok : goal.returns-in-Ok
returns-in-Ok g c =
    let first : unread_of c.in-Ok.connection.receiver.source ≡ first_unread c.in-Ok.connection.stack c.args.piece (length (layers_of (λ vtable. (g.dyn-1.0.entry vtable).1) c.in-Ok.connection.chain)) = subst (λ v. unread_of c.in-Ok.connection.receiver.source ≡ first_unread v c.args.piece (length (layers_of (λ vtable. (g.dyn-1.0.entry vtable).1) c.in-Ok.connection.chain))) (sym c.in-Ok.ensures.socket.1) c.in-Ok.ensures.unread in
    let done : HasExchanged g.N.Sockets.Becomes c.args.net.now c.exchange_messages.new.net (g.N.Sockets.net c.args.net.now) (g.N.Sockets.net c.exchange_messages.new.net) (member_over c.in-Ok.connection.socket c.in-Ok.connection.stack (layers_of (λ vtable. (g.dyn-1.0.entry vtable).1) c.in-Ok.connection.chain) (accepted_of c.args.at c.args.messages.items) c.args.at c.args.needs c.args.piece c.args.until) c.exchange_messages.result = c.exchange_messages.ensures c.args.piece first in
    subst (λ v. HasExchanged g.N.Sockets.Becomes c.args.net.now c.exchange_messages.new.net (g.N.Sockets.net c.args.net.now) (g.N.Sockets.net c.exchange_messages.new.net) (member_over v c.args.stack (layers_of (λ vtable. (g.dyn-1.0.entry vtable).1) c.args.chain) (accepted_of c.args.at c.args.messages.items) c.args.at c.args.needs c.args.piece c.args.until) c.exchange_messages.result) c.in-Ok.ensures.socket.0
    (subst (λ v. HasExchanged g.N.Sockets.Becomes c.args.net.now c.exchange_messages.new.net (g.N.Sockets.net c.args.net.now) (g.N.Sockets.net c.exchange_messages.new.net) (member_over c.in-Ok.connection.socket v (layers_of (λ vtable. (g.dyn-1.0.entry vtable).1) c.args.chain) (accepted_of c.args.at c.args.messages.items) c.args.at c.args.needs c.args.piece c.args.until) c.exchange_messages.result) c.in-Ok.ensures.socket.1
    (subst (λ v. HasExchanged g.N.Sockets.Becomes c.args.net.now c.exchange_messages.new.net (g.N.Sockets.net c.args.net.now) (g.N.Sockets.net c.exchange_messages.new.net) (member_over c.in-Ok.connection.socket c.in-Ok.connection.stack v (accepted_of c.args.at c.args.messages.items) c.args.at c.args.needs c.args.piece c.args.until) c.exchange_messages.result) c.in-Ok.ensures.layers done))

pub returns-in-Err : goal.returns-in-Err
returns-in-Err g c =
    closes_none g.N.Sockets.Becomes c.args.net.now c.close.new.self (g.N.Sockets.net c.args.net.now) (g.N.Sockets.net c.close.new.self) (member_over c.args.socket c.args.stack (layers_of (λ vtable. (g.dyn-1.0.entry vtable).1) c.args.chain) (accepted_of c.args.at c.args.messages.items) c.args.at c.args.needs c.args.piece c.args.until) c.in-Err.none g.met.N.Sockets.becomes_on (λ calls b. g.met.N.Sockets.shows c.args.net.now c.args.net.now calls b) (g.met.N.Sockets.becomes_itself c.args.net.now) c.close.ensures.becomes c.close.ensures.net c.requires.spare

pub exchange_messages-requires-clause-none_given : goal.exchange_messages-requires-clause-none_given
exchange_messages-requires-clause-none_given g c = count_first c.args.stack (length (layers_of (λ vtable. (g.dyn-1.0.entry vtable).1) c.in-Ok.connection.chain)) c.args.piece (unread_of c.in-Ok.connection.receiver.source) c.in-Ok.ensures.unread
