use Rattle.std.proofs.Common.{◌≡◌, ◌∷◌, [], true, sym, subst, arith}
use Rattle.std.specs.Prelude.{Ok, Err}
use Rattle.taps_chain.specs.Layers.{layers_of}
use Rattle.taps_socket.specs.declared.item.Item.TheVariants as item
use Rattle.taps_socket.specs.Calls.{closes}
use Rattle.taps_socket.specs.LiveSockets.{live_sockets}
use Rattle.taps_socket.specs.Net.{with_item}
use Rattle.taps_socket.specs.RaceSockets.{has}
use Rattle.taps_connection.specs.Senders.{queued}
use Rattle.taps_exchange.specs.Exchanged.{member_over}
use Rattle.taps_exchange.proofs.Behind.{still_live}
use Rattle.taps_exchange.proofs.Closing.{closes_on}
use Rattle.taps_exchange.proofs.exchanged.exchange.Goals as goal

pub talk-requires-clause-framers : goal.talk-requires-clause-framers
talk-requires-clause-framers g c =
    c.requires.framers

pub talk-requires-clause-fresh : goal.talk-requires-clause-fresh
talk-requires-clause-fresh g c =
    c.requires.fresh

pub talk-requires-clause-sends : goal.talk-requires-clause-sends
talk-requires-clause-sends g c =
    c.requires.sends

pub talk-requires-clause-hears : goal.talk-requires-clause-hears
talk-requires-clause-hears g c =
    c.requires.hears

pub talk-requires-clause-none_given : goal.talk-requires-clause-none_given
talk-requires-clause-none_given g c =
    c.requires.none_given

pub talk-requires-clause-goes_on : goal.talk-requires-clause-goes_on
talk-requires-clause-goes_on g c =
    c.requires.goes_on

pub talk-requires-clause-held : goal.talk-requires-clause-held
talk-requires-clause-held g c =
    c.requires.held

pub talk-requires-clause-until : goal.talk-requires-clause-until
talk-requires-clause-until g c =
    c.requires.until

pub talk-requires-clause-spare : goal.talk-requires-clause-spare
talk-requires-clause-spare g c =
    let s = c.requires.spare in omega (arith, s)

pub abort-requires-clause-live : goal.abort-requires-clause-live
abort-requires-clause-live g c =
    subst (λ x. has (live_sockets (g.N.Sockets.net c.talk.new.net).trace) x.socket ≡ true) (sym c.in-Ok.ensures.kept) (still_live c.args.connection.socket 2 (g.N.Sockets.net c.args.net.now) (g.N.Sockets.net c.talk.new.net) c.requires.held.connected c.in-Ok.ensures.changes)

pub abort-requires-clause-spare : goal.abort-requires-clause-spare
abort-requires-clause-spare g c =
    let few = c.in-Ok.ensures.changes.few in let s = c.in-Ok.ensures.changes.spare in let all = c.requires.spare in omega (arith, few, s, all)

pub returns-in-Ok : goal.returns-in-Ok
returns-in-Ok g c =
    λ piece e.
    let then = subst (λ x. g.N.Sockets.Becomes c.talk.new.net (closes x.socket ∷ []) c.abort.new.net) c.in-Ok.ensures.kept c.abort.ensures.becomes in
    let closed = subst (λ x. (g.N.Sockets.net c.abort.new.net) ≡ with_item (g.N.Sockets.net c.talk.new.net) (item.Closed x.socket) (g.N.Sockets.net c.talk.new.net).told) c.in-Ok.ensures.kept c.abort.ensures.net in
    closes_on g.N.Sockets.Becomes c.args.net.now c.talk.new.net c.abort.new.net (g.N.Sockets.net c.args.net.now) (g.N.Sockets.net c.talk.new.net) (g.N.Sockets.net c.abort.new.net) (member_over c.args.connection.socket c.args.connection.stack (layers_of (λ vtable. (g.dyn-1.0.entry vtable).1) c.args.connection.chain) (queued c.args.connection.sender) c.args.connection.sender.moment c.args.needs piece c.args.until) (Ok c.in-Ok.exchanged) g.met.N.Sockets.becomes_on (λ calls b. g.met.N.Sockets.shows c.args.net.now c.talk.new.net calls b) (c.in-Ok.ensures.talked piece e) then c.in-Ok.ensures.changes closed c.requires.spare

pub abort-requires-in-Err-clause-live : goal.abort-requires-in-Err-clause-live
abort-requires-in-Err-clause-live g c =
    subst (λ x. has (live_sockets (g.N.Sockets.net c.talk.new.net).trace) x.socket ≡ true) (sym c.in-Err.ensures.kept) (still_live c.args.connection.socket 2 (g.N.Sockets.net c.args.net.now) (g.N.Sockets.net c.talk.new.net) c.requires.held.connected c.in-Err.ensures.changes)

pub abort-requires-in-Err-clause-spare : goal.abort-requires-in-Err-clause-spare
abort-requires-in-Err-clause-spare g c =
    let few = c.in-Err.ensures.changes.few in let s = c.in-Err.ensures.changes.spare in let all = c.requires.spare in omega (arith, few, s, all)

pub returns-in-Err : goal.returns-in-Err
returns-in-Err g c =
    λ piece e.
    let then = subst (λ x. g.N.Sockets.Becomes c.talk.new.net (closes x.socket ∷ []) c.abort-in-Err.new.net) c.in-Err.ensures.kept c.abort-in-Err.ensures.becomes in
    let closed = subst (λ x. (g.N.Sockets.net c.abort-in-Err.new.net) ≡ with_item (g.N.Sockets.net c.talk.new.net) (item.Closed x.socket) (g.N.Sockets.net c.talk.new.net).told) c.in-Err.ensures.kept c.abort-in-Err.ensures.net in
    closes_on g.N.Sockets.Becomes c.args.net.now c.talk.new.net c.abort-in-Err.new.net (g.N.Sockets.net c.args.net.now) (g.N.Sockets.net c.talk.new.net) (g.N.Sockets.net c.abort-in-Err.new.net) (member_over c.args.connection.socket c.args.connection.stack (layers_of (λ vtable. (g.dyn-1.0.entry vtable).1) c.args.connection.chain) (queued c.args.connection.sender) c.args.connection.sender.moment c.args.needs piece c.args.until) (Err c.in-Err.none) g.met.N.Sockets.becomes_on (λ calls b. g.met.N.Sockets.shows c.args.net.now c.talk.new.net calls b) (c.in-Err.ensures.talked piece e) then c.in-Err.ensures.changes closed c.requires.spare
