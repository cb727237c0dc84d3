use Rattle.std.proofs.Common.{◌≡◌, ◌∷◌, [], true, sym, ap, subst, ◌∙◌}
use Rattle.taps_chain.specs.Layers.{layers_of}
use Rattle.taps_stack.specs.StackTable.{is_stream}
use Rattle.taps_socket.specs.Calls.{closes}
use Rattle.taps_socket.specs.LiveSockets.{live_sockets}
use Rattle.taps_socket.specs.RaceSockets.{has}
use Rattle.taps_connection.specs.Encodings.{encoding_of}
use Rattle.taps_connection.specs.Sources.{unread_of}
use Rattle.taps_exchange.proofs.Behind.{live_of}
use Rattle.taps_loop.specs.Rounds.{AreKept, IsTaken}
use Rattle.taps_loop.specs.Looped.{ClosesTwo}
use Rattle.taps_loop.proofs.Moving.{live_moves}
use Rattle.taps_loop.proofs.Closings.{closes_behind, closed_behind, cut_behind}
use Rattle.taps_loop.proofs.both.exchange_open.Goals as goal

pub abort_both-requires-clause-first : goal.abort_both-requires-clause-first
abort_both-requires-clause-first g c =
    subst (λ z. has (live_sockets (g.N.Sockets.net c.take_turns.new.net).trace) z.socket ≡ true) (sym c.in-Ok.ensures.sender_kept) (ap (λ v. has v c.args.from.socket) (live_moves c.args.from.socket c.args.to.socket (g.N.Sockets.net c.args.net.now) (g.N.Sockets.net c.take_turns.new.net) c.in-Ok.ensures.moves) ∙ live_of (g.N.Sockets.net c.args.net.now).trace c.args.from.socket c.requires.may.holds.connected)

pub abort_both-requires-clause-second : goal.abort_both-requires-clause-second
abort_both-requires-clause-second g c =
    subst (λ z. has (live_sockets (g.N.Sockets.net c.take_turns.new.net).trace) z.socket ≡ true) (sym c.in-Ok.ensures.kept) (ap (λ v. has v c.args.to.socket) (live_moves c.args.from.socket c.args.to.socket (g.N.Sockets.net c.args.net.now) (g.N.Sockets.net c.take_turns.new.net) c.in-Ok.ensures.moves) ∙ live_of (g.N.Sockets.net c.args.net.now).trace c.args.to.socket c.requires.may.held.connected)

pub abort_both-requires-in-Err-clause-first : goal.abort_both-requires-in-Err-clause-first
abort_both-requires-in-Err-clause-first g c =
    subst (λ z. has (live_sockets (g.N.Sockets.net c.take_turns.new.net).trace) z.socket ≡ true) (sym c.in-Err.ensures.sender_kept) (ap (λ v. has v c.args.from.socket) (live_moves c.args.from.socket c.args.to.socket (g.N.Sockets.net c.args.net.now) (g.N.Sockets.net c.take_turns.new.net) c.in-Err.ensures.moves) ∙ live_of (g.N.Sockets.net c.args.net.now).trace c.args.from.socket c.requires.may.holds.connected)

pub abort_both-requires-in-Err-clause-second : goal.abort_both-requires-in-Err-clause-second
abort_both-requires-in-Err-clause-second g c =
    subst (λ z. has (live_sockets (g.N.Sockets.net c.take_turns.new.net).trace) z.socket ≡ true) (sym c.in-Err.ensures.kept) (ap (λ v. has v c.args.to.socket) (live_moves c.args.from.socket c.args.to.socket (g.N.Sockets.net c.args.net.now) (g.N.Sockets.net c.take_turns.new.net) c.in-Err.ensures.moves) ∙ live_of (g.N.Sockets.net c.args.net.now).trace c.args.to.socket c.requires.may.held.connected)

pub returns-in-Ok-clause-closed : goal.returns-in-Ok-clause-closed
returns-in-Ok-clause-closed g c =
    λ x piece ends kept queue.
    let fresh = subst (λ ms. AreKept x [] (encoding_of (is_stream c.args.from.stack) (layers_of (λ vtable. (g.dyn-1.0.entry vtable).1) c.args.from.chain)) (is_stream c.args.to.stack) (layers_of (λ vtable. (g.dyn-1.0.entry vtable).1) c.args.to.chain) piece c.args.from.sender (g.N.Sockets.net c.args.net.now).told c.args.to.receiver.ended (unread_of c.args.to.receiver.source) ms) (sym c.new-heard.ensures.items) kept in
    let taken = c.in-Ok.ensures.taken x piece ends fresh queue in
    let told = subst (λ n. IsTaken g.N.Sockets.Becomes x c.args.net.now c.take_turns.new.net c.in-Ok.outcome n c.take_turns.new.heard.items) (sym c.sent-sent.ensures) taken in
    closed_behind g.N.Sockets.Becomes g.met.N.Sockets.becomes_on x c.args.from.socket c.args.to.socket c.args.net.now c.take_turns.new.net c.abort_both.new.net
    (record { outcome = c.in-Ok.outcome; sent = c.sent-sent.result; heard = c.take_turns.new.heard }) told (subst (λ z. g.N.Sockets.Becomes c.take_turns.new.net (closes z.socket ∷ closes c.args.from.socket ∷ []) c.abort_both.new.net) c.in-Ok.ensures.kept (subst (λ z. g.N.Sockets.Becomes c.take_turns.new.net (closes c.take_turns.new.to.socket ∷ closes z.socket ∷ []) c.abort_both.new.net) c.in-Ok.ensures.sender_kept c.abort_both.ensures.becomes))

pub returns-in-Ok-clause-closes : goal.returns-in-Ok-clause-closes
returns-in-Ok-clause-closes g c =
    closes_behind c.args.from.socket c.args.to.socket (g.N.Sockets.net c.args.net.now) (g.N.Sockets.net c.take_turns.new.net) (g.N.Sockets.net c.abort_both.new.net) c.in-Ok.ensures.moves c.in-Ok.ensures.spent (subst (λ z. ClosesTwo c.args.from.socket z.socket (g.N.Sockets.net c.take_turns.new.net) (g.N.Sockets.net c.abort_both.new.net)) c.in-Ok.ensures.kept (subst (λ z. ClosesTwo z.socket c.take_turns.new.to.socket (g.N.Sockets.net c.take_turns.new.net) (g.N.Sockets.net c.abort_both.new.net)) c.in-Ok.ensures.sender_kept c.abort_both.ensures.closes))

pub returns-in-Err-clause-closed : goal.returns-in-Err-clause-closed
returns-in-Err-clause-closed g c =
    λ x piece ends kept queue.
    let fresh = subst (λ ms. AreKept x [] (encoding_of (is_stream c.args.from.stack) (layers_of (λ vtable. (g.dyn-1.0.entry vtable).1) c.args.from.chain)) (is_stream c.args.to.stack) (layers_of (λ vtable. (g.dyn-1.0.entry vtable).1) c.args.to.chain) piece c.args.from.sender (g.N.Sockets.net c.args.net.now).told c.args.to.receiver.ended (unread_of c.args.to.receiver.source) ms) (sym c.new-heard.ensures.items) kept in
    let taken = c.in-Err.ensures.taken x piece ends fresh queue in
    cut_behind g.N.Sockets.Becomes g.met.N.Sockets.becomes_on x c.args.from.socket c.args.to.socket c.args.net.now c.take_turns.new.net c.abort_both-in-Err.new.net taken (subst (λ z. g.N.Sockets.Becomes c.take_turns.new.net (closes z.socket ∷ closes c.args.from.socket ∷ []) c.abort_both-in-Err.new.net) c.in-Err.ensures.kept (subst (λ z. g.N.Sockets.Becomes c.take_turns.new.net (closes c.take_turns.new.to.socket ∷ closes z.socket ∷ []) c.abort_both-in-Err.new.net) c.in-Err.ensures.sender_kept c.abort_both-in-Err.ensures.becomes))

pub returns-in-Err-clause-closes : goal.returns-in-Err-clause-closes
returns-in-Err-clause-closes g c =
    closes_behind c.args.from.socket c.args.to.socket (g.N.Sockets.net c.args.net.now) (g.N.Sockets.net c.take_turns.new.net) (g.N.Sockets.net c.abort_both-in-Err.new.net) c.in-Err.ensures.moves c.in-Err.ensures.spent (subst (λ z. ClosesTwo c.args.from.socket z.socket (g.N.Sockets.net c.take_turns.new.net) (g.N.Sockets.net c.abort_both-in-Err.new.net)) c.in-Err.ensures.kept (subst (λ z. ClosesTwo z.socket c.take_turns.new.to.socket (g.N.Sockets.net c.take_turns.new.net) (g.N.Sockets.net c.abort_both-in-Err.new.net)) c.in-Err.ensures.sender_kept c.abort_both-in-Err.ensures.closes))
