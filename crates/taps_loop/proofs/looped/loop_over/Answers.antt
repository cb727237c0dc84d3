use Rattle.std.proofs.Common.{◌≡◌, ◌∷◌, ◌++◌, true, false, refl, sym, ap, subst, ◌∙◌, arith}
use Rattle.taps_chain.specs.Layers.{layers_of}
use Rattle.taps_stack.specs.StackTable.{is_stream}
use Rattle.taps_socket.specs.declared.item.Item.TheVariants as item
use Rattle.taps_socket.specs.LiveSockets.{live_sockets}
use Rattle.taps_socket.specs.RaceSockets.{has}
use Rattle.taps_socket.specs.Net.{Net}
use Rattle.taps_connection.specs.Conditions.{IsHeld}
use Rattle.taps_connection.specs.ListenerStates.{ListenerState}
use Rattle.taps_exchange.proofs.Behind.{live_of}
use Rattle.taps_loop.specs.Looped.{deadline_by, ends_over}
use Rattle.taps_loop.proofs.Closings.{live_closed}
use Rattle.taps_loop.proofs.Acceptings.{live_named, not_new, held_accepted, held_behind, live_looped, may_live, some_items}
use Rattle.taps_loop.proofs.Loopings.{looped_ok, looped_cut, looped_timed, looped_faulted}
use Rattle.taps_loop.proofs.looped.loop_over.Goals as goal

pub exchange_both-exchanged-requires : goal.exchange_both-exchanged-requires
exchange_both-exchanged-requires g c =
    let changed = c.in-Accepted.ensures.0.changed in
    let held : IsHeld (g.N.Sockets.net c.accept.new.net).trace c.in-Accepted.to (is_stream c.args.accepting) false false =
    subst (λ t. IsHeld t c.in-Accepted.to (is_stream c.args.accepting) false false) (sym (ap (λ (v : Net). v.trace) c.in-Accepted.ensures.0.changed))
    (subst (λ b. IsHeld (item.Accepted c.args.listener.socket c.in-Accepted.to c.in-Accepted.at ∷ (g.N.Sockets.net c.args.net.now).trace) c.in-Accepted.to b false false) (sym c.requires.stream) (held_accepted c.args.listener.socket c.in-Accepted.to c.in-Accepted.at (g.N.Sockets.net c.args.net.now).trace c.in-Accepted.ensures.0.answered.number c.requires.carries)) in
    record {
      ready = record {
        piece_some = c.requires.some;
        piece_few = c.requires.few;
        holds = subst (λ t. IsHeld t c.args.socket (is_stream c.args.stack) false false) (sym (ap (λ (v : Net). v.trace) c.in-Accepted.ensures.0.changed))
            (held_behind c.args.listener.socket c.in-Accepted.to c.in-Accepted.at c.args.socket (g.N.Sockets.net c.args.net.now).trace (is_stream c.args.stack) false false c.requires.apart (not_new c.args.socket c.in-Accepted.to (g.N.Sockets.net c.args.net.now).trace c.in-Accepted.ensures.0.answered.number (live_named (g.N.Sockets.net c.args.net.now).trace c.args.socket (live_of (g.N.Sockets.net c.args.net.now).trace c.args.socket c.requires.held.connected))) c.requires.held);
        held = held;
        apart = λ e. (not_new c.args.socket c.in-Accepted.to (g.N.Sockets.net c.args.net.now).trace c.in-Accepted.ensures.0.answered.number (live_named (g.N.Sockets.net c.args.net.now).trace c.args.socket (live_of (g.N.Sockets.net c.args.net.now).trace c.args.socket c.requires.held.connected))) (sym e);
        told = ap (λ (v : Net). v.told) changed;
        spare = (let before = c.requires.spare in let left = ap (λ (v : Net). v.spare) changed in omega (arith, before, left));
        bounded = c.deadline.ensures.bounded;
        some = some_items (g.N.Sockets.net c.accept.new.net).trace c.in-Accepted.to (is_stream c.args.accepting) false false held;
      };
    }

pub stop-requires-clause-live : goal.stop-requires-clause-live
stop-requires-clause-live g c =
    let k = c.exchange_both-exchanged.ensures.closes in
    subst (λ s. has (live_sockets (g.N.Sockets.net c.exchange_both-exchanged.new.net).trace) s ≡ true) (sym (ap (λ (v : ListenerState). v.socket) c.in-Accepted.ensures.1))
    (subst (λ t. has (live_sockets t) c.args.listener.socket ≡ true) (sym (k.trace ∙ ap (λ t. item.Closed c.in-Accepted.to ∷ item.Closed c.args.socket ∷ (k.items ++ t)) (ap (λ (v : Net). v.trace) c.in-Accepted.ensures.0.changed)))
    (live_looped c.args.listener.socket c.args.socket c.in-Accepted.to c.in-Accepted.at k.items (g.N.Sockets.net c.args.net.now).trace (λ e. c.requires.apart (sym e)) (not_new c.args.listener.socket c.in-Accepted.to (g.N.Sockets.net c.args.net.now).trace c.in-Accepted.ensures.0.answered.number (live_named (g.N.Sockets.net c.args.net.now).trace c.args.listener.socket (may_live (g.N.Sockets.net c.args.net.now).trace c.args.listener.socket c.requires.may))) k.own (may_live (g.N.Sockets.net c.args.net.now).trace c.args.listener.socket c.requires.may)))

pub stop-requires-in-Timed-clause-live : goal.stop-requires-in-Timed-clause-live
stop-requires-in-Timed-clause-live g c =
    subst (λ s. has (live_sockets (g.N.Sockets.net c.close.new.self).trace) s ≡ true) (sym (ap (λ (v : ListenerState). v.socket) c.in-Timed.ensures.1))
    (subst (λ t. has (live_sockets t) c.args.listener.socket ≡ true) (sym (ap (λ (v : Net). v.trace) c.close.ensures.net ∙ ap (λ t. item.Closed c.args.socket ∷ t) (ap (λ (v : Net). v.trace) c.in-Timed.ensures.0.changed)))
    (live_closed c.args.socket c.args.listener.socket (g.N.Sockets.net c.args.net.now).trace (λ e. c.requires.apart (sym e)) (may_live (g.N.Sockets.net c.args.net.now).trace c.args.listener.socket c.requires.may)))

pub stop-requires-in-Faulted-clause-live : goal.stop-requires-in-Faulted-clause-live
stop-requires-in-Faulted-clause-live g c =
    let asked = c.in-Faulted.ensures.0 in
    subst (λ s. has (live_sockets (g.N.Sockets.net c.close-in-Faulted.new.self).trace) s ≡ true) (sym (ap (λ (v : ListenerState). v.socket) c.in-Faulted.ensures.1))
    (subst (λ t. has (live_sockets t) c.args.listener.socket ≡ true) (sym (ap (λ (v : Net). v.trace) c.close-in-Faulted.ensures.net ∙ ap (λ t. item.Closed c.args.socket ∷ t) (ap (λ (v : Net). v.trace) asked.1.changed)))
    (live_closed c.args.socket c.args.listener.socket (item.Faulted asked.0 ∷ (g.N.Sockets.net c.args.net.now).trace) (λ e. c.requires.apart (sym e)) (may_live (g.N.Sockets.net c.args.net.now).trace c.args.listener.socket c.requires.may)))

pub returns-in-Ok : goal.returns-in-Ok
returns-in-Ok g c =
    looped_ok g.N.Sockets.Becomes g.met.N.Sockets.becomes_on (λ to at. ends_over c.args.socket c.args.stack to c.args.accepting (layers_of (λ vtable. (g.dyn-1.0.entry vtable).1) c.args.chain) c.args.messages.items at c.args.piece c.args.deadline_ms) c.args.listener.socket c.accept.new.self.socket c.args.socket (deadline_by (g.N.Sockets.net c.args.net.now).told c.args.deadline_ms) c.deadline-until.result c.args.net.now c.accept.new.net c.exchange_both-exchanged.new.net c.stop.new.net (g.N.Sockets.net c.args.net.now) (g.N.Sockets.net c.accept.new.net) (g.N.Sockets.net c.exchange_both-exchanged.new.net) (g.N.Sockets.net c.stop.new.net) (ap (λ (v : ListenerState). v.socket) c.in-Accepted.ensures.1) (c.deadline-until.ensures.by ∙ ap (λ n. deadline_by n c.args.deadline_ms) c.told.ensures) c.in-Accepted.to c.in-Accepted.at c.in-Accepted.ensures.0.becomes (ap (λ (v : Net). v.trace) c.in-Accepted.ensures.0.changed) c.in-Accepted.ensures.0.answered c.exchange_both-exchanged.ensures.closes c.stop.ensures.becomes (ap (λ (v : Net). v.trace) c.stop.ensures.changed) c.in-Ok.exchanged (c.in-Ok.ensures.closed (ends_over c.args.socket c.args.stack c.in-Accepted.to c.args.accepting (layers_of (λ vtable. (g.dyn-1.0.entry vtable).1) c.args.chain) c.args.messages.items c.in-Accepted.at c.args.piece c.args.deadline_ms) (record { encoding_is = refl; from_is = refl; messages_is = refl; accepted_is = refl; deadline_is = sym c.deadline.ensures.by; decoding_is = refl; to_is = refl; piece_is = refl }))

pub returns-in-Err : goal.returns-in-Err
returns-in-Err g c =
    looped_cut g.N.Sockets.Becomes g.met.N.Sockets.becomes_on (λ to at. ends_over c.args.socket c.args.stack to c.args.accepting (layers_of (λ vtable. (g.dyn-1.0.entry vtable).1) c.args.chain) c.args.messages.items at c.args.piece c.args.deadline_ms) c.args.listener.socket c.accept.new.self.socket c.args.socket (deadline_by (g.N.Sockets.net c.args.net.now).told c.args.deadline_ms) c.deadline-until.result c.args.net.now c.accept.new.net c.exchange_both-exchanged.new.net c.stop.new.net (g.N.Sockets.net c.args.net.now) (g.N.Sockets.net c.accept.new.net) (g.N.Sockets.net c.exchange_both-exchanged.new.net) (g.N.Sockets.net c.stop.new.net) (ap (λ (v : ListenerState). v.socket) c.in-Accepted.ensures.1) (c.deadline-until.ensures.by ∙ ap (λ n. deadline_by n c.args.deadline_ms) c.told.ensures) c.in-Accepted.to c.in-Accepted.at c.in-Accepted.ensures.0.becomes (ap (λ (v : Net). v.trace) c.in-Accepted.ensures.0.changed) c.in-Accepted.ensures.0.answered c.exchange_both-exchanged.ensures.closes c.stop.ensures.becomes (ap (λ (v : Net). v.trace) c.stop.ensures.changed) (c.in-Err.ensures.closed (ends_over c.args.socket c.args.stack c.in-Accepted.to c.args.accepting (layers_of (λ vtable. (g.dyn-1.0.entry vtable).1) c.args.chain) c.args.messages.items c.in-Accepted.at c.args.piece c.args.deadline_ms) (record { encoding_is = refl; from_is = refl; messages_is = refl; accepted_is = refl; deadline_is = sym c.deadline.ensures.by; decoding_is = refl; to_is = refl; piece_is = refl }))

pub returns-in-Timed : goal.returns-in-Timed
returns-in-Timed g c =
    looped_timed g.N.Sockets.Becomes g.met.N.Sockets.becomes_on (λ to at. ends_over c.args.socket c.args.stack to c.args.accepting (layers_of (λ vtable. (g.dyn-1.0.entry vtable).1) c.args.chain) c.args.messages.items at c.args.piece c.args.deadline_ms) c.args.listener.socket c.accept.new.self.socket c.args.socket (deadline_by (g.N.Sockets.net c.args.net.now).told c.args.deadline_ms) c.deadline-until.result c.args.net.now c.accept.new.net c.close.new.self c.stop-in-Timed.new.net (g.N.Sockets.net c.args.net.now) (g.N.Sockets.net c.accept.new.net) (g.N.Sockets.net c.close.new.self) (g.N.Sockets.net c.stop-in-Timed.new.net) (ap (λ (v : ListenerState). v.socket) c.in-Timed.ensures.1) (c.deadline-until.ensures.by ∙ ap (λ n. deadline_by n c.args.deadline_ms) c.told.ensures) c.in-Timed.field-0 c.in-Timed.ensures.0.becomes (ap (λ (v : Net). v.trace) c.in-Timed.ensures.0.changed)
    c.close.ensures.becomes (ap (λ (v : Net). v.trace) c.close.ensures.net) c.stop-in-Timed.ensures.becomes (ap (λ (v : Net). v.trace) c.stop-in-Timed.ensures.changed)

pub returns-in-Faulted : goal.returns-in-Faulted
returns-in-Faulted g c =
    let asked = c.in-Faulted.ensures.0 in
    looped_faulted g.N.Sockets.Becomes g.met.N.Sockets.becomes_on (λ to at. ends_over c.args.socket c.args.stack to c.args.accepting (layers_of (λ vtable. (g.dyn-1.0.entry vtable).1) c.args.chain) c.args.messages.items at c.args.piece c.args.deadline_ms) c.args.listener.socket c.accept.new.self.socket c.args.socket (deadline_by (g.N.Sockets.net c.args.net.now).told c.args.deadline_ms) c.deadline-until.result c.args.net.now c.accept.new.net c.close-in-Faulted.new.self c.stop-in-Faulted.new.net (g.N.Sockets.net c.args.net.now) (g.N.Sockets.net c.accept.new.net) (g.N.Sockets.net c.close-in-Faulted.new.self) (g.N.Sockets.net c.stop-in-Faulted.new.net) (ap (λ (v : ListenerState). v.socket) c.in-Faulted.ensures.1) (c.deadline-until.ensures.by ∙ ap (λ n. deadline_by n c.args.deadline_ms) c.told.ensures) asked.0 asked.1.becomes (ap (λ (v : Net). v.trace) asked.1.changed)
    c.close-in-Faulted.ensures.becomes (ap (λ (v : Net). v.trace) c.close-in-Faulted.ensures.net) c.stop-in-Faulted.ensures.becomes (ap (λ (v : Net). v.trace) c.stop-in-Faulted.ensures.changed) asked.1.answered
    (sym (ap (λ (v : Net). v.faults) c.stop-in-Faulted.ensures.changed ∙ ap (λ (v : Net). v.faults) c.close-in-Faulted.ensures.net))
