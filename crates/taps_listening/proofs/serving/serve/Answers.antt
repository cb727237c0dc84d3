use Rattle.std.proofs.Common.{◌≡◌, ℕ, ◌∷◌, [], true, length, sym, subst, ◌∙◌, arith}
use Rattle.taps_chain.specs.Layers.{layers_of}
use Rattle.taps_socket.specs.declared.item.Item.TheVariants as item
use Rattle.taps_socket.specs.Calls.{closes}
use Rattle.taps_socket.specs.LiveSockets.{live_sockets}
use Rattle.taps_socket.specs.Net.{with_item}
use Rattle.taps_socket.specs.RaceSockets.{has}
use Rattle.taps_exchange.proofs.Behind.{live_of}
use Rattle.taps_listening.specs.ListenRules.{rules_of}
use Rattle.taps_listening.specs.Served.{HasServed, KeepsServing}
use Rattle.taps_listening.specs.Serving.{first_served}
use Rattle.taps_listening.proofs.ListeningOn.{still_live, listening_done}
use Rattle.taps_listening.proofs.Keeping.{keeps_none}
use Rattle.taps_listening.proofs.Lifting.{closes_one}
use Rattle.taps_listening.proofs.serving.serve.Goals as goal

pub abort-requires-clause-live : goal.abort-requires-clause-live
abort-requires-clause-live g c =
    let own : c.talk-exchanged.new.connection.socket ≡ c.args.socket = c.talk-exchanged.ensures.socket ∙ c.in-Ok.ensures.socket.0 in
    subst (λ (v : ℕ). has (live_sockets (g.N.Sockets.net c.talk-exchanged.new.net).trace) v ≡ true) (sym own)
    (still_live c.in-Ok.connection.socket 3 c.args.socket (g.N.Sockets.net c.args.net.now) (g.N.Sockets.net c.talk-exchanged.new.net) c.talk-exchanged.ensures.keeps (live_of (g.N.Sockets.net c.args.net.now).trace c.args.socket c.requires.held.connected))

pub returns-in-Ok-clause-served : goal.returns-in-Ok-clause-served
returns-in-Ok-clause-served g c =
    λ listener served e.
    let own : c.talk-exchanged.new.connection.socket ≡ c.args.socket = c.talk-exchanged.ensures.socket ∙ c.in-Ok.ensures.socket.0 in
    let close : g.N.Sockets.Becomes c.talk-exchanged.new.net (closes c.args.socket ∷ []) c.abort.new.net = subst (λ (v : ℕ). g.N.Sockets.Becomes c.talk-exchanged.new.net (closes v ∷ []) c.abort.new.net) own c.abort.ensures.becomes in
    let s0 : HasServed g.N.Sockets.Becomes (rules_of c.args.service.now (layers_of (λ vtable. (g.dyn-1.0.entry vtable).1) c.args.chain.now) c.args.messages.now) c.args.place c.args.net.now c.talk-exchanged.new.net (first_served c.in-Ok.connection.socket c.args.since) c.talk-exchanged.result =
    subst (λ v. HasServed g.N.Sockets.Becomes (rules_of c.args.service.now v c.args.messages.now) c.args.place c.args.net.now c.talk-exchanged.new.net (first_served c.in-Ok.connection.socket c.args.since) c.talk-exchanged.result) c.in-Ok.ensures.layers c.talk-exchanged.ensures.served in
    let s1 : HasServed g.N.Sockets.Becomes (rules_of c.args.service.now (layers_of (λ vtable. (g.dyn-1.0.entry vtable).1) c.args.chain.now) c.args.messages.now) c.args.place c.args.net.now c.talk-exchanged.new.net (first_served c.args.socket c.args.since) c.talk-exchanged.result =
    subst (λ (v : ℕ). HasServed g.N.Sockets.Becomes (rules_of c.args.service.now (layers_of (λ vtable. (g.dyn-1.0.entry vtable).1) c.args.chain.now) c.args.messages.now) c.args.place c.args.net.now c.talk-exchanged.new.net (first_served v c.args.since) c.talk-exchanged.result) c.in-Ok.ensures.socket.0 s0 in
    let s2 : HasServed g.N.Sockets.Becomes (rules_of c.args.service.now (layers_of (λ vtable. (g.dyn-1.0.entry vtable).1) c.args.chain.now) c.args.messages.now) (length served) c.args.net.now c.talk-exchanged.new.net (first_served c.args.socket c.args.since) c.talk-exchanged.result =
    subst (λ (v : ℕ). HasServed g.N.Sockets.Becomes (rules_of c.args.service.now (layers_of (λ vtable. (g.dyn-1.0.entry vtable).1) c.args.chain.now) c.args.messages.now) v c.args.net.now c.talk-exchanged.new.net (first_served c.args.socket c.args.since) c.talk-exchanged.result) (sym e) s1 in
    closes_one (rules_of c.args.service.now (layers_of (λ vtable. (g.dyn-1.0.entry vtable).1) c.args.chain.now) c.args.messages.now) listener served g.N.Sockets.Becomes c.args.net.now c.talk-exchanged.new.net c.abort.new.net (first_served c.args.socket c.args.since) g.met.N.Sockets.becomes_on close c.talk-exchanged.result s2

pub returns-in-Ok-clause-keeps : goal.returns-in-Ok-clause-keeps
returns-in-Ok-clause-keeps g c =
    λ listener ne.
    let own : c.talk-exchanged.new.connection.socket ≡ c.args.socket = c.talk-exchanged.ensures.socket ∙ c.in-Ok.ensures.socket.0 in
    listening_done listener c.args.socket 3 (g.N.Sockets.net c.args.net.now) (g.N.Sockets.net c.talk-exchanged.new.net) (g.N.Sockets.net c.abort.new.net) (omega arith) ne
    (subst (λ (v : ℕ). KeepsServing v 3 (g.N.Sockets.net c.args.net.now) (g.N.Sockets.net c.talk-exchanged.new.net)) c.in-Ok.ensures.socket.0 c.talk-exchanged.ensures.keeps)
    (subst (λ (v : ℕ). (g.N.Sockets.net c.abort.new.net) ≡ with_item (g.N.Sockets.net c.talk-exchanged.new.net) (item.Closed v) (g.N.Sockets.net c.talk-exchanged.new.net).told) own c.abort.ensures.net)

pub returns-in-Err-clause-keeps : goal.returns-in-Err-clause-keeps
returns-in-Err-clause-keeps g c =
    λ listener ne. listening_done listener c.args.socket 0 (g.N.Sockets.net c.args.net.now) (g.N.Sockets.net c.args.net.now) (g.N.Sockets.net c.close.new.self) (omega arith) ne (keeps_none c.args.socket (g.N.Sockets.net c.args.net.now)) c.close.ensures.net
