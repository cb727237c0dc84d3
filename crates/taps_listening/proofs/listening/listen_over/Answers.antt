use Rattle.std.proofs.Common.{◌≡◌, ◌∷◌, [], true, sym, ap, subst, ◌∙◌}
use Rattle.taps_chain.specs.Layers.{layers_of}
use Rattle.taps_socket.specs.declared.item.Item.TheVariants as item
use Rattle.taps_socket.specs.LiveSockets.{live_sockets, named}
use Rattle.taps_socket.specs.Net.{Net}
use Rattle.taps_socket.specs.RaceSockets.{has}
use Rattle.taps_socket.specs.Sides.{listeners}
use Rattle.taps_socket.proofs.Lists.{both}
use Rattle.taps_listening.specs.declared.listened.ListenEnd.TheVariants as ends
use Rattle.taps_listening.specs.Accepts.{IsListening}
use Rattle.taps_listening.specs.ListenRules.{rules_of}
use Rattle.taps_listening.proofs.Finishing.{listened, begun, refused, finished, cut_short}
use Rattle.taps_listening.proofs.Traces.{named_more, listens_new}
use Rattle.taps_listening.proofs.listening.listen_over.Goals as goal

pub accept_each-ended-requires-clause-listening : goal.accept_each-ended-requires-clause-listening
accept_each-ended-requires-clause-listening g c =
    subst (λ v. IsListening v c.in-Listening.socket) (sym (ap (λ (v : Net). v.trace) c.in-Listening.ensures.net)) (listens_new c.args.service.target c.in-Listening.socket c.in-Listening.at (g.N.Sockets.net c.now.new.self).trace c.requires.stream c.in-Listening.ensures.socket.number)

pub stop-requires-clause-live : goal.stop-requires-clause-live
stop-requires-clause-live g c =
    let on : IsListening (g.N.Sockets.net c.listen.new.self).trace c.in-Listening.socket = subst (λ v. IsListening v c.in-Listening.socket) (sym (ap (λ (v : Net). v.trace) c.in-Listening.ensures.net)) (listens_new c.args.service.target c.in-Listening.socket c.in-Listening.at (g.N.Sockets.net c.now.new.self).trace c.requires.stream c.in-Listening.ensures.socket.number) in
    (both (has (live_sockets (g.N.Sockets.net c.accept_each-ended.new.net).trace) c.in-Listening.socket) (has (listeners (g.N.Sockets.net c.accept_each-ended.new.net).trace) c.in-Listening.socket) (c.accept_each-ended.ensures.keeps.listening on).may).0

pub returns-in-Ok : goal.returns-in-Ok
returns-in-Ok g c =
    finished g.N.Sockets.Becomes (rules_of c.args.service (layers_of (λ vtable. (g.dyn-1.0.entry vtable).1) c.args.chain.now) c.args.messages.now) c.args.net.now c.listen.new.self c.accept_each-ended.new.net c.stop.new.net (g.N.Sockets.net c.args.net.now) (g.N.Sockets.net c.stop.new.net) c.in-Listening.socket c.in-Listening.at g.met.N.Sockets.becomes_on (λ calls h. g.met.N.Sockets.shows c.args.net.now c.stop.new.net calls h) (begun g.N.Sockets.Becomes (rules_of c.args.service (layers_of (λ vtable. (g.dyn-1.0.entry vtable).1) c.args.chain.now) c.args.messages.now) c.args.net.now c.now.new.self c.listen.new.self c.now.result g.met.N.Sockets.becomes_on c.now.ensures.becomes c.in-Listening.socket c.in-Listening.at c.requires.connections c.in-Listening.ensures.becomes) c.stop.ensures.becomes (λ s h. ap (λ (v : Net). v.traffic s) c.stop.ensures.net ∙ (c.accept_each-ended.ensures.others s (subst (λ (v : Net). has (named v.trace) s ≡ true) (sym c.in-Listening.ensures.net) (named_more (item.Listening c.args.service.target c.in-Listening.socket c.in-Listening.at ∷ []) (g.N.Sockets.net c.now.new.self).trace s (subst (λ (v : Net). has (named v.trace) s ≡ true) (sym c.now.ensures.net) h))) ∙ (ap (λ (v : Net). v.traffic s) c.in-Listening.ensures.net ∙ ap (λ (v : Net). v.traffic s) c.now.ensures.net))) c.in-Ok.end c.accept_each-ended.new.members.items c.in-Ok.ensures.accepted

pub returns-in-Err : goal.returns-in-Err
returns-in-Err g c =
    cut_short g.N.Sockets.Becomes (rules_of c.args.service (layers_of (λ vtable. (g.dyn-1.0.entry vtable).1) c.args.chain.now) c.args.messages.now) c.args.net.now c.listen.new.self c.accept_each-ended.new.net c.stop.new.net (g.N.Sockets.net c.args.net.now) (g.N.Sockets.net c.stop.new.net) c.in-Listening.socket c.in-Listening.at g.met.N.Sockets.becomes_on (λ calls h. g.met.N.Sockets.shows c.args.net.now c.stop.new.net calls h) (begun g.N.Sockets.Becomes (rules_of c.args.service (layers_of (λ vtable. (g.dyn-1.0.entry vtable).1) c.args.chain.now) c.args.messages.now) c.args.net.now c.now.new.self c.listen.new.self c.now.result g.met.N.Sockets.becomes_on c.now.ensures.becomes c.in-Listening.socket c.in-Listening.at c.requires.connections c.in-Listening.ensures.becomes) c.stop.ensures.becomes (λ s h. ap (λ (v : Net). v.traffic s) c.stop.ensures.net ∙ (c.accept_each-ended.ensures.others s (subst (λ (v : Net). has (named v.trace) s ≡ true) (sym c.in-Listening.ensures.net) (named_more (item.Listening c.args.service.target c.in-Listening.socket c.in-Listening.at ∷ []) (g.N.Sockets.net c.now.new.self).trace s (subst (λ (v : Net). has (named v.trace) s ≡ true) (sym c.now.ensures.net) h))) ∙ (ap (λ (v : Net). v.traffic s) c.in-Listening.ensures.net ∙ ap (λ (v : Net). v.traffic s) c.now.ensures.net))) c.in-Err.ensures.accepted

pub returns-in-Refused : goal.returns-in-Refused
returns-in-Refused g c =
    listened g.N.Sockets.Becomes (rules_of c.args.service (layers_of (λ vtable. (g.dyn-1.0.entry vtable).1) c.args.chain.now) c.args.messages.now) c.args.net.now c.listen.new.self (g.N.Sockets.net c.args.net.now) (g.N.Sockets.net c.listen.new.self) (λ calls h. g.met.N.Sockets.shows c.args.net.now c.listen.new.self calls h) [] (ends.NotListening c.in-Refused.cause) c.new.result.items
    (refused g.N.Sockets.Becomes (rules_of c.args.service (layers_of (λ vtable. (g.dyn-1.0.entry vtable).1) c.args.chain.now) c.args.messages.now) c.args.net.now c.now.new.self c.listen.new.self c.now.result g.met.N.Sockets.becomes_on c.now.ensures.becomes c.in-Refused.cause c.in-Refused.at c.in-Refused.ensures.becomes)
    (sym c.new.ensures.items) (λ s h. ap (λ (v : Net). v.traffic s) c.in-Refused.ensures.net ∙ ap (λ (v : Net). v.traffic s) c.now.ensures.net)
