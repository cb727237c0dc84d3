use Rattle.std.proofs.Common.{◌≡◌, [], sym, ap, subst, ◌∙◌, arith}
use Rattle.std.specs.Prelude.{Ok, Err}
use Rattle.taps_chain.specs.Layers.{layers_of}
use Rattle.taps_stack.specs.StackTable.{is_stream}
use Rattle.taps_connection.specs.Encodings.{encoding_of}
use Rattle.taps_exchange.specs.Changes.{Changes}
use Rattle.taps_exchange.specs.Sendings.{HasSent}
use Rattle.taps_listening.specs.ListenRules.{rules_of}
use Rattle.taps_listening.specs.Served.{IsServedOut, outcome_or}
use Rattle.taps_listening.proofs.Keeping.{keeps_time, keeps_changes, keeps_on, keeps_wider}
use Rattle.taps_listening.proofs.Sending.{answering, sent_from, serves_time, answer_ends, answer_cut}
use Rattle.taps_listening.proofs.answering.answer.Goals as goal

pub returns-in-Err-clause-answered : goal.returns-in-Err-clause-answered
returns-in-Err-clause-answered g c =
    λ c' may. record {
      out = answering c' c.now-at.result [];
      serves = serves_time g.N.Sockets.Becomes (rules_of c.args.service.now (layers_of (λ vtable. (g.dyn-1.0.entry vtable).1) c.args.connection.now.chain) c.args.messages.now) c.args.place c.args.net.now c.now-at.new.self c.args.connection.now.socket c.args.until c.now-at.result c.args.heard.items c' may c.now-at.ensures.becomes;
    }

pub returns-in-Err-clause-keeps : goal.returns-in-Err-clause-keeps
returns-in-Err-clause-keeps g c =
    keeps_wider c.args.connection.now.socket 1 2 (g.N.Sockets.net c.args.net.now) (g.N.Sockets.net c.now-at.new.self) (omega arith) (keeps_time c.args.connection.now.socket c.now-at.result (g.N.Sockets.net c.args.net.now) (g.N.Sockets.net c.now-at.new.self) (let s = c.requires.spare in omega (arith, s)) c.now-at.ensures.net)

pub returns-in-Ok-send_all-clause-answered : goal.returns-in-Ok-send_all-clause-answered
returns-in-Ok-send_all-clause-answered g c =
    λ c' may.
    let s0 : HasSent g.N.Sockets.Becomes (encoding_of (is_stream c.args.connection.now.stack) (layers_of (λ vtable. (g.dyn-1.0.entry vtable).1) c.args.connection.now.chain)) c.now-at.new.self c.send_all.new.net c.args.connection.now.socket c.args.until c.args.place c.accept_copies.new.connection.sender (Ok c.in-Ok-send_all.stopped) c.send_all.new.connection.sender =
    subst (λ x. HasSent g.N.Sockets.Becomes (encoding_of (is_stream x.stack) (layers_of (λ vtable. (g.dyn-1.0.entry vtable).1) x.chain)) c.now-at.new.self c.send_all.new.net x.socket c.args.until c.args.place c.accept_copies.new.connection.sender (Ok c.in-Ok-send_all.stopped) c.send_all.new.connection.sender) c.accept_copies.ensures.kept c.in-Ok-send_all.ensures.sent in
    let s1 : HasSent g.N.Sockets.Becomes (encoding_of (is_stream c.args.service.now.target.stack) (layers_of (λ vtable. (g.dyn-1.0.entry vtable).1) c.args.connection.now.chain)) c.now-at.new.self c.send_all.new.net c.args.connection.now.socket c.args.until c.args.place c.accept_copies.new.connection.sender (Ok c.in-Ok-send_all.stopped) c.send_all.new.connection.sender =
    subst (λ v. HasSent g.N.Sockets.Becomes (encoding_of (is_stream v) (layers_of (λ vtable. (g.dyn-1.0.entry vtable).1) c.args.connection.now.chain)) c.now-at.new.self c.send_all.new.net c.args.connection.now.socket c.args.until c.args.place c.accept_copies.new.connection.sender (Ok c.in-Ok-send_all.stopped) c.send_all.new.connection.sender) c.requires.stack s0 in
    let s2 = sent_from g.N.Sockets.Becomes (encoding_of (is_stream c.args.service.now.target.stack) (layers_of (λ vtable. (g.dyn-1.0.entry vtable).1) c.args.connection.now.chain)) c.now-at.new.self c.send_all.new.net c.args.connection.now.socket c.args.until c.args.place c.now-at.result c.args.messages.now c.accept_copies.new.connection.sender (Ok c.in-Ok-send_all.stopped) c.send_all.new.connection.sender c.accept_copies.ensures.fresh c.in-Ok.ensures.accepted c.in-Ok.ensures.moment s1 in
    let out = answer_ends g.N.Sockets.Becomes (rules_of c.args.service.now (layers_of (λ vtable. (g.dyn-1.0.entry vtable).1) c.args.connection.now.chain) c.args.messages.now) c.args.place c.args.net.now c.now-at.new.self c.send_all.new.net c.args.connection.now.socket c.args.until c.now-at.result c.args.heard.items c' may g.met.N.Sockets.becomes_on c.now-at.ensures.becomes c.in-Ok-send_all.stopped c.send_all.new.connection.sender s2 in
    let told : outcome_or c.args.place c.send_all.new.connection.sender.expired c.in-Ok-send_all.stopped ≡ c.outcome_at.result = sym (c.outcome_at.ensures ∙ ap (λ v. outcome_or c.args.place v c.in-Ok-send_all.stopped) c.first_expired.ensures) in
    subst (λ v. IsServedOut g.N.Sockets.Becomes (rules_of c.args.service.now (layers_of (λ vtable. (g.dyn-1.0.entry vtable).1) c.args.connection.now.chain) c.args.messages.now) c.args.place c.args.net.now c.send_all.new.net c' v c.sent.result c.args.heard.items) told
    (subst (λ v. IsServedOut g.N.Sockets.Becomes (rules_of c.args.service.now (layers_of (λ vtable. (g.dyn-1.0.entry vtable).1) c.args.connection.now.chain) c.args.messages.now) c.args.place c.args.net.now c.send_all.new.net c' (outcome_or c.args.place c.send_all.new.connection.sender.expired c.in-Ok-send_all.stopped) v c.args.heard.items) (sym c.sent.ensures) out)

pub returns-in-Ok-send_all-clause-keeps : goal.returns-in-Ok-send_all-clause-keeps
returns-in-Ok-send_all-clause-keeps g c =
    keeps_on c.args.connection.now.socket 1 1 2 (g.N.Sockets.net c.args.net.now) (g.N.Sockets.net c.now-at.new.self) (g.N.Sockets.net c.send_all.new.net) (omega arith) (keeps_time c.args.connection.now.socket c.now-at.result (g.N.Sockets.net c.args.net.now) (g.N.Sockets.net c.now-at.new.self) (let s = c.requires.spare in omega (arith, s)) c.now-at.ensures.net) (keeps_changes c.args.connection.now.socket 1 (g.N.Sockets.net c.now-at.new.self) (g.N.Sockets.net c.send_all.new.net) (subst (λ x. Changes x.socket 1 (g.N.Sockets.net c.now-at.new.self) (g.N.Sockets.net c.send_all.new.net)) c.accept_copies.ensures.kept c.in-Ok-send_all.ensures.changes))

pub returns-in-Err-send_all-clause-answered : goal.returns-in-Err-send_all-clause-answered
returns-in-Err-send_all-clause-answered g c =
    λ c' may.
    let s0 : HasSent g.N.Sockets.Becomes (encoding_of (is_stream c.args.connection.now.stack) (layers_of (λ vtable. (g.dyn-1.0.entry vtable).1) c.args.connection.now.chain)) c.now-at.new.self c.send_all.new.net c.args.connection.now.socket c.args.until c.args.place c.accept_copies.new.connection.sender (Err c.in-Err-send_all.none) c.send_all.new.connection.sender =
    subst (λ x. HasSent g.N.Sockets.Becomes (encoding_of (is_stream x.stack) (layers_of (λ vtable. (g.dyn-1.0.entry vtable).1) x.chain)) c.now-at.new.self c.send_all.new.net x.socket c.args.until c.args.place c.accept_copies.new.connection.sender (Err c.in-Err-send_all.none) c.send_all.new.connection.sender) c.accept_copies.ensures.kept c.in-Err-send_all.ensures.sent in
    let s1 : HasSent g.N.Sockets.Becomes (encoding_of (is_stream c.args.service.now.target.stack) (layers_of (λ vtable. (g.dyn-1.0.entry vtable).1) c.args.connection.now.chain)) c.now-at.new.self c.send_all.new.net c.args.connection.now.socket c.args.until c.args.place c.accept_copies.new.connection.sender (Err c.in-Err-send_all.none) c.send_all.new.connection.sender =
    subst (λ v. HasSent g.N.Sockets.Becomes (encoding_of (is_stream v) (layers_of (λ vtable. (g.dyn-1.0.entry vtable).1) c.args.connection.now.chain)) c.now-at.new.self c.send_all.new.net c.args.connection.now.socket c.args.until c.args.place c.accept_copies.new.connection.sender (Err c.in-Err-send_all.none) c.send_all.new.connection.sender) c.requires.stack s0 in
    let s2 = sent_from g.N.Sockets.Becomes (encoding_of (is_stream c.args.service.now.target.stack) (layers_of (λ vtable. (g.dyn-1.0.entry vtable).1) c.args.connection.now.chain)) c.now-at.new.self c.send_all.new.net c.args.connection.now.socket c.args.until c.args.place c.now-at.result c.args.messages.now c.accept_copies.new.connection.sender (Err c.in-Err-send_all.none) c.send_all.new.connection.sender c.accept_copies.ensures.fresh c.in-Ok.ensures.accepted c.in-Ok.ensures.moment s1 in
    answer_cut g.N.Sockets.Becomes (rules_of c.args.service.now (layers_of (λ vtable. (g.dyn-1.0.entry vtable).1) c.args.connection.now.chain) c.args.messages.now) c.args.place c.args.net.now c.now-at.new.self c.send_all.new.net c.args.connection.now.socket c.args.until c.now-at.result c.args.heard.items c' may g.met.N.Sockets.becomes_on c.now-at.ensures.becomes c.in-Err-send_all.none c.send_all.new.connection.sender s2

pub returns-in-Err-send_all-clause-keeps : goal.returns-in-Err-send_all-clause-keeps
returns-in-Err-send_all-clause-keeps g c =
    keeps_on c.args.connection.now.socket 1 1 2 (g.N.Sockets.net c.args.net.now) (g.N.Sockets.net c.now-at.new.self) (g.N.Sockets.net c.send_all.new.net) (omega arith) (keeps_time c.args.connection.now.socket c.now-at.result (g.N.Sockets.net c.args.net.now) (g.N.Sockets.net c.now-at.new.self) (let s = c.requires.spare in omega (arith, s)) c.now-at.ensures.net) (keeps_changes c.args.connection.now.socket 1 (g.N.Sockets.net c.now-at.new.self) (g.N.Sockets.net c.send_all.new.net) (subst (λ x. Changes x.socket 1 (g.N.Sockets.net c.now-at.new.self) (g.N.Sockets.net c.send_all.new.net)) c.accept_copies.ensures.kept c.in-Err-send_all.ensures.changes))
