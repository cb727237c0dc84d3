use Rattle.std.proofs.Common.{◌≡◌, [], false, length, sym, ap, subst, ◌∙◌, arith}
use Rattle.std.specs.Prelude.{map, Ok, Err, Some, None}
use Rattle.taps_chain.specs.Layers.{layers_of}
use Rattle.taps_stack.specs.StackTable.{is_stream}
use Rattle.taps_connection.specs.Histories.{Represents, message}
use Rattle.taps_connection.specs.Sources.{unread_of}
use Rattle.taps_connection.proofs.Reading.{first_represents}
use Rattle.taps_exchange.specs.Decodings.{decoding_of}
use Rattle.taps_exchange.specs.Hearings.{Fits, HasHeard}
use Rattle.taps_exchange.proofs.Kept.{fits_first}
use Rattle.taps_listening.specs.ListenRules.{rules_of, deadline_from}
use Rattle.taps_listening.specs.Served.{MayAnswer, HasServed, IsServedOut, KeepsServing}
use Rattle.taps_listening.specs.Serving.{Served, first_served}
use Rattle.taps_listening.proofs.Hearing.{listening_to, serves_in, hearing_ends, hearing_cut, may_answer}
use Rattle.taps_listening.proofs.Keeping.{keeps_changes, keeps_on, keeps_wider}
use Rattle.taps_listening.proofs.Serves.{served_on}
use Rattle.taps_listening.proofs.answering.talk.Goals as goal

pub returns-in-Ok-None-clause-served : goal.returns-in-Ok-None-clause-served
returns-in-Ok-None-clause-served g c =
    let fits : Fits (is_stream c.args.connection.now.stack) (layers_of (λ vtable. (g.dyn-1.0.entry vtable).1) c.args.connection.now.chain) c.args.service.now.piece (unread_of c.args.connection.now.receiver.source) = fits_first c.args.connection.now.stack (layers_of (λ vtable. (g.dyn-1.0.entry vtable).1) c.args.connection.now.chain) c.args.service.now.piece (unread_of c.args.connection.now.receiver.source) c.requires.unread in
    let first : Represents (layers_of (λ vtable. (g.dyn-1.0.entry vtable).1) c.args.connection.now.chain) c.args.connection.now.receiver.ended (unread_of c.args.connection.now.receiver.source) [] [] = first_represents (layers_of (λ vtable. (g.dyn-1.0.entry vtable).1) c.args.connection.now.chain) c.args.connection.now.stack c.args.service.now.piece (length (layers_of (λ vtable. (g.dyn-1.0.entry vtable).1) c.args.connection.now.chain)) c.args.connection.now.receiver.ended (unread_of c.args.connection.now.receiver.source) c.requires.goes_on c.requires.unread in
    let begun : Represents (layers_of (λ vtable. (g.dyn-1.0.entry vtable).1) c.args.connection.now.chain) c.args.connection.now.receiver.ended (unread_of c.args.connection.now.receiver.source) [] (map message c.new-heard.result.items) = subst (λ v. Represents (layers_of (λ vtable. (g.dyn-1.0.entry vtable).1) c.args.connection.now.chain) c.args.connection.now.receiver.ended (unread_of c.args.connection.now.receiver.source) [] (map message v)) (sym c.new-heard.ensures.items) first in
    let h0 : HasHeard g.N.Sockets.Becomes (decoding_of (is_stream c.args.connection.now.stack) (layers_of (λ vtable. (g.dyn-1.0.entry vtable).1) c.args.connection.now.chain)) c.args.net.now c.hear_until.new.net c.args.connection.now.socket c.args.service.now.piece c.deadline-until.result c.args.service.now.expect [] c.args.connection.now.receiver.ended (Ok c.in-Ok-None.field-0) c.hear_until.new.heard.items = c.in-Ok-None.ensures.heard c.args.service.now.piece [] [] fits begun in
    let h1 : HasHeard g.N.Sockets.Becomes (decoding_of (is_stream c.args.service.now.target.stack) (layers_of (λ vtable. (g.dyn-1.0.entry vtable).1) c.args.connection.now.chain)) c.args.net.now c.hear_until.new.net c.args.connection.now.socket c.args.service.now.piece c.deadline-until.result c.args.service.now.expect [] c.args.connection.now.receiver.ended (Ok c.in-Ok-None.field-0) c.hear_until.new.heard.items = subst (λ v. HasHeard g.N.Sockets.Becomes (decoding_of (is_stream v) (layers_of (λ vtable. (g.dyn-1.0.entry vtable).1) c.args.connection.now.chain)) c.args.net.now c.hear_until.new.net c.args.connection.now.socket c.args.service.now.piece c.deadline-until.result c.args.service.now.expect [] c.args.connection.now.receiver.ended (Ok c.in-Ok-None.field-0) c.hear_until.new.heard.items) c.requires.stack h0 in
    let h2 : HasHeard g.N.Sockets.Becomes (decoding_of (is_stream c.args.service.now.target.stack) (layers_of (λ vtable. (g.dyn-1.0.entry vtable).1) c.args.connection.now.chain)) c.args.net.now c.hear_until.new.net c.args.connection.now.socket c.args.service.now.piece c.deadline-until.result c.args.service.now.expect [] false (Ok c.in-Ok-None.field-0) c.hear_until.new.heard.items = subst (λ v. HasHeard g.N.Sockets.Becomes (decoding_of (is_stream c.args.service.now.target.stack) (layers_of (λ vtable. (g.dyn-1.0.entry vtable).1) c.args.connection.now.chain)) c.args.net.now c.hear_until.new.net c.args.connection.now.socket c.args.service.now.piece c.deadline-until.result c.args.service.now.expect [] v (Ok c.in-Ok-None.field-0) c.hear_until.new.heard.items) c.requires.goes_on h1 in
    let h3 : HasHeard g.N.Sockets.Becomes (decoding_of (is_stream c.args.service.now.target.stack) (layers_of (λ vtable. (g.dyn-1.0.entry vtable).1) c.args.connection.now.chain)) c.args.net.now c.hear_until.new.net c.args.connection.now.socket c.args.service.now.piece (deadline_from (rules_of c.args.service.now (layers_of (λ vtable. (g.dyn-1.0.entry vtable).1) c.args.connection.now.chain) c.args.messages.now) c.args.since) c.args.service.now.expect [] false (Ok c.in-Ok-None.field-0) c.hear_until.new.heard.items = subst (λ v. HasHeard g.N.Sockets.Becomes (decoding_of (is_stream c.args.service.now.target.stack) (layers_of (λ vtable. (g.dyn-1.0.entry vtable).1) c.args.connection.now.chain)) c.args.net.now c.hear_until.new.net c.args.connection.now.socket c.args.service.now.piece v c.args.service.now.expect [] false (Ok c.in-Ok-None.field-0) c.hear_until.new.heard.items) c.deadline-until.ensures.is h2 in
    let h4 : HasHeard g.N.Sockets.Becomes (decoding_of (is_stream c.args.service.now.target.stack) (layers_of (λ vtable. (g.dyn-1.0.entry vtable).1) c.args.connection.now.chain)) c.args.net.now c.hear_until.new.net c.args.connection.now.socket c.args.service.now.piece (deadline_from (rules_of c.args.service.now (layers_of (λ vtable. (g.dyn-1.0.entry vtable).1) c.args.connection.now.chain) c.args.messages.now) c.args.since) c.args.service.now.expect [] false (Ok None) c.hear_until.new.heard.items = subst (λ v. HasHeard g.N.Sockets.Becomes (decoding_of (is_stream c.args.service.now.target.stack) (layers_of (λ vtable. (g.dyn-1.0.entry vtable).1) c.args.connection.now.chain)) c.args.net.now c.hear_until.new.net c.args.connection.now.socket c.args.service.now.piece (deadline_from (rules_of c.args.service.now (layers_of (λ vtable. (g.dyn-1.0.entry vtable).1) c.args.connection.now.chain) c.args.messages.now) c.args.since) c.args.service.now.expect [] false (Ok v) c.hear_until.new.heard.items) c.in-Ok-None.field-0-is h3 in
    let may = may_answer (rules_of c.args.service.now (layers_of (λ vtable. (g.dyn-1.0.entry vtable).1) c.args.connection.now.chain) c.args.messages.now) c.args.place c.args.connection.now.socket c.args.since g.N.Sockets.Becomes c.args.net.now c.hear_until.new.net c.hear_until.new.heard.items h4 in
    let may1 : MayAnswer (rules_of c.args.service.now (layers_of (λ vtable. (g.dyn-1.0.entry vtable).1) c.args.connection.now.chain) c.args.messages.now) c.args.place c.args.connection.now.socket c.deadline-until.result c.hear_until.new.heard.items (listening_to c.args.connection.now.socket c.args.since h4.calls) = subst (λ v. MayAnswer (rules_of c.args.service.now (layers_of (λ vtable. (g.dyn-1.0.entry vtable).1) c.args.connection.now.chain) c.args.messages.now) c.args.place c.args.connection.now.socket v c.hear_until.new.heard.items (listening_to c.args.connection.now.socket c.args.since h4.calls)) (sym c.deadline-until.ensures.is) may in
    let answers : (c' : Served) → MayAnswer (rules_of c.args.service.now (layers_of (λ vtable. (g.dyn-1.0.entry vtable).1) c.args.connection.now.chain) c.args.messages.now) c.args.place c.args.connection.now.socket c.deadline-until.result c.hear_until.new.heard.items c' → HasServed g.N.Sockets.Becomes (rules_of c.args.service.now (layers_of (λ vtable. (g.dyn-1.0.entry vtable).1) c.args.connection.now.chain) c.args.messages.now) c.args.place c.hear_until.new.net c.answer.new.net c' c.answer.result =
    subst (λ x. (c' : Served) → MayAnswer (rules_of c.args.service.now (layers_of (λ vtable. (g.dyn-1.0.entry vtable).1) x.chain) c.args.messages.now) c.args.place x.socket c.deadline-until.result c.hear_until.new.heard.items c' → HasServed g.N.Sockets.Becomes (rules_of c.args.service.now (layers_of (λ vtable. (g.dyn-1.0.entry vtable).1) x.chain) c.args.messages.now) c.args.place c.hear_until.new.net c.answer.new.net c' c.answer.result) c.hear_until.ensures.kept c.answer.ensures.answered in
    served_on g.N.Sockets.Becomes (rules_of c.args.service.now (layers_of (λ vtable. (g.dyn-1.0.entry vtable).1) c.args.connection.now.chain) c.args.messages.now) c.args.place c.args.net.now c.hear_until.new.net c.answer.new.net (first_served c.args.connection.now.socket c.args.since) (listening_to c.args.connection.now.socket c.args.since h4.calls) c.answer.result g.met.N.Sockets.becomes_on
    (serves_in (rules_of c.args.service.now (layers_of (λ vtable. (g.dyn-1.0.entry vtable).1) c.args.connection.now.chain) c.args.messages.now) c.args.place c.args.connection.now.socket c.args.since g.N.Sockets.Becomes c.args.net.now c.hear_until.new.net (Ok None) c.hear_until.new.heard.items h4)
    (answers (listening_to c.args.connection.now.socket c.args.since h4.calls) may1)

pub returns-in-Ok-None-clause-keeps : goal.returns-in-Ok-None-clause-keeps
returns-in-Ok-None-clause-keeps g c =
    keeps_on c.args.connection.now.socket 1 2 3 (g.N.Sockets.net c.args.net.now) (g.N.Sockets.net c.hear_until.new.net) (g.N.Sockets.net c.answer.new.net) (omega arith) (keeps_changes c.args.connection.now.socket 1 (g.N.Sockets.net c.args.net.now) (g.N.Sockets.net c.hear_until.new.net) c.hear_until.ensures.changes)
    (subst (λ x. KeepsServing x.socket 2 (g.N.Sockets.net c.hear_until.new.net) (g.N.Sockets.net c.answer.new.net)) c.hear_until.ensures.kept c.answer.ensures.keeps)

pub returns-in-Ok-Some-clause-served : goal.returns-in-Ok-Some-clause-served
returns-in-Ok-Some-clause-served g c =
    let fits : Fits (is_stream c.args.connection.now.stack) (layers_of (λ vtable. (g.dyn-1.0.entry vtable).1) c.args.connection.now.chain) c.args.service.now.piece (unread_of c.args.connection.now.receiver.source) = fits_first c.args.connection.now.stack (layers_of (λ vtable. (g.dyn-1.0.entry vtable).1) c.args.connection.now.chain) c.args.service.now.piece (unread_of c.args.connection.now.receiver.source) c.requires.unread in
    let first : Represents (layers_of (λ vtable. (g.dyn-1.0.entry vtable).1) c.args.connection.now.chain) c.args.connection.now.receiver.ended (unread_of c.args.connection.now.receiver.source) [] [] = first_represents (layers_of (λ vtable. (g.dyn-1.0.entry vtable).1) c.args.connection.now.chain) c.args.connection.now.stack c.args.service.now.piece (length (layers_of (λ vtable. (g.dyn-1.0.entry vtable).1) c.args.connection.now.chain)) c.args.connection.now.receiver.ended (unread_of c.args.connection.now.receiver.source) c.requires.goes_on c.requires.unread in
    let begun : Represents (layers_of (λ vtable. (g.dyn-1.0.entry vtable).1) c.args.connection.now.chain) c.args.connection.now.receiver.ended (unread_of c.args.connection.now.receiver.source) [] (map message c.new-heard.result.items) = subst (λ v. Represents (layers_of (λ vtable. (g.dyn-1.0.entry vtable).1) c.args.connection.now.chain) c.args.connection.now.receiver.ended (unread_of c.args.connection.now.receiver.source) [] (map message v)) (sym c.new-heard.ensures.items) first in
    let h0 : HasHeard g.N.Sockets.Becomes (decoding_of (is_stream c.args.connection.now.stack) (layers_of (λ vtable. (g.dyn-1.0.entry vtable).1) c.args.connection.now.chain)) c.args.net.now c.hear_until.new.net c.args.connection.now.socket c.args.service.now.piece c.deadline-until.result c.args.service.now.expect [] c.args.connection.now.receiver.ended (Ok c.in-Ok-Some.field-0) c.hear_until.new.heard.items = c.in-Ok-Some.ensures.heard c.args.service.now.piece [] [] fits begun in
    let h1 : HasHeard g.N.Sockets.Becomes (decoding_of (is_stream c.args.service.now.target.stack) (layers_of (λ vtable. (g.dyn-1.0.entry vtable).1) c.args.connection.now.chain)) c.args.net.now c.hear_until.new.net c.args.connection.now.socket c.args.service.now.piece c.deadline-until.result c.args.service.now.expect [] c.args.connection.now.receiver.ended (Ok c.in-Ok-Some.field-0) c.hear_until.new.heard.items = subst (λ v. HasHeard g.N.Sockets.Becomes (decoding_of (is_stream v) (layers_of (λ vtable. (g.dyn-1.0.entry vtable).1) c.args.connection.now.chain)) c.args.net.now c.hear_until.new.net c.args.connection.now.socket c.args.service.now.piece c.deadline-until.result c.args.service.now.expect [] c.args.connection.now.receiver.ended (Ok c.in-Ok-Some.field-0) c.hear_until.new.heard.items) c.requires.stack h0 in
    let h2 : HasHeard g.N.Sockets.Becomes (decoding_of (is_stream c.args.service.now.target.stack) (layers_of (λ vtable. (g.dyn-1.0.entry vtable).1) c.args.connection.now.chain)) c.args.net.now c.hear_until.new.net c.args.connection.now.socket c.args.service.now.piece c.deadline-until.result c.args.service.now.expect [] false (Ok c.in-Ok-Some.field-0) c.hear_until.new.heard.items = subst (λ v. HasHeard g.N.Sockets.Becomes (decoding_of (is_stream c.args.service.now.target.stack) (layers_of (λ vtable. (g.dyn-1.0.entry vtable).1) c.args.connection.now.chain)) c.args.net.now c.hear_until.new.net c.args.connection.now.socket c.args.service.now.piece c.deadline-until.result c.args.service.now.expect [] v (Ok c.in-Ok-Some.field-0) c.hear_until.new.heard.items) c.requires.goes_on h1 in
    let h3 : HasHeard g.N.Sockets.Becomes (decoding_of (is_stream c.args.service.now.target.stack) (layers_of (λ vtable. (g.dyn-1.0.entry vtable).1) c.args.connection.now.chain)) c.args.net.now c.hear_until.new.net c.args.connection.now.socket c.args.service.now.piece (deadline_from (rules_of c.args.service.now (layers_of (λ vtable. (g.dyn-1.0.entry vtable).1) c.args.connection.now.chain) c.args.messages.now) c.args.since) c.args.service.now.expect [] false (Ok c.in-Ok-Some.field-0) c.hear_until.new.heard.items = subst (λ v. HasHeard g.N.Sockets.Becomes (decoding_of (is_stream c.args.service.now.target.stack) (layers_of (λ vtable. (g.dyn-1.0.entry vtable).1) c.args.connection.now.chain)) c.args.net.now c.hear_until.new.net c.args.connection.now.socket c.args.service.now.piece v c.args.service.now.expect [] false (Ok c.in-Ok-Some.field-0) c.hear_until.new.heard.items) c.deadline-until.ensures.is h2 in
    let h4 : HasHeard g.N.Sockets.Becomes (decoding_of (is_stream c.args.service.now.target.stack) (layers_of (λ vtable. (g.dyn-1.0.entry vtable).1) c.args.connection.now.chain)) c.args.net.now c.hear_until.new.net c.args.connection.now.socket c.args.service.now.piece (deadline_from (rules_of c.args.service.now (layers_of (λ vtable. (g.dyn-1.0.entry vtable).1) c.args.connection.now.chain) c.args.messages.now) c.args.since) c.args.service.now.expect [] false (Ok (Some c.in-Ok-Some.outcome)) c.hear_until.new.heard.items = subst (λ v. HasHeard g.N.Sockets.Becomes (decoding_of (is_stream c.args.service.now.target.stack) (layers_of (λ vtable. (g.dyn-1.0.entry vtable).1) c.args.connection.now.chain)) c.args.net.now c.hear_until.new.net c.args.connection.now.socket c.args.service.now.piece (deadline_from (rules_of c.args.service.now (layers_of (λ vtable. (g.dyn-1.0.entry vtable).1) c.args.connection.now.chain) c.args.messages.now) c.args.since) c.args.service.now.expect [] false (Ok v) c.hear_until.new.heard.items) c.in-Ok-Some.field-0-is h3 in
    let none : c.sent.result ≡ 0 = c.sent.ensures ∙ (ap (λ v. v.sent) c.hear_until.ensures.sender ∙ ap (λ v. v.sent) c.requires.new) in
    subst (λ v. IsServedOut g.N.Sockets.Becomes (rules_of c.args.service.now (layers_of (λ vtable. (g.dyn-1.0.entry vtable).1) c.args.connection.now.chain) c.args.messages.now) c.args.place c.args.net.now c.hear_until.new.net (first_served c.args.connection.now.socket c.args.since) c.in-Ok-Some.outcome v c.hear_until.new.heard.items) (sym none)
    (hearing_ends (rules_of c.args.service.now (layers_of (λ vtable. (g.dyn-1.0.entry vtable).1) c.args.connection.now.chain) c.args.messages.now) c.args.place c.args.connection.now.socket c.args.since g.N.Sockets.Becomes c.args.net.now c.hear_until.new.net c.in-Ok-Some.outcome c.hear_until.new.heard.items h4)

pub returns-in-Ok-Some-clause-keeps : goal.returns-in-Ok-Some-clause-keeps
returns-in-Ok-Some-clause-keeps g c =
    keeps_wider c.args.connection.now.socket 1 3 (g.N.Sockets.net c.args.net.now) (g.N.Sockets.net c.hear_until.new.net) (omega arith) (keeps_changes c.args.connection.now.socket 1 (g.N.Sockets.net c.args.net.now) (g.N.Sockets.net c.hear_until.new.net) c.hear_until.ensures.changes)

pub returns-in-Err-clause-served : goal.returns-in-Err-clause-served
returns-in-Err-clause-served g c =
    let fits : Fits (is_stream c.args.connection.now.stack) (layers_of (λ vtable. (g.dyn-1.0.entry vtable).1) c.args.connection.now.chain) c.args.service.now.piece (unread_of c.args.connection.now.receiver.source) = fits_first c.args.connection.now.stack (layers_of (λ vtable. (g.dyn-1.0.entry vtable).1) c.args.connection.now.chain) c.args.service.now.piece (unread_of c.args.connection.now.receiver.source) c.requires.unread in
    let first : Represents (layers_of (λ vtable. (g.dyn-1.0.entry vtable).1) c.args.connection.now.chain) c.args.connection.now.receiver.ended (unread_of c.args.connection.now.receiver.source) [] [] = first_represents (layers_of (λ vtable. (g.dyn-1.0.entry vtable).1) c.args.connection.now.chain) c.args.connection.now.stack c.args.service.now.piece (length (layers_of (λ vtable. (g.dyn-1.0.entry vtable).1) c.args.connection.now.chain)) c.args.connection.now.receiver.ended (unread_of c.args.connection.now.receiver.source) c.requires.goes_on c.requires.unread in
    let begun : Represents (layers_of (λ vtable. (g.dyn-1.0.entry vtable).1) c.args.connection.now.chain) c.args.connection.now.receiver.ended (unread_of c.args.connection.now.receiver.source) [] (map message c.new-heard.result.items) = subst (λ v. Represents (layers_of (λ vtable. (g.dyn-1.0.entry vtable).1) c.args.connection.now.chain) c.args.connection.now.receiver.ended (unread_of c.args.connection.now.receiver.source) [] (map message v)) (sym c.new-heard.ensures.items) first in
    let h0 : HasHeard g.N.Sockets.Becomes (decoding_of (is_stream c.args.connection.now.stack) (layers_of (λ vtable. (g.dyn-1.0.entry vtable).1) c.args.connection.now.chain)) c.args.net.now c.hear_until.new.net c.args.connection.now.socket c.args.service.now.piece c.deadline-until.result c.args.service.now.expect [] c.args.connection.now.receiver.ended (Err c.in-Err.none) c.hear_until.new.heard.items = c.in-Err.ensures.heard c.args.service.now.piece [] [] fits begun in
    let h1 : HasHeard g.N.Sockets.Becomes (decoding_of (is_stream c.args.service.now.target.stack) (layers_of (λ vtable. (g.dyn-1.0.entry vtable).1) c.args.connection.now.chain)) c.args.net.now c.hear_until.new.net c.args.connection.now.socket c.args.service.now.piece c.deadline-until.result c.args.service.now.expect [] c.args.connection.now.receiver.ended (Err c.in-Err.none) c.hear_until.new.heard.items = subst (λ v. HasHeard g.N.Sockets.Becomes (decoding_of (is_stream v) (layers_of (λ vtable. (g.dyn-1.0.entry vtable).1) c.args.connection.now.chain)) c.args.net.now c.hear_until.new.net c.args.connection.now.socket c.args.service.now.piece c.deadline-until.result c.args.service.now.expect [] c.args.connection.now.receiver.ended (Err c.in-Err.none) c.hear_until.new.heard.items) c.requires.stack h0 in
    let h2 : HasHeard g.N.Sockets.Becomes (decoding_of (is_stream c.args.service.now.target.stack) (layers_of (λ vtable. (g.dyn-1.0.entry vtable).1) c.args.connection.now.chain)) c.args.net.now c.hear_until.new.net c.args.connection.now.socket c.args.service.now.piece c.deadline-until.result c.args.service.now.expect [] false (Err c.in-Err.none) c.hear_until.new.heard.items = subst (λ v. HasHeard g.N.Sockets.Becomes (decoding_of (is_stream c.args.service.now.target.stack) (layers_of (λ vtable. (g.dyn-1.0.entry vtable).1) c.args.connection.now.chain)) c.args.net.now c.hear_until.new.net c.args.connection.now.socket c.args.service.now.piece c.deadline-until.result c.args.service.now.expect [] v (Err c.in-Err.none) c.hear_until.new.heard.items) c.requires.goes_on h1 in
    let h3 : HasHeard g.N.Sockets.Becomes (decoding_of (is_stream c.args.service.now.target.stack) (layers_of (λ vtable. (g.dyn-1.0.entry vtable).1) c.args.connection.now.chain)) c.args.net.now c.hear_until.new.net c.args.connection.now.socket c.args.service.now.piece (deadline_from (rules_of c.args.service.now (layers_of (λ vtable. (g.dyn-1.0.entry vtable).1) c.args.connection.now.chain) c.args.messages.now) c.args.since) c.args.service.now.expect [] false (Err c.in-Err.none) c.hear_until.new.heard.items = subst (λ v. HasHeard g.N.Sockets.Becomes (decoding_of (is_stream c.args.service.now.target.stack) (layers_of (λ vtable. (g.dyn-1.0.entry vtable).1) c.args.connection.now.chain)) c.args.net.now c.hear_until.new.net c.args.connection.now.socket c.args.service.now.piece v c.args.service.now.expect [] false (Err c.in-Err.none) c.hear_until.new.heard.items) c.deadline-until.ensures.is h2 in
    hearing_cut (rules_of c.args.service.now (layers_of (λ vtable. (g.dyn-1.0.entry vtable).1) c.args.connection.now.chain) c.args.messages.now) c.args.place c.args.connection.now.socket c.args.since g.N.Sockets.Becomes c.args.net.now c.hear_until.new.net c.in-Err.none c.hear_until.new.heard.items h3

pub returns-in-Err-clause-keeps : goal.returns-in-Err-clause-keeps
returns-in-Err-clause-keeps g c =
    keeps_wider c.args.connection.now.socket 1 3 (g.N.Sockets.net c.args.net.now) (g.N.Sockets.net c.hear_until.new.net) (omega arith) (keeps_changes c.args.connection.now.socket 1 (g.N.Sockets.net c.args.net.now) (g.N.Sockets.net c.hear_until.new.net) c.hear_until.ensures.changes)
