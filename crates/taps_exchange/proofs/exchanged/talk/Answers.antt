use Rattle.std.proofs.Common.{◌≡◌, ◌≤◌, [], false, length, sym, ap, subst, ◌∙◌, arith}
use Rattle.std.specs.Prelude.{map, Ok, Err}
use Rattle.taps_chain.specs.ChainLaws.{AreFramers}
use Rattle.taps_chain.specs.Layers.{layers_of}
use Rattle.taps_stack.specs.StackTable.{is_stream}
use Rattle.taps_connection.specs.Conditions.{IsHeld}
use Rattle.taps_connection.specs.Encodings.{encoding_of}
use Rattle.taps_connection.specs.Histories.{Represents, message}
use Rattle.taps_connection.specs.Inboxes.{IsSoundReceiver}
use Rattle.taps_connection.specs.Senders.{queued, rest_of, rest_by}
use Rattle.taps_connection.specs.Sources.{unread_of}
use Rattle.taps_connection.specs.Unread.{count_given}
use Rattle.taps_connection.proofs.Reading.{first_represents}
use Rattle.taps_exchange.specs.Changes.{Changes}
use Rattle.taps_exchange.specs.Decodings.{decoding_of}
use Rattle.taps_exchange.specs.Exchanged.{member_over, outcome_or, IsTalk}
use Rattle.taps_exchange.specs.Hearings.{Fits, HasHeard}
use Rattle.taps_exchange.specs.Sendings.{HasSent, IfAllSent}
use Rattle.taps_exchange.proofs.Behind.{changes_more, changes_wider}
use Rattle.taps_exchange.proofs.Kept.{nothing_heard, fits_first}
use Rattle.taps_exchange.proofs.HearingOn.{kept_sender, kept_sent, less_than_one}
use Rattle.taps_exchange.proofs.Exchanging.{fresh_is, sending_ends, sending_cut, hearing_ends, hearing_cut}
use Rattle.taps_exchange.proofs.exchanged.talk.Goals as goal

pub send_all-requires-clause-sound : goal.send_all-requires-clause-sound
send_all-requires-clause-sound g c =
    c.requires.sends

pub send_all-requires-clause-held : goal.send_all-requires-clause-held
send_all-requires-clause-held g c =
    c.requires.held

pub send_all-requires-clause-spare : goal.send_all-requires-clause-spare
send_all-requires-clause-spare g c =
    c.requires.spare

pub send_all-requires-clause-until : goal.send_all-requires-clause-until
send_all-requires-clause-until g c =
    c.requires.until

pub send_all-requires-clause-room : goal.send_all-requires-clause-room
send_all-requires-clause-room g c =
    let none : rest_of c.args.connection.now.sender ≡ 0 = ap rest_by c.requires.fresh.begun in omega (arith, none)

pub returns-in-Ok-Some-clause-talked : goal.returns-in-Ok-Some-clause-talked
returns-in-Ok-Some-clause-talked g c =
    λ piece e.
    let talk : IsTalk g.N.Sockets.Becomes c.args.net.now c.send_all.new.net (member_over c.args.connection.now.socket c.args.connection.now.stack (layers_of (λ vtable. (g.dyn-1.0.entry vtable).1) c.args.connection.now.chain) (queued c.args.connection.now.sender) c.args.connection.now.sender.moment c.args.needs piece c.args.until) c.in-Ok-Some.outcome c.send_all.new.connection.sender.sent [] =
    sending_ends g.N.Sockets.Becomes (member_over c.args.connection.now.socket c.args.connection.now.stack (layers_of (λ vtable. (g.dyn-1.0.entry vtable).1) c.args.connection.now.chain) (queued c.args.connection.now.sender) c.args.connection.now.sender.moment c.args.needs piece c.args.until) c.args.net.now c.send_all.new.net c.args.connection.now.sender c.send_all.new.connection.sender (fresh_is (encoding_of (is_stream c.args.connection.now.stack) (layers_of (λ vtable. (g.dyn-1.0.entry vtable).1) c.args.connection.now.chain)) c.args.connection.now.sender c.requires.fresh) c.in-Ok-Some.outcome (nothing_heard (is_stream c.args.connection.now.stack) (layers_of (λ vtable. (g.dyn-1.0.entry vtable).1) c.args.connection.now.chain) c.args.needs c.requires.framers) (subst (λ v. HasSent g.N.Sockets.Becomes (encoding_of (is_stream c.args.connection.now.stack) (layers_of (λ vtable. (g.dyn-1.0.entry vtable).1) c.args.connection.now.chain)) c.args.net.now c.send_all.new.net c.args.connection.now.socket c.args.until 0 c.args.connection.now.sender (Ok v) c.send_all.new.connection.sender) c.in-Ok-Some.field-0-is c.in-Ok-Some.ensures.sent) in
    subst (λ v. IsTalk g.N.Sockets.Becomes c.args.net.now c.send_all.new.net (member_over c.args.connection.now.socket c.args.connection.now.stack (layers_of (λ vtable. (g.dyn-1.0.entry vtable).1) c.args.connection.now.chain) (queued c.args.connection.now.sender) c.args.connection.now.sender.moment c.args.needs piece c.args.until) c.in-Ok-Some.outcome v c.new.result.items) (sym c.sent.ensures) (subst (λ v. IsTalk g.N.Sockets.Becomes c.args.net.now c.send_all.new.net (member_over c.args.connection.now.socket c.args.connection.now.stack (layers_of (λ vtable. (g.dyn-1.0.entry vtable).1) c.args.connection.now.chain) (queued c.args.connection.now.sender) c.args.connection.now.sender.moment c.args.needs piece c.args.until) c.in-Ok-Some.outcome c.send_all.new.connection.sender.sent v) (sym c.new.ensures.items) talk)

pub returns-in-Ok-Some-clause-changes : goal.returns-in-Ok-Some-clause-changes
returns-in-Ok-Some-clause-changes g c =
    changes_wider c.args.connection.now.socket 1 2 (g.N.Sockets.net c.args.net.now) (g.N.Sockets.net c.send_all.new.net) (omega arith) c.in-Ok-Some.ensures.changes

pub returns-in-Ok-Some-clause-kept : goal.returns-in-Ok-Some-clause-kept
returns-in-Ok-Some-clause-kept g c =
    kept_sender c.args.connection.now c.send_all.new.connection c.in-Ok-Some.ensures.kept

pub returns-in-Err-clause-talked : goal.returns-in-Err-clause-talked
returns-in-Err-clause-talked g c =
    λ piece e. sending_cut g.N.Sockets.Becomes (member_over c.args.connection.now.socket c.args.connection.now.stack (layers_of (λ vtable. (g.dyn-1.0.entry vtable).1) c.args.connection.now.chain) (queued c.args.connection.now.sender) c.args.connection.now.sender.moment c.args.needs piece c.args.until) c.args.net.now c.send_all.new.net c.args.connection.now.sender c.send_all.new.connection.sender (fresh_is (encoding_of (is_stream c.args.connection.now.stack) (layers_of (λ vtable. (g.dyn-1.0.entry vtable).1) c.args.connection.now.chain)) c.args.connection.now.sender c.requires.fresh) c.in-Err.none c.in-Err.ensures.sent

pub returns-in-Err-clause-changes : goal.returns-in-Err-clause-changes
returns-in-Err-clause-changes g c =
    changes_wider c.args.connection.now.socket 1 2 (g.N.Sockets.net c.args.net.now) (g.N.Sockets.net c.send_all.new.net) (omega arith) c.in-Err.ensures.changes

pub returns-in-Err-clause-kept : goal.returns-in-Err-clause-kept
returns-in-Err-clause-kept g c =
    kept_sender c.args.connection.now c.send_all.new.connection c.in-Err.ensures.kept

pub hear_until-requires-clause-framers : goal.hear_until-requires-clause-framers
hear_until-requires-clause-framers g c =
    subst (λ x. AreFramers (layers_of (λ vtable. (g.dyn-1.0.entry vtable).1) x.chain)) (sym c.send_all.ensures.kept) c.requires.framers

pub hear_until-requires-clause-sound : goal.hear_until-requires-clause-sound
hear_until-requires-clause-sound g c =
    subst (λ x. IsSoundReceiver (λ vtable. (g.dyn-1.0.entry vtable).1) x.stack (layers_of (λ vtable. (g.dyn-1.0.entry vtable).1) x.chain) x.receiver) (sym c.send_all.ensures.kept) c.requires.hears

pub hear_until-requires-clause-held : goal.hear_until-requires-clause-held
hear_until-requires-clause-held g c =
    let held : IsHeld (g.N.Sockets.net c.send_all.new.net).trace c.args.connection.now.socket (is_stream c.args.connection.now.stack) c.send_all.new.connection.sender.shut c.args.connection.now.receiver.ended = subst (λ v. IfAllSent (Ok v) (IsHeld (g.N.Sockets.net c.send_all.new.net).trace c.args.connection.now.socket (is_stream c.args.connection.now.stack) c.send_all.new.connection.sender.shut c.args.connection.now.receiver.ended)) c.in-Ok-None.field-0-is c.in-Ok-None.ensures.held in
    subst (λ x. IsHeld (g.N.Sockets.net c.send_all.new.net).trace x.socket (is_stream x.stack) x.sender.shut x.receiver.ended) (sym c.send_all.ensures.kept) held

pub hear_until-requires-clause-few : goal.hear_until-requires-clause-few
hear_until-requires-clause-few g c =
    subst (λ x. count_given (unread_of x.receiver.source) ≤ c.args.needs) (sym c.send_all.ensures.kept) (let none = c.requires.none_given in omega (arith, none))

pub hear_until-requires-clause-spare : goal.hear_until-requires-clause-spare
hear_until-requires-clause-spare g c =
    let s = c.in-Ok-None.ensures.changes.spare in let few = c.in-Ok-None.ensures.changes.few in let all = c.requires.spare in let one = less_than_one c.send_all.new.connection.receiver.ended in omega (arith, s, few, all, one)

pub hear_until-requires-clause-until : goal.hear_until-requires-clause-until
hear_until-requires-clause-until g c =
    c.requires.until

pub returns-in-Ok-clause-talked : goal.returns-in-Ok-clause-talked
returns-in-Ok-clause-talked g c =
    λ piece e.
    let fits : Fits (is_stream c.send_all.new.connection.stack) (layers_of (λ vtable. (g.dyn-1.0.entry vtable).1) c.send_all.new.connection.chain) piece (unread_of c.send_all.new.connection.receiver.source) =
    subst (λ x. Fits (is_stream x.stack) (layers_of (λ vtable. (g.dyn-1.0.entry vtable).1) x.chain) piece (unread_of x.receiver.source)) (sym c.send_all.ensures.kept) (fits_first c.args.connection.now.stack (layers_of (λ vtable. (g.dyn-1.0.entry vtable).1) c.args.connection.now.chain) piece (unread_of c.args.connection.now.receiver.source) e) in
    let first : Represents (layers_of (λ vtable. (g.dyn-1.0.entry vtable).1) c.args.connection.now.chain) c.args.connection.now.receiver.ended (unread_of c.args.connection.now.receiver.source) [] [] = first_represents (layers_of (λ vtable. (g.dyn-1.0.entry vtable).1) c.args.connection.now.chain) c.args.connection.now.stack piece (length (layers_of (λ vtable. (g.dyn-1.0.entry vtable).1) c.args.connection.now.chain)) c.args.connection.now.receiver.ended (unread_of c.args.connection.now.receiver.source) c.requires.goes_on e in
    let kept : Represents (layers_of (λ vtable. (g.dyn-1.0.entry vtable).1) c.send_all.new.connection.chain) c.send_all.new.connection.receiver.ended (unread_of c.send_all.new.connection.receiver.source) [] [] =
    subst (λ x. Represents (layers_of (λ vtable. (g.dyn-1.0.entry vtable).1) x.chain) x.receiver.ended (unread_of x.receiver.source) [] []) (sym c.send_all.ensures.kept) first in
    let now : Represents (layers_of (λ vtable. (g.dyn-1.0.entry vtable).1) c.send_all.new.connection.chain) c.send_all.new.connection.receiver.ended (unread_of c.send_all.new.connection.receiver.source) [] (map message c.new-heard.result.items) =
    subst (λ l. Represents (layers_of (λ vtable. (g.dyn-1.0.entry vtable).1) c.send_all.new.connection.chain) c.send_all.new.connection.receiver.ended (unread_of c.send_all.new.connection.receiver.source) [] (map message l)) (sym c.new-heard.ensures.items) kept in
    let there : HasHeard g.N.Sockets.Becomes (decoding_of (is_stream c.args.connection.now.stack) (layers_of (λ vtable. (g.dyn-1.0.entry vtable).1) c.args.connection.now.chain)) c.send_all.new.net c.hear_until.new.net c.args.connection.now.socket piece c.args.until c.args.needs [] c.args.connection.now.receiver.ended (Ok c.in-Ok.stopped) c.hear_until.new.heard.items =
    subst (λ x. HasHeard g.N.Sockets.Becomes (decoding_of (is_stream x.stack) (layers_of (λ vtable. (g.dyn-1.0.entry vtable).1) x.chain)) c.send_all.new.net c.hear_until.new.net x.socket piece c.args.until c.args.needs [] x.receiver.ended (Ok c.in-Ok.stopped) c.hear_until.new.heard.items) c.send_all.ensures.kept
    (c.in-Ok.ensures.heard piece [] [] fits now) in
    let here : HasHeard g.N.Sockets.Becomes (decoding_of (is_stream c.args.connection.now.stack) (layers_of (λ vtable. (g.dyn-1.0.entry vtable).1) c.args.connection.now.chain)) c.send_all.new.net c.hear_until.new.net c.args.connection.now.socket piece c.args.until c.args.needs [] false (Ok c.in-Ok.stopped) c.hear_until.new.heard.items =
    subst (λ b. HasHeard g.N.Sockets.Becomes (decoding_of (is_stream c.args.connection.now.stack) (layers_of (λ vtable. (g.dyn-1.0.entry vtable).1) c.args.connection.now.chain)) c.send_all.new.net c.hear_until.new.net c.args.connection.now.socket piece c.args.until c.args.needs [] b (Ok c.in-Ok.stopped) c.hear_until.new.heard.items) c.requires.goes_on there in
    let talk : IsTalk g.N.Sockets.Becomes c.args.net.now c.hear_until.new.net (member_over c.args.connection.now.socket c.args.connection.now.stack (layers_of (λ vtable. (g.dyn-1.0.entry vtable).1) c.args.connection.now.chain) (queued c.args.connection.now.sender) c.args.connection.now.sender.moment c.args.needs piece c.args.until) (outcome_or c.send_all.new.connection.sender.expired c.in-Ok.stopped) c.send_all.new.connection.sender.sent c.hear_until.new.heard.items =
    hearing_ends g.N.Sockets.Becomes (member_over c.args.connection.now.socket c.args.connection.now.stack (layers_of (λ vtable. (g.dyn-1.0.entry vtable).1) c.args.connection.now.chain) (queued c.args.connection.now.sender) c.args.connection.now.sender.moment c.args.needs piece c.args.until) c.args.net.now c.send_all.new.net c.args.connection.now.sender c.send_all.new.connection.sender (fresh_is (encoding_of (is_stream c.args.connection.now.stack) (layers_of (λ vtable. (g.dyn-1.0.entry vtable).1) c.args.connection.now.chain)) c.args.connection.now.sender c.requires.fresh) c.hear_until.new.net g.met.N.Sockets.becomes_on c.in-Ok.stopped c.hear_until.new.heard.items (subst (λ v. HasSent g.N.Sockets.Becomes (encoding_of (is_stream c.args.connection.now.stack) (layers_of (λ vtable. (g.dyn-1.0.entry vtable).1) c.args.connection.now.chain)) c.args.net.now c.send_all.new.net c.args.connection.now.socket c.args.until 0 c.args.connection.now.sender (Ok v) c.send_all.new.connection.sender) c.in-Ok-None.field-0-is c.in-Ok-None.ensures.sent) here in
    let outcome : outcome_or c.send_all.new.connection.sender.expired c.in-Ok.stopped ≡ c.outcome_or.result = ap (λ v. outcome_or v c.in-Ok.stopped) (sym c.first_expired-expired.ensures) ∙ sym c.outcome_or.ensures in
    subst (λ v. IsTalk g.N.Sockets.Becomes c.args.net.now c.hear_until.new.net (member_over c.args.connection.now.socket c.args.connection.now.stack (layers_of (λ vtable. (g.dyn-1.0.entry vtable).1) c.args.connection.now.chain) (queued c.args.connection.now.sender) c.args.connection.now.sender.moment c.args.needs piece c.args.until) c.outcome_or.result v c.hear_until.new.heard.items) (sym c.sent-sent.ensures)
    (subst (λ v. IsTalk g.N.Sockets.Becomes c.args.net.now c.hear_until.new.net (member_over c.args.connection.now.socket c.args.connection.now.stack (layers_of (λ vtable. (g.dyn-1.0.entry vtable).1) c.args.connection.now.chain) (queued c.args.connection.now.sender) c.args.connection.now.sender.moment c.args.needs piece c.args.until) v c.send_all.new.connection.sender.sent c.hear_until.new.heard.items) outcome talk)

pub returns-in-Ok-clause-changes : goal.returns-in-Ok-clause-changes
returns-in-Ok-clause-changes g c =
    changes_more c.args.connection.now.socket 1 1 2 (g.N.Sockets.net c.args.net.now) (g.N.Sockets.net c.send_all.new.net) (g.N.Sockets.net c.hear_until.new.net) (omega arith) c.in-Ok-None.ensures.changes (subst (λ x. Changes x.socket 1 (g.N.Sockets.net c.send_all.new.net) (g.N.Sockets.net c.hear_until.new.net)) c.send_all.ensures.kept c.in-Ok.ensures.changes)

pub returns-in-Ok-clause-kept : goal.returns-in-Ok-clause-kept
returns-in-Ok-clause-kept g c =
    kept_sent c.args.connection.now c.send_all.new.connection c.hear_until.new.connection c.send_all.ensures.kept c.in-Ok.ensures.kept

pub returns-in-Err-hear_until-clause-talked : goal.returns-in-Err-hear_until-clause-talked
returns-in-Err-hear_until-clause-talked g c =
    λ piece e.
    let fits : Fits (is_stream c.send_all.new.connection.stack) (layers_of (λ vtable. (g.dyn-1.0.entry vtable).1) c.send_all.new.connection.chain) piece (unread_of c.send_all.new.connection.receiver.source) =
    subst (λ x. Fits (is_stream x.stack) (layers_of (λ vtable. (g.dyn-1.0.entry vtable).1) x.chain) piece (unread_of x.receiver.source)) (sym c.send_all.ensures.kept) (fits_first c.args.connection.now.stack (layers_of (λ vtable. (g.dyn-1.0.entry vtable).1) c.args.connection.now.chain) piece (unread_of c.args.connection.now.receiver.source) e) in
    let first : Represents (layers_of (λ vtable. (g.dyn-1.0.entry vtable).1) c.args.connection.now.chain) c.args.connection.now.receiver.ended (unread_of c.args.connection.now.receiver.source) [] [] = first_represents (layers_of (λ vtable. (g.dyn-1.0.entry vtable).1) c.args.connection.now.chain) c.args.connection.now.stack piece (length (layers_of (λ vtable. (g.dyn-1.0.entry vtable).1) c.args.connection.now.chain)) c.args.connection.now.receiver.ended (unread_of c.args.connection.now.receiver.source) c.requires.goes_on e in
    let kept : Represents (layers_of (λ vtable. (g.dyn-1.0.entry vtable).1) c.send_all.new.connection.chain) c.send_all.new.connection.receiver.ended (unread_of c.send_all.new.connection.receiver.source) [] [] =
    subst (λ x. Represents (layers_of (λ vtable. (g.dyn-1.0.entry vtable).1) x.chain) x.receiver.ended (unread_of x.receiver.source) [] []) (sym c.send_all.ensures.kept) first in
    let now : Represents (layers_of (λ vtable. (g.dyn-1.0.entry vtable).1) c.send_all.new.connection.chain) c.send_all.new.connection.receiver.ended (unread_of c.send_all.new.connection.receiver.source) [] (map message c.new-heard.result.items) =
    subst (λ l. Represents (layers_of (λ vtable. (g.dyn-1.0.entry vtable).1) c.send_all.new.connection.chain) c.send_all.new.connection.receiver.ended (unread_of c.send_all.new.connection.receiver.source) [] (map message l)) (sym c.new-heard.ensures.items) kept in
    let there : HasHeard g.N.Sockets.Becomes (decoding_of (is_stream c.args.connection.now.stack) (layers_of (λ vtable. (g.dyn-1.0.entry vtable).1) c.args.connection.now.chain)) c.send_all.new.net c.hear_until.new.net c.args.connection.now.socket piece c.args.until c.args.needs [] c.args.connection.now.receiver.ended (Err c.in-Err-hear_until.none) c.hear_until.new.heard.items =
    subst (λ x. HasHeard g.N.Sockets.Becomes (decoding_of (is_stream x.stack) (layers_of (λ vtable. (g.dyn-1.0.entry vtable).1) x.chain)) c.send_all.new.net c.hear_until.new.net x.socket piece c.args.until c.args.needs [] x.receiver.ended (Err c.in-Err-hear_until.none) c.hear_until.new.heard.items) c.send_all.ensures.kept
    (c.in-Err-hear_until.ensures.heard piece [] [] fits now) in
    let here : HasHeard g.N.Sockets.Becomes (decoding_of (is_stream c.args.connection.now.stack) (layers_of (λ vtable. (g.dyn-1.0.entry vtable).1) c.args.connection.now.chain)) c.send_all.new.net c.hear_until.new.net c.args.connection.now.socket piece c.args.until c.args.needs [] false (Err c.in-Err-hear_until.none) c.hear_until.new.heard.items =
    subst (λ b. HasHeard g.N.Sockets.Becomes (decoding_of (is_stream c.args.connection.now.stack) (layers_of (λ vtable. (g.dyn-1.0.entry vtable).1) c.args.connection.now.chain)) c.send_all.new.net c.hear_until.new.net c.args.connection.now.socket piece c.args.until c.args.needs [] b (Err c.in-Err-hear_until.none) c.hear_until.new.heard.items) c.requires.goes_on there in
    hearing_cut g.N.Sockets.Becomes (member_over c.args.connection.now.socket c.args.connection.now.stack (layers_of (λ vtable. (g.dyn-1.0.entry vtable).1) c.args.connection.now.chain) (queued c.args.connection.now.sender) c.args.connection.now.sender.moment c.args.needs piece c.args.until) c.args.net.now c.send_all.new.net c.args.connection.now.sender c.send_all.new.connection.sender (fresh_is (encoding_of (is_stream c.args.connection.now.stack) (layers_of (λ vtable. (g.dyn-1.0.entry vtable).1) c.args.connection.now.chain)) c.args.connection.now.sender c.requires.fresh) c.hear_until.new.net g.met.N.Sockets.becomes_on c.in-Err-hear_until.none c.hear_until.new.heard.items (subst (λ v. HasSent g.N.Sockets.Becomes (encoding_of (is_stream c.args.connection.now.stack) (layers_of (λ vtable. (g.dyn-1.0.entry vtable).1) c.args.connection.now.chain)) c.args.net.now c.send_all.new.net c.args.connection.now.socket c.args.until 0 c.args.connection.now.sender (Ok v) c.send_all.new.connection.sender) c.in-Ok-None.field-0-is c.in-Ok-None.ensures.sent) here

pub returns-in-Err-hear_until-clause-changes : goal.returns-in-Err-hear_until-clause-changes
returns-in-Err-hear_until-clause-changes g c =
    changes_more c.args.connection.now.socket 1 1 2 (g.N.Sockets.net c.args.net.now) (g.N.Sockets.net c.send_all.new.net) (g.N.Sockets.net c.hear_until.new.net) (omega arith) c.in-Ok-None.ensures.changes (subst (λ x. Changes x.socket 1 (g.N.Sockets.net c.send_all.new.net) (g.N.Sockets.net c.hear_until.new.net)) c.send_all.ensures.kept c.in-Err-hear_until.ensures.changes)

pub returns-in-Err-hear_until-clause-kept : goal.returns-in-Err-hear_until-clause-kept
returns-in-Err-hear_until-clause-kept g c =
    kept_sent c.args.connection.now c.send_all.new.connection c.hear_until.new.connection c.send_all.ensures.kept c.in-Err-hear_until.ensures.kept
