use Rattle.std.proofs.Common.{◌<◌, ◌^◌, length, refl, sym, ap, subst, ◌∙◌, arith}
use Rattle.std.specs.Prelude.{Ok, take}
use Rattle.taps_chain.specs.Layers.{layers_of}
use Rattle.taps_stack.specs.StackTable.{is_stream}
use Rattle.taps_connection.specs.Encodings.{encoding_of}
use Rattle.taps_connection.specs.Sources.{unread_of}
use Rattle.taps_exchange.specs.Turns.{over, done_or}
use Rattle.taps_exchange.specs.declared.outcome.Outcome.TheVariants as outcome
use Rattle.taps_loop.specs.declared.rounds.Round.TheVariants as round
use Rattle.taps_loop.specs.Hears.{IsToHear, HasAsked, IsInIf}
use Rattle.taps_loop.specs.Rounds.{HasRounded}
use Rattle.taps_loop.specs.declared.hearing.In.TheVariants as in_turn
use Rattle.std.specs.Prelude.{Err}
use Rattle.taps_loop.proofs.Roundings.{to_hear_last, last_asked, last_enough, last_done, over_rounded, memory_rounded}
use Rattle.taps_loop.proofs.rounds.hear_last.Goals as goal

pub returns-in-Ok-Enough-clause-rounded : goal.returns-in-Ok-Enough-clause-rounded
returns-in-Ok-Enough-clause-rounded g c =
    let from_encoding = encoding_of (is_stream c.args.from.now.stack) (layers_of (λ vtable. (g.dyn-1.0.entry vtable).1) c.args.from.now.chain) in
    let to_layers = layers_of (λ vtable. (g.dyn-1.0.entry vtable).1) c.args.to.now.chain in
    λ x calls piece ends kept last.
    subst (λ ms. HasRounded g.N.Sockets.Becomes x calls from_encoding (is_stream c.args.to.now.stack) to_layers piece c.args.net.now c.hear_in_turn.new.net (Ok (round.Over c.done-in-Ok-Enough.result)) c.args.from.now.sender (g.N.Sockets.net c.hear_in_turn.new.net).told c.hear_in_turn.new.to.receiver.ended (unread_of c.hear_in_turn.new.to.receiver.source) ms)
    (ap (λ k. take k c.hear_in_turn.new.heard.items) (sym c.sent-in-Ok-Enough.ensures) ∙ sym c.truncate-in-Ok-Enough.ensures.items)
    (last_enough g.N.Sockets.Becomes x calls from_encoding c.args.from.now.socket (is_stream c.args.to.now.stack) to_layers c.args.to.now.socket piece c.args.deadline c.args.net.now c.hear_in_turn.new.net c.args.from.now.sender (g.N.Sockets.net c.args.net.now).told (g.N.Sockets.net c.hear_in_turn.new.net).told c.args.to.now.receiver.ended (unread_of c.args.to.now.receiver.source) c.args.heard.now.items ends kept (λ more became. (g.met.N.Sockets.shows c.args.net.now c.hear_in_turn.new.net more became).told) c.hear_in_turn.new.to.receiver.ended (unread_of c.hear_in_turn.new.to.receiver.source) c.hear_in_turn.new.heard.items c.args.enough c.done-in-Ok-Enough.result last (c.done-in-Ok-Enough.ensures ∙ ap (λ v. done_or v 0 outcome.Done) c.first_expired-in-Ok-Enough.ensures) (subst (λ k. HasAsked g.N.Sockets.Becomes x calls c.args.net.now c.hear_in_turn.new.net (λ later. IsInIf x calls later (is_stream c.args.to.now.stack) to_layers piece 0 k (Ok in_turn.Enough) c.hear_in_turn.new.to.receiver.ended (unread_of c.hear_in_turn.new.to.receiver.source) c.hear_in_turn.new.heard.items)) c.sent-2.ensures (subst (λ i. HasAsked g.N.Sockets.Becomes x calls c.args.net.now c.hear_in_turn.new.net (λ later. IsInIf x calls later (is_stream c.args.to.now.stack) to_layers piece 0 c.sent-2.result (Ok i) c.hear_in_turn.new.to.receiver.ended (unread_of c.hear_in_turn.new.to.receiver.source) c.hear_in_turn.new.heard.items)) c.in-Ok-Enough.field-0-is (c.in-Ok-Enough.ensures.heard x calls (over (done_or c.args.from.now.sender.expired 0 outcome.Done)) piece 0 ends.fixed (subst (λ k. IsToHear x calls (over (done_or c.args.from.now.sender.expired 0 outcome.Done)) 0 k (g.N.Sockets.net c.args.net.now).told) (sym c.sent-2.ensures) (to_hear_last g.N.Sockets.Becomes x calls from_encoding c.args.from.now.socket (is_stream c.args.to.now.stack) to_layers c.args.to.now.socket piece c.args.deadline c.args.net.now c.hear_in_turn.new.net c.args.from.now.sender (g.N.Sockets.net c.args.net.now).told (g.N.Sockets.net c.hear_in_turn.new.net).told c.args.to.now.receiver.ended (unread_of c.args.to.now.receiver.source) c.args.heard.now.items ends kept (λ more became. (g.met.N.Sockets.shows c.args.net.now c.hear_in_turn.new.net more became).told) c.hear_in_turn.new.to.receiver.ended (unread_of c.hear_in_turn.new.to.receiver.source) c.hear_in_turn.new.heard.items c.args.enough last c.if-enough.false)) refl kept.hears))))

pub returns-in-Ok-Asked-clause-rounded : goal.returns-in-Ok-Asked-clause-rounded
returns-in-Ok-Asked-clause-rounded g c =
    let from_encoding = encoding_of (is_stream c.args.from.now.stack) (layers_of (λ vtable. (g.dyn-1.0.entry vtable).1) c.args.from.now.chain) in
    let to_layers = layers_of (λ vtable. (g.dyn-1.0.entry vtable).1) c.args.to.now.chain in
    λ x calls piece ends kept last.
    last_asked g.N.Sockets.Becomes x calls from_encoding c.args.from.now.socket (is_stream c.args.to.now.stack) to_layers c.args.to.now.socket piece c.args.deadline c.args.net.now c.hear_in_turn.new.net c.args.from.now.sender (g.N.Sockets.net c.args.net.now).told (g.N.Sockets.net c.hear_in_turn.new.net).told c.args.to.now.receiver.ended (unread_of c.args.to.now.receiver.source) c.args.heard.now.items ends kept (λ more became. (g.met.N.Sockets.shows c.args.net.now c.hear_in_turn.new.net more became).told) c.hear_in_turn.new.to.receiver.ended (unread_of c.hear_in_turn.new.to.receiver.source) c.hear_in_turn.new.heard.items c.args.enough c.in-Ok-Asked.again last (subst (λ k. HasAsked g.N.Sockets.Becomes x calls c.args.net.now c.hear_in_turn.new.net (λ later. IsInIf x calls later (is_stream c.args.to.now.stack) to_layers piece 0 k (Ok (in_turn.Asked c.in-Ok-Asked.again)) c.hear_in_turn.new.to.receiver.ended (unread_of c.hear_in_turn.new.to.receiver.source) c.hear_in_turn.new.heard.items)) c.sent-2.ensures (subst (λ i. HasAsked g.N.Sockets.Becomes x calls c.args.net.now c.hear_in_turn.new.net (λ later. IsInIf x calls later (is_stream c.args.to.now.stack) to_layers piece 0 c.sent-2.result (Ok i) c.hear_in_turn.new.to.receiver.ended (unread_of c.hear_in_turn.new.to.receiver.source) c.hear_in_turn.new.heard.items)) c.in-Ok-Asked.field-0-is (c.in-Ok-Asked.ensures.heard x calls (over (done_or c.args.from.now.sender.expired 0 outcome.Done)) piece 0 ends.fixed (subst (λ k. IsToHear x calls (over (done_or c.args.from.now.sender.expired 0 outcome.Done)) 0 k (g.N.Sockets.net c.args.net.now).told) (sym c.sent-2.ensures) (to_hear_last g.N.Sockets.Becomes x calls from_encoding c.args.from.now.socket (is_stream c.args.to.now.stack) to_layers c.args.to.now.socket piece c.args.deadline c.args.net.now c.hear_in_turn.new.net c.args.from.now.sender (g.N.Sockets.net c.args.net.now).told (g.N.Sockets.net c.hear_in_turn.new.net).told c.args.to.now.receiver.ended (unread_of c.args.to.now.receiver.source) c.args.heard.now.items ends kept (λ more became. (g.met.N.Sockets.shows c.args.net.now c.hear_in_turn.new.net more became).told) c.hear_in_turn.new.to.receiver.ended (unread_of c.hear_in_turn.new.to.receiver.source) c.hear_in_turn.new.heard.items c.args.enough last c.if-enough.false)) refl kept.hears)))

pub returns-in-Ok-Over-clause-rounded : goal.returns-in-Ok-Over-clause-rounded
returns-in-Ok-Over-clause-rounded g c =
    let from_encoding = encoding_of (is_stream c.args.from.now.stack) (layers_of (λ vtable. (g.dyn-1.0.entry vtable).1) c.args.from.now.chain) in
    let to_layers = layers_of (λ vtable. (g.dyn-1.0.entry vtable).1) c.args.to.now.chain in
    λ x calls piece ends kept last.
    over_rounded g.N.Sockets.Becomes x calls from_encoding c.args.from.now.socket (is_stream c.args.to.now.stack) to_layers c.args.to.now.socket piece c.args.deadline c.args.net.now c.hear_in_turn.new.net c.args.from.now.sender (g.N.Sockets.net c.args.net.now).told (g.N.Sockets.net c.hear_in_turn.new.net).told c.args.to.now.receiver.ended (unread_of c.args.to.now.receiver.source) c.args.heard.now.items ends kept (λ more became. (g.met.N.Sockets.shows c.args.net.now c.hear_in_turn.new.net more became).told) c.hear_in_turn.new.to.receiver.ended (unread_of c.hear_in_turn.new.to.receiver.source) c.hear_in_turn.new.heard.items 0 c.args.from.now.sender.sent c.in-Ok-Over.outcome (subst (λ k. HasAsked g.N.Sockets.Becomes x calls c.args.net.now c.hear_in_turn.new.net (λ later. IsInIf x calls later (is_stream c.args.to.now.stack) to_layers piece 0 k (Ok (in_turn.Over c.in-Ok-Over.outcome)) c.hear_in_turn.new.to.receiver.ended (unread_of c.hear_in_turn.new.to.receiver.source) c.hear_in_turn.new.heard.items)) c.sent-2.ensures (subst (λ i. HasAsked g.N.Sockets.Becomes x calls c.args.net.now c.hear_in_turn.new.net (λ later. IsInIf x calls later (is_stream c.args.to.now.stack) to_layers piece 0 c.sent-2.result (Ok i) c.hear_in_turn.new.to.receiver.ended (unread_of c.hear_in_turn.new.to.receiver.source) c.hear_in_turn.new.heard.items)) c.in-Ok-Over.field-0-is (c.in-Ok-Over.ensures.heard x calls (over (done_or c.args.from.now.sender.expired 0 outcome.Done)) piece 0 ends.fixed (subst (λ k. IsToHear x calls (over (done_or c.args.from.now.sender.expired 0 outcome.Done)) 0 k (g.N.Sockets.net c.args.net.now).told) (sym c.sent-2.ensures) (to_hear_last g.N.Sockets.Becomes x calls from_encoding c.args.from.now.socket (is_stream c.args.to.now.stack) to_layers c.args.to.now.socket piece c.args.deadline c.args.net.now c.hear_in_turn.new.net c.args.from.now.sender (g.N.Sockets.net c.args.net.now).told (g.N.Sockets.net c.hear_in_turn.new.net).told c.args.to.now.receiver.ended (unread_of c.args.to.now.receiver.source) c.args.heard.now.items ends kept (λ more became. (g.met.N.Sockets.shows c.args.net.now c.hear_in_turn.new.net more became).told) c.hear_in_turn.new.to.receiver.ended (unread_of c.hear_in_turn.new.to.receiver.source) c.hear_in_turn.new.heard.items c.args.enough last c.if-enough.false)) refl kept.hears)))

pub returns-in-Err-clause-rounded : goal.returns-in-Err-clause-rounded
returns-in-Err-clause-rounded g c =
    let from_encoding = encoding_of (is_stream c.args.from.now.stack) (layers_of (λ vtable. (g.dyn-1.0.entry vtable).1) c.args.from.now.chain) in
    let to_layers = layers_of (λ vtable. (g.dyn-1.0.entry vtable).1) c.args.to.now.chain in
    λ x calls piece ends kept last.
    memory_rounded g.N.Sockets.Becomes x calls from_encoding c.args.from.now.socket (is_stream c.args.to.now.stack) to_layers c.args.to.now.socket piece c.args.deadline c.args.net.now c.hear_in_turn.new.net c.args.from.now.sender (g.N.Sockets.net c.args.net.now).told (g.N.Sockets.net c.hear_in_turn.new.net).told c.args.to.now.receiver.ended (unread_of c.args.to.now.receiver.source) c.args.heard.now.items ends kept (λ more became. (g.met.N.Sockets.shows c.args.net.now c.hear_in_turn.new.net more became).told) c.hear_in_turn.new.to.receiver.ended (unread_of c.hear_in_turn.new.to.receiver.source) c.hear_in_turn.new.heard.items 0 c.args.from.now.sender.sent c.in-Err.none (subst (λ k. HasAsked g.N.Sockets.Becomes x calls c.args.net.now c.hear_in_turn.new.net (λ later. IsInIf x calls later (is_stream c.args.to.now.stack) to_layers piece 0 k (Err c.in-Err.none) c.hear_in_turn.new.to.receiver.ended (unread_of c.hear_in_turn.new.to.receiver.source) c.hear_in_turn.new.heard.items)) c.sent-2.ensures (c.in-Err.ensures.heard x calls (over (done_or c.args.from.now.sender.expired 0 outcome.Done)) piece 0 ends.fixed (subst (λ k. IsToHear x calls (over (done_or c.args.from.now.sender.expired 0 outcome.Done)) 0 k (g.N.Sockets.net c.args.net.now).told) (sym c.sent-2.ensures) (to_hear_last g.N.Sockets.Becomes x calls from_encoding c.args.from.now.socket (is_stream c.args.to.now.stack) to_layers c.args.to.now.socket piece c.args.deadline c.args.net.now c.hear_in_turn.new.net c.args.from.now.sender (g.N.Sockets.net c.args.net.now).told (g.N.Sockets.net c.hear_in_turn.new.net).told c.args.to.now.receiver.ended (unread_of c.args.to.now.receiver.source) c.args.heard.now.items ends kept (λ more became. (g.met.N.Sockets.shows c.args.net.now c.hear_in_turn.new.net more became).told) c.hear_in_turn.new.to.receiver.ended (unread_of c.hear_in_turn.new.to.receiver.source) c.hear_in_turn.new.heard.items c.args.enough last c.if-enough.false)) refl kept.hears))

pub returns-then-enough-clause-rounded : goal.returns-then-enough-clause-rounded
returns-then-enough-clause-rounded g c =
    let from_encoding = encoding_of (is_stream c.args.from.now.stack) (layers_of (λ vtable. (g.dyn-1.0.entry vtable).1) c.args.from.now.chain) in
    let to_layers = layers_of (λ vtable. (g.dyn-1.0.entry vtable).1) c.args.to.now.chain in
    λ x calls piece ends kept last.
    let small : length c.args.heard.now.items < 2 ^ 64 = (let s = c.args.heard.now.small in omega (arith, s)) in
    subst (λ ms. HasRounded g.N.Sockets.Becomes x calls from_encoding (is_stream c.args.to.now.stack) to_layers piece c.args.net.now c.args.net.now (Ok (round.Over c.done.result)) c.args.from.now.sender (g.N.Sockets.net c.args.net.now).told c.args.to.now.receiver.ended (unread_of c.args.to.now.receiver.source) ms)
    (ap (λ k. take k c.args.heard.now.items) (sym c.sent.ensures) ∙ sym c.truncate.ensures.items)
    (last_done g.N.Sockets.Becomes x calls from_encoding c.args.from.now.socket (is_stream c.args.to.now.stack) to_layers c.args.to.now.socket piece c.args.deadline c.args.net.now c.args.net.now c.args.from.now.sender (g.N.Sockets.net c.args.net.now).told (g.N.Sockets.net c.args.net.now).told c.args.to.now.receiver.ended (unread_of c.args.to.now.receiver.source) c.args.heard.now.items ends kept
    (λ more became. (g.met.N.Sockets.shows c.args.net.now c.args.net.now more became).told) c.args.enough c.done.result last c.if-enough.true (c.done.ensures ∙ ap (λ v. done_or v 0 outcome.Done) c.first_expired.ensures) c.requires.framers small (g.met.N.Sockets.becomes_itself c.args.net.now))
