use Rattle.std.proofs.Common.{◌+◌, sym, ap, subst, ◌∙◌}
use Rattle.std.specs.Prelude.{Ok}
use Rattle.taps_chain.specs.Layers.{layers_of}
use Rattle.taps_stack.specs.StackTable.{is_stream}
use Rattle.taps_connection.specs.Encodings.{encoding_of}
use Rattle.taps_connection.specs.Sources.{unread_of}
use Rattle.taps_loop.specs.Loops.{turn_sending}
use Rattle.taps_loop.specs.Sends.{waits}
use Rattle.taps_loop.specs.Hears.{one_true, HasAsked, IsInIf}
use Rattle.taps_loop.proofs.Roundings.{to_hear_behind, enough_rounded, asked_rounded, over_rounded, memory_rounded}
use Rattle.taps_loop.proofs.rounds.hear_behind.Goals as goal

pub returns-in-Ok-Enough-clause-rounded : goal.returns-in-Ok-Enough-clause-rounded
returns-in-Ok-Enough-clause-rounded g c =
    let from_encoding = encoding_of (is_stream c.args.from.now.stack) (layers_of (λ vtable. (g.dyn-1.0.entry vtable).1) c.args.from.now.chain) in
    let to_layers = layers_of (λ vtable. (g.dyn-1.0.entry vtable).1) c.args.to.now.chain in
    λ x calls piece ends kept gone.
    enough_rounded g.N.Sockets.Becomes x calls from_encoding c.args.from.now.socket (is_stream c.args.to.now.stack) to_layers c.args.to.now.socket piece c.args.deadline c.args.net.now c.hear_in_turn.new.net c.args.from.now.sender (g.N.Sockets.net c.args.net.now).told (g.N.Sockets.net c.hear_in_turn.new.net).told c.args.to.now.receiver.ended (unread_of c.args.to.now.receiver.source) c.args.heard.now.items ends kept (λ more became. (g.met.N.Sockets.shows c.args.net.now c.hear_in_turn.new.net more became).told) c.hear_in_turn.new.to.receiver.ended (unread_of c.hear_in_turn.new.to.receiver.source) c.hear_in_turn.new.heard.items c.needed-needs.result (c.needed-needs.ensures ∙ (ap (λ k. k + one_true c.is_waiting-waiting.result) c.sent.ensures ∙ ap (λ k. c.args.from.now.sender.sent + k) c.is_waiting-waiting.ensures)) gone (subst (λ i. HasAsked g.N.Sockets.Becomes x calls c.args.net.now c.hear_in_turn.new.net (λ later. IsInIf x calls later (is_stream c.args.to.now.stack) to_layers piece (waits c.args.from.now.sender) c.needed-needs.result (Ok i) c.hear_in_turn.new.to.receiver.ended (unread_of c.hear_in_turn.new.to.receiver.source) c.hear_in_turn.new.heard.items)) c.in-Ok-Enough.field-0-is (c.in-Ok-Enough.ensures.heard x calls (turn_sending x calls) piece (waits c.args.from.now.sender) ends.fixed (to_hear_behind g.N.Sockets.Becomes x calls from_encoding c.args.from.now.socket (is_stream c.args.to.now.stack) to_layers c.args.to.now.socket piece c.args.deadline c.args.net.now c.hear_in_turn.new.net c.args.from.now.sender (g.N.Sockets.net c.args.net.now).told (g.N.Sockets.net c.hear_in_turn.new.net).told c.args.to.now.receiver.ended (unread_of c.args.to.now.receiver.source) c.args.heard.now.items ends kept (λ more became. (g.met.N.Sockets.shows c.args.net.now c.hear_in_turn.new.net more became).told) c.hear_in_turn.new.to.receiver.ended (unread_of c.hear_in_turn.new.to.receiver.source) c.hear_in_turn.new.heard.items c.needed-needs.result (c.needed-needs.ensures ∙ (ap (λ k. k + one_true c.is_waiting-waiting.result) c.sent.ensures ∙ ap (λ k. c.args.from.now.sender.sent + k) c.is_waiting-waiting.ensures)) gone) (sym c.is_waiting-waiting.ensures) kept.hears))

pub returns-in-Ok-Asked-clause-rounded : goal.returns-in-Ok-Asked-clause-rounded
returns-in-Ok-Asked-clause-rounded g c =
    let from_encoding = encoding_of (is_stream c.args.from.now.stack) (layers_of (λ vtable. (g.dyn-1.0.entry vtable).1) c.args.from.now.chain) in
    let to_layers = layers_of (λ vtable. (g.dyn-1.0.entry vtable).1) c.args.to.now.chain in
    λ x calls piece ends kept gone.
    asked_rounded g.N.Sockets.Becomes x calls from_encoding c.args.from.now.socket (is_stream c.args.to.now.stack) to_layers c.args.to.now.socket piece c.args.deadline c.args.net.now c.hear_in_turn.new.net c.args.from.now.sender (g.N.Sockets.net c.args.net.now).told (g.N.Sockets.net c.hear_in_turn.new.net).told c.args.to.now.receiver.ended (unread_of c.args.to.now.receiver.source) c.args.heard.now.items ends kept (λ more became. (g.met.N.Sockets.shows c.args.net.now c.hear_in_turn.new.net more became).told) c.hear_in_turn.new.to.receiver.ended (unread_of c.hear_in_turn.new.to.receiver.source) c.hear_in_turn.new.heard.items c.needed-needs.result c.in-Ok-Asked.enough (c.needed-needs.ensures ∙ (ap (λ k. k + one_true c.is_waiting-waiting.result) c.sent.ensures ∙ ap (λ k. c.args.from.now.sender.sent + k) c.is_waiting-waiting.ensures)) (subst (λ i. HasAsked g.N.Sockets.Becomes x calls c.args.net.now c.hear_in_turn.new.net (λ later. IsInIf x calls later (is_stream c.args.to.now.stack) to_layers piece (waits c.args.from.now.sender) c.needed-needs.result (Ok i) c.hear_in_turn.new.to.receiver.ended (unread_of c.hear_in_turn.new.to.receiver.source) c.hear_in_turn.new.heard.items)) c.in-Ok-Asked.field-0-is (c.in-Ok-Asked.ensures.heard x calls (turn_sending x calls) piece (waits c.args.from.now.sender) ends.fixed (to_hear_behind g.N.Sockets.Becomes x calls from_encoding c.args.from.now.socket (is_stream c.args.to.now.stack) to_layers c.args.to.now.socket piece c.args.deadline c.args.net.now c.hear_in_turn.new.net c.args.from.now.sender (g.N.Sockets.net c.args.net.now).told (g.N.Sockets.net c.hear_in_turn.new.net).told c.args.to.now.receiver.ended (unread_of c.args.to.now.receiver.source) c.args.heard.now.items ends kept (λ more became. (g.met.N.Sockets.shows c.args.net.now c.hear_in_turn.new.net more became).told) c.hear_in_turn.new.to.receiver.ended (unread_of c.hear_in_turn.new.to.receiver.source) c.hear_in_turn.new.heard.items c.needed-needs.result (c.needed-needs.ensures ∙ (ap (λ k. k + one_true c.is_waiting-waiting.result) c.sent.ensures ∙ ap (λ k. c.args.from.now.sender.sent + k) c.is_waiting-waiting.ensures)) gone) (sym c.is_waiting-waiting.ensures) kept.hears))

pub returns-in-Ok-Over-clause-rounded : goal.returns-in-Ok-Over-clause-rounded
returns-in-Ok-Over-clause-rounded g c =
    let from_encoding = encoding_of (is_stream c.args.from.now.stack) (layers_of (λ vtable. (g.dyn-1.0.entry vtable).1) c.args.from.now.chain) in
    let to_layers = layers_of (λ vtable. (g.dyn-1.0.entry vtable).1) c.args.to.now.chain in
    λ x calls piece ends kept gone.
    over_rounded g.N.Sockets.Becomes x calls from_encoding c.args.from.now.socket (is_stream c.args.to.now.stack) to_layers c.args.to.now.socket piece c.args.deadline c.args.net.now c.hear_in_turn.new.net c.args.from.now.sender (g.N.Sockets.net c.args.net.now).told (g.N.Sockets.net c.hear_in_turn.new.net).told c.args.to.now.receiver.ended (unread_of c.args.to.now.receiver.source) c.args.heard.now.items ends kept (λ more became. (g.met.N.Sockets.shows c.args.net.now c.hear_in_turn.new.net more became).told) c.hear_in_turn.new.to.receiver.ended (unread_of c.hear_in_turn.new.to.receiver.source) c.hear_in_turn.new.heard.items (waits c.args.from.now.sender) c.needed-needs.result c.in-Ok-Over.outcome (subst (λ i. HasAsked g.N.Sockets.Becomes x calls c.args.net.now c.hear_in_turn.new.net (λ later. IsInIf x calls later (is_stream c.args.to.now.stack) to_layers piece (waits c.args.from.now.sender) c.needed-needs.result (Ok i) c.hear_in_turn.new.to.receiver.ended (unread_of c.hear_in_turn.new.to.receiver.source) c.hear_in_turn.new.heard.items)) c.in-Ok-Over.field-0-is (c.in-Ok-Over.ensures.heard x calls (turn_sending x calls) piece (waits c.args.from.now.sender) ends.fixed (to_hear_behind g.N.Sockets.Becomes x calls from_encoding c.args.from.now.socket (is_stream c.args.to.now.stack) to_layers c.args.to.now.socket piece c.args.deadline c.args.net.now c.hear_in_turn.new.net c.args.from.now.sender (g.N.Sockets.net c.args.net.now).told (g.N.Sockets.net c.hear_in_turn.new.net).told c.args.to.now.receiver.ended (unread_of c.args.to.now.receiver.source) c.args.heard.now.items ends kept (λ more became. (g.met.N.Sockets.shows c.args.net.now c.hear_in_turn.new.net more became).told) c.hear_in_turn.new.to.receiver.ended (unread_of c.hear_in_turn.new.to.receiver.source) c.hear_in_turn.new.heard.items c.needed-needs.result (c.needed-needs.ensures ∙ (ap (λ k. k + one_true c.is_waiting-waiting.result) c.sent.ensures ∙ ap (λ k. c.args.from.now.sender.sent + k) c.is_waiting-waiting.ensures)) gone) (sym c.is_waiting-waiting.ensures) kept.hears))

pub returns-in-Err-clause-rounded : goal.returns-in-Err-clause-rounded
returns-in-Err-clause-rounded g c =
    let from_encoding = encoding_of (is_stream c.args.from.now.stack) (layers_of (λ vtable. (g.dyn-1.0.entry vtable).1) c.args.from.now.chain) in
    let to_layers = layers_of (λ vtable. (g.dyn-1.0.entry vtable).1) c.args.to.now.chain in
    λ x calls piece ends kept gone.
    memory_rounded g.N.Sockets.Becomes x calls from_encoding c.args.from.now.socket (is_stream c.args.to.now.stack) to_layers c.args.to.now.socket piece c.args.deadline c.args.net.now c.hear_in_turn.new.net c.args.from.now.sender (g.N.Sockets.net c.args.net.now).told (g.N.Sockets.net c.hear_in_turn.new.net).told c.args.to.now.receiver.ended (unread_of c.args.to.now.receiver.source) c.args.heard.now.items ends kept (λ more became. (g.met.N.Sockets.shows c.args.net.now c.hear_in_turn.new.net more became).told) c.hear_in_turn.new.to.receiver.ended (unread_of c.hear_in_turn.new.to.receiver.source) c.hear_in_turn.new.heard.items (waits c.args.from.now.sender) c.needed-needs.result c.in-Err.none (c.in-Err.ensures.heard x calls (turn_sending x calls) piece (waits c.args.from.now.sender) ends.fixed (to_hear_behind g.N.Sockets.Becomes x calls from_encoding c.args.from.now.socket (is_stream c.args.to.now.stack) to_layers c.args.to.now.socket piece c.args.deadline c.args.net.now c.hear_in_turn.new.net c.args.from.now.sender (g.N.Sockets.net c.args.net.now).told (g.N.Sockets.net c.hear_in_turn.new.net).told c.args.to.now.receiver.ended (unread_of c.args.to.now.receiver.source) c.args.heard.now.items ends kept (λ more became. (g.met.N.Sockets.shows c.args.net.now c.hear_in_turn.new.net more became).told) c.hear_in_turn.new.to.receiver.ended (unread_of c.hear_in_turn.new.to.receiver.source) c.hear_in_turn.new.heard.items c.needed-needs.result (c.needed-needs.ensures ∙ (ap (λ k. k + one_true c.is_waiting-waiting.result) c.sent.ensures ∙ ap (λ k. c.args.from.now.sender.sent + k) c.is_waiting-waiting.ensures)) gone) (sym c.is_waiting-waiting.ensures) kept.hears)
