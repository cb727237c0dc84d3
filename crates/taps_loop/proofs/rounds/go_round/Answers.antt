use Rattle.std.proofs.Common.{◌≡◌, ◌+◌, ◌++◌, sym, ap, subst, ◌∙◌, arith}
use Rattle.std.specs.Prelude.{Ok, Err, take}
use Rattle.taps_chain.specs.Layers.{layers_of}
use Rattle.taps_stack.specs.StackTable.{is_stream}
use Rattle.taps_connection.specs.Conditions.{IsHeld}
use Rattle.taps_connection.specs.Encodings.{encoding_of}
use Rattle.taps_connection.specs.Sources.{unread_of}
use Rattle.taps_loop.specs.declared.sending.Out.TheVariants as out
use Rattle.taps_loop.specs.declared.rounds.Round.TheVariants as round
use Rattle.taps_loop.specs.Connections.{GoesRound}
use Rattle.taps_loop.specs.Sends.{HasGone, waits, IsToSend, HasTurned, IsFurther, IfOutGoesOn}
use Rattle.taps_loop.specs.Rounds.{until_if, IsLast, HasRounded}
use Rattle.taps_loop.proofs.GoingRound.{to_send, sent_kept, last_of, again_of, over_of, then_rounded, over_rounded, again_rounded, memory_rounded}
use Rattle.taps_loop.proofs.MayAsking.{asks_apart}
use Rattle.taps_loop.proofs.Moving.{held_apart, moves_from, moves_to, moves_on, if_again}
use Rattle.taps_loop.proofs.rounds.go_round.Goals as goal

pub hear_behind-requires-clause-asks : goal.hear_behind-requires-clause-asks
hear_behind-requires-clause-asks g c =
    asks_apart (λ vtable. (g.dyn-1.0.entry vtable).1) c.args.to.now c.args.from.now.socket (g.N.Sockets.net c.args.net.now) (g.N.Sockets.net c.send_in_turn.new.net) c.args.deadline c.requires.may.apart c.requires.spare c.in-Ok-Gone.ensures.changes
    (record { sound = c.requires.may.sound; held = c.requires.may.held; spare = (let two = c.requires.spare in omega (arith, two)); bounded = c.requires.may.bounded; some = c.requires.may.some })

pub hear_last-requires-clause-asks : goal.hear_last-requires-clause-asks
hear_last-requires-clause-asks g c =
    asks_apart (λ vtable. (g.dyn-1.0.entry vtable).1) c.args.to.now c.args.from.now.socket (g.N.Sockets.net c.args.net.now) (g.N.Sockets.net c.send_in_turn.new.net) c.args.deadline c.requires.may.apart c.requires.spare c.in-Ok-Nothing.ensures.changes
    (record { sound = c.requires.may.sound; held = c.requires.may.held; spare = (let two = c.requires.spare in omega (arith, two)); bounded = c.requires.may.bounded; some = c.requires.may.some })

pub returns-in-Ok-Gone-clause-rounded : goal.returns-in-Ok-Gone-clause-rounded
returns-in-Ok-Gone-clause-rounded g c =
    let from_encoding = encoding_of (is_stream c.args.from.now.stack) (layers_of (λ vtable. (g.dyn-1.0.entry vtable).1) c.args.from.now.chain) in
    let to_layers = layers_of (λ vtable. (g.dyn-1.0.entry vtable).1) c.args.to.now.chain in
    λ x calls piece ends kept stands.
    let start = subst (λ u. IsToSend x calls from_encoding c.args.from.now.socket u c.args.deadline c.args.from.now.sender) (ap (λ k. until_if c.args.enough k c.args.deadline) (sym c.told.ensures) ∙ sym c.until_of-until.ensures.until) (to_send g.N.Sockets.Becomes x calls from_encoding c.args.from.now.socket (is_stream c.args.to.now.stack) to_layers c.args.to.now.socket piece c.args.deadline c.args.net.now c.send_in_turn.new.net c.args.from.now.sender c.send_in_turn.new.from.sender (g.N.Sockets.net c.args.net.now).told (g.N.Sockets.net c.send_in_turn.new.net).told c.args.to.now.receiver.ended (unread_of c.args.to.now.receiver.source) c.args.heard.now.items c.args.enough ends kept stands) in
    let h = subst (λ o. HasTurned g.N.Sockets.Becomes x calls from_encoding c.args.net.now c.send_in_turn.new.net (Ok o) c.send_in_turn.new.from.sender) c.in-Ok-Gone.field-0-is (c.in-Ok-Gone.ensures.turned x calls start) in
    let hears = subst (λ z. GoesRound (λ vtable. (g.dyn-1.0.entry vtable).1) g.N.Sockets.Becomes z c.args.to.now c.args.deadline c.send_in_turn.new.net c.hear_behind.new.net (g.N.Sockets.net c.send_in_turn.new.net).told c.args.heard.now.items (λ x calls. HasGone x calls (waits c.send_in_turn.new.from.sender)) c.hear_behind.result c.send_in_turn.new.from.sender (g.N.Sockets.net c.hear_behind.new.net).told c.hear_behind.new.to.receiver c.hear_behind.new.heard.items) c.in-Ok-Gone.ensures.kept c.hear_behind.ensures.rounded in
    then_rounded g.N.Sockets.Becomes x calls from_encoding c.args.from.now.socket (is_stream c.args.to.now.stack) to_layers c.args.to.now.socket piece c.args.deadline c.args.net.now c.send_in_turn.new.net c.args.from.now.sender c.send_in_turn.new.from.sender (g.N.Sockets.net c.args.net.now).told (g.N.Sockets.net c.send_in_turn.new.net).told c.args.to.now.receiver.ended (unread_of c.args.to.now.receiver.source) c.args.heard.now.items c.args.enough ends kept stands (Ok out.Gone) h (λ more became. (g.met.N.Sockets.shows c.args.net.now c.send_in_turn.new.net more became).told) c.hear_behind.new.net (g.N.Sockets.net c.hear_behind.new.net).told c.hear_behind.new.to.receiver.ended (unread_of c.hear_behind.new.to.receiver.source) c.hear_behind.new.heard.items c.hear_behind.result g.met.N.Sockets.becomes_on
    (hears x (h.more ++ calls) piece ends (sent_kept g.N.Sockets.Becomes x calls from_encoding c.args.from.now.socket (is_stream c.args.to.now.stack) to_layers c.args.to.now.socket piece c.args.deadline c.args.net.now c.send_in_turn.new.net c.args.from.now.sender c.send_in_turn.new.from.sender (g.N.Sockets.net c.args.net.now).told (g.N.Sockets.net c.send_in_turn.new.net).told c.args.to.now.receiver.ended (unread_of c.args.to.now.receiver.source) c.args.heard.now.items c.args.enough ends kept stands (Ok out.Gone) h (λ more became. (g.met.N.Sockets.shows c.args.net.now c.send_in_turn.new.net more became).told) h.kept) h.out_so)

pub returns-in-Ok-Nothing-clause-rounded : goal.returns-in-Ok-Nothing-clause-rounded
returns-in-Ok-Nothing-clause-rounded g c =
    let from_encoding = encoding_of (is_stream c.args.from.now.stack) (layers_of (λ vtable. (g.dyn-1.0.entry vtable).1) c.args.from.now.chain) in
    let to_layers = layers_of (λ vtable. (g.dyn-1.0.entry vtable).1) c.args.to.now.chain in
    λ x calls piece ends kept stands.
    let start = subst (λ u. IsToSend x calls from_encoding c.args.from.now.socket u c.args.deadline c.args.from.now.sender) (ap (λ k. until_if c.args.enough k c.args.deadline) (sym c.told.ensures) ∙ sym c.until_of-until.ensures.until) (to_send g.N.Sockets.Becomes x calls from_encoding c.args.from.now.socket (is_stream c.args.to.now.stack) to_layers c.args.to.now.socket piece c.args.deadline c.args.net.now c.send_in_turn.new.net c.args.from.now.sender c.send_in_turn.new.from.sender (g.N.Sockets.net c.args.net.now).told (g.N.Sockets.net c.send_in_turn.new.net).told c.args.to.now.receiver.ended (unread_of c.args.to.now.receiver.source) c.args.heard.now.items c.args.enough ends kept stands) in
    let h = subst (λ o. HasTurned g.N.Sockets.Becomes x calls from_encoding c.args.net.now c.send_in_turn.new.net (Ok o) c.send_in_turn.new.from.sender) c.in-Ok-Nothing.field-0-is (c.in-Ok-Nothing.ensures.turned x calls start) in
    let hears = subst (λ z. GoesRound (λ vtable. (g.dyn-1.0.entry vtable).1) g.N.Sockets.Becomes z c.args.to.now c.args.deadline c.send_in_turn.new.net c.hear_last.new.net (g.N.Sockets.net c.send_in_turn.new.net).told c.args.heard.now.items (λ x calls. IsLast x calls c.send_in_turn.new.from.sender c.args.heard.now.items c.args.enough) c.hear_last.result c.send_in_turn.new.from.sender (g.N.Sockets.net c.hear_last.new.net).told c.hear_last.new.to.receiver c.hear_last.new.heard.items) c.in-Ok-Nothing.ensures.kept c.hear_last.ensures.rounded in
    then_rounded g.N.Sockets.Becomes x calls from_encoding c.args.from.now.socket (is_stream c.args.to.now.stack) to_layers c.args.to.now.socket piece c.args.deadline c.args.net.now c.send_in_turn.new.net c.args.from.now.sender c.send_in_turn.new.from.sender (g.N.Sockets.net c.args.net.now).told (g.N.Sockets.net c.send_in_turn.new.net).told c.args.to.now.receiver.ended (unread_of c.args.to.now.receiver.source) c.args.heard.now.items c.args.enough ends kept stands (Ok out.Nothing) h (λ more became. (g.met.N.Sockets.shows c.args.net.now c.send_in_turn.new.net more became).told) c.hear_last.new.net (g.N.Sockets.net c.hear_last.new.net).told c.hear_last.new.to.receiver.ended (unread_of c.hear_last.new.to.receiver.source) c.hear_last.new.heard.items c.hear_last.result g.met.N.Sockets.becomes_on
    (hears x (h.more ++ calls) piece ends (sent_kept g.N.Sockets.Becomes x calls from_encoding c.args.from.now.socket (is_stream c.args.to.now.stack) to_layers c.args.to.now.socket piece c.args.deadline c.args.net.now c.send_in_turn.new.net c.args.from.now.sender c.send_in_turn.new.from.sender (g.N.Sockets.net c.args.net.now).told (g.N.Sockets.net c.send_in_turn.new.net).told c.args.to.now.receiver.ended (unread_of c.args.to.now.receiver.source) c.args.heard.now.items c.args.enough ends kept stands (Ok out.Nothing) h (λ more became. (g.met.N.Sockets.shows c.args.net.now c.send_in_turn.new.net more became).told) h.kept) (last_of g.N.Sockets.Becomes x calls from_encoding c.args.from.now.socket (is_stream c.args.to.now.stack) to_layers c.args.to.now.socket piece c.args.deadline c.args.net.now c.send_in_turn.new.net c.args.from.now.sender c.send_in_turn.new.from.sender (g.N.Sockets.net c.args.net.now).told (g.N.Sockets.net c.send_in_turn.new.net).told c.args.to.now.receiver.ended (unread_of c.args.to.now.receiver.source) c.args.heard.now.items c.args.enough ends kept stands (Ok out.Nothing) h (λ more became. (g.met.N.Sockets.shows c.args.net.now c.send_in_turn.new.net more became).told) h.out_so.0 h.out_so.1 h.out_so.2 h.out_so.3))

pub returns-in-Ok-Passed-clause-rounded : goal.returns-in-Ok-Passed-clause-rounded
returns-in-Ok-Passed-clause-rounded g c =
    let from_encoding = encoding_of (is_stream c.args.from.now.stack) (layers_of (λ vtable. (g.dyn-1.0.entry vtable).1) c.args.from.now.chain) in
    let to_layers = layers_of (λ vtable. (g.dyn-1.0.entry vtable).1) c.args.to.now.chain in
    λ x calls piece ends kept stands.
    let start = subst (λ u. IsToSend x calls from_encoding c.args.from.now.socket u c.args.deadline c.args.from.now.sender) (ap (λ k. until_if c.args.enough k c.args.deadline) (sym c.told.ensures) ∙ sym c.until_of-until.ensures.until) (to_send g.N.Sockets.Becomes x calls from_encoding c.args.from.now.socket (is_stream c.args.to.now.stack) to_layers c.args.to.now.socket piece c.args.deadline c.args.net.now c.send_in_turn.new.net c.args.from.now.sender c.send_in_turn.new.from.sender (g.N.Sockets.net c.args.net.now).told (g.N.Sockets.net c.send_in_turn.new.net).told c.args.to.now.receiver.ended (unread_of c.args.to.now.receiver.source) c.args.heard.now.items c.args.enough ends kept stands) in
    let h = subst (λ o. HasTurned g.N.Sockets.Becomes x calls from_encoding c.args.net.now c.send_in_turn.new.net (Ok o) c.send_in_turn.new.from.sender) c.in-Ok-Passed.field-0-is (c.in-Ok-Passed.ensures.turned x calls start) in
    let more = subst (λ o. IsFurther c.until_of-until.result c.args.deadline (g.N.Sockets.net c.send_in_turn.new.net).told (Ok o) c.args.from.now.sender c.send_in_turn.new.from.sender) c.in-Ok-Passed.field-0-is c.in-Ok-Passed.ensures.further in
    again_rounded g.N.Sockets.Becomes x calls from_encoding c.args.from.now.socket (is_stream c.args.to.now.stack) to_layers c.args.to.now.socket piece c.args.deadline c.args.net.now c.send_in_turn.new.net c.args.from.now.sender c.send_in_turn.new.from.sender (g.N.Sockets.net c.args.net.now).told (g.N.Sockets.net c.send_in_turn.new.net).told c.args.to.now.receiver.ended (unread_of c.args.to.now.receiver.source) c.args.heard.now.items c.args.enough ends kept stands (Ok out.Passed) h (λ more became. (g.met.N.Sockets.shows c.args.net.now c.send_in_turn.new.net more became).told) h.kept (again_of g.N.Sockets.Becomes x calls from_encoding c.args.from.now.socket (is_stream c.args.to.now.stack) to_layers c.args.to.now.socket piece c.args.deadline c.args.net.now c.send_in_turn.new.net c.args.from.now.sender c.send_in_turn.new.from.sender (g.N.Sockets.net c.args.net.now).told (g.N.Sockets.net c.send_in_turn.new.net).told c.args.to.now.receiver.ended (unread_of c.args.to.now.receiver.source) c.args.heard.now.items c.args.enough ends kept stands (Ok out.Passed) h (λ more became. (g.met.N.Sockets.shows c.args.net.now c.send_in_turn.new.net more became).told) h.out_so.0 more.2 h.out_so.1)

pub returns-in-Ok-Over-clause-rounded : goal.returns-in-Ok-Over-clause-rounded
returns-in-Ok-Over-clause-rounded g c =
    let from_encoding = encoding_of (is_stream c.args.from.now.stack) (layers_of (λ vtable. (g.dyn-1.0.entry vtable).1) c.args.from.now.chain) in
    let to_layers = layers_of (λ vtable. (g.dyn-1.0.entry vtable).1) c.args.to.now.chain in
    λ x calls piece ends kept stands.
    let start = subst (λ u. IsToSend x calls from_encoding c.args.from.now.socket u c.args.deadline c.args.from.now.sender) (ap (λ k. until_if c.args.enough k c.args.deadline) (sym c.told.ensures) ∙ sym c.until_of-until.ensures.until) (to_send g.N.Sockets.Becomes x calls from_encoding c.args.from.now.socket (is_stream c.args.to.now.stack) to_layers c.args.to.now.socket piece c.args.deadline c.args.net.now c.send_in_turn.new.net c.args.from.now.sender c.send_in_turn.new.from.sender (g.N.Sockets.net c.args.net.now).told (g.N.Sockets.net c.send_in_turn.new.net).told c.args.to.now.receiver.ended (unread_of c.args.to.now.receiver.source) c.args.heard.now.items c.args.enough ends kept stands) in
    let h = subst (λ o. HasTurned g.N.Sockets.Becomes x calls from_encoding c.args.net.now c.send_in_turn.new.net (Ok o) c.send_in_turn.new.from.sender) c.in-Ok-Over.field-0-is (c.in-Ok-Over.ensures.turned x calls start) in
    let waited = subst (λ o. IsFurther c.until_of-until.result c.args.deadline (g.N.Sockets.net c.send_in_turn.new.net).told (Ok o) c.args.from.now.sender c.send_in_turn.new.from.sender) c.in-Ok-Over.field-0-is c.in-Ok-Over.ensures.further in
    let o = c.in-Ok-Over.outcome in
    let count : c.send_in_turn.new.from.sender.sent + 1 ≡ c.sent.result + 1 = ap (λ k. k + 1) (sym c.sent.ensures) in
    subst (λ ms. HasRounded g.N.Sockets.Becomes x calls from_encoding (is_stream c.args.to.now.stack) to_layers piece c.args.net.now c.send_in_turn.new.net (Ok (round.Over o)) c.send_in_turn.new.from.sender (g.N.Sockets.net c.send_in_turn.new.net).told c.args.to.now.receiver.ended (unread_of c.args.to.now.receiver.source) ms)
    (ap (λ k. take k c.args.heard.now.items) count ∙ sym c.truncate.ensures.items)
    (over_rounded g.N.Sockets.Becomes x calls from_encoding c.args.from.now.socket (is_stream c.args.to.now.stack) to_layers c.args.to.now.socket piece c.args.deadline c.args.net.now c.send_in_turn.new.net c.args.from.now.sender c.send_in_turn.new.from.sender (g.N.Sockets.net c.args.net.now).told (g.N.Sockets.net c.send_in_turn.new.net).told c.args.to.now.receiver.ended (unread_of c.args.to.now.receiver.source) c.args.heard.now.items c.args.enough ends kept stands (Ok (out.Over o)) h (λ more became. (g.met.N.Sockets.shows c.args.net.now c.send_in_turn.new.net more became).told) o (over_of g.N.Sockets.Becomes x calls from_encoding c.args.from.now.socket (is_stream c.args.to.now.stack) to_layers c.args.to.now.socket piece c.args.deadline c.args.net.now c.send_in_turn.new.net c.args.from.now.sender c.send_in_turn.new.from.sender (g.N.Sockets.net c.args.net.now).told (g.N.Sockets.net c.send_in_turn.new.net).told c.args.to.now.receiver.ended (unread_of c.args.to.now.receiver.source) c.args.heard.now.items c.args.enough ends kept stands (Ok (out.Over o)) h (λ more became. (g.met.N.Sockets.shows c.args.net.now c.send_in_turn.new.net more became).told) o waited h.out_so.0 h.out_so.1 h.out_so.2))

pub returns-in-Err-clause-rounded : goal.returns-in-Err-clause-rounded
returns-in-Err-clause-rounded g c =
    let from_encoding = encoding_of (is_stream c.args.from.now.stack) (layers_of (λ vtable. (g.dyn-1.0.entry vtable).1) c.args.from.now.chain) in
    let to_layers = layers_of (λ vtable. (g.dyn-1.0.entry vtable).1) c.args.to.now.chain in
    λ x calls piece ends kept stands.
    let start = subst (λ u. IsToSend x calls from_encoding c.args.from.now.socket u c.args.deadline c.args.from.now.sender) (ap (λ k. until_if c.args.enough k c.args.deadline) (sym c.told.ensures) ∙ sym c.until_of-until.ensures.until) (to_send g.N.Sockets.Becomes x calls from_encoding c.args.from.now.socket (is_stream c.args.to.now.stack) to_layers c.args.to.now.socket piece c.args.deadline c.args.net.now c.send_in_turn.new.net c.args.from.now.sender c.send_in_turn.new.from.sender (g.N.Sockets.net c.args.net.now).told (g.N.Sockets.net c.send_in_turn.new.net).told c.args.to.now.receiver.ended (unread_of c.args.to.now.receiver.source) c.args.heard.now.items c.args.enough ends kept stands) in
    let h = c.in-Err.ensures.turned x calls start in
    memory_rounded g.N.Sockets.Becomes x calls from_encoding c.args.from.now.socket (is_stream c.args.to.now.stack) to_layers c.args.to.now.socket piece c.args.deadline c.args.net.now c.send_in_turn.new.net c.args.from.now.sender c.send_in_turn.new.from.sender (g.N.Sockets.net c.args.net.now).told (g.N.Sockets.net c.send_in_turn.new.net).told c.args.to.now.receiver.ended (unread_of c.args.to.now.receiver.source) c.args.heard.now.items c.args.enough ends kept stands (Err c.in-Err.none) h (λ more became. (g.met.N.Sockets.shows c.args.net.now c.send_in_turn.new.net more became).told) c.in-Err.none

pub returns-in-Ok-Gone-clause-moves : goal.returns-in-Ok-Gone-clause-moves
returns-in-Ok-Gone-clause-moves g c =
    moves_on c.args.from.now.socket c.args.to.now.socket (g.N.Sockets.net c.args.net.now) (g.N.Sockets.net c.send_in_turn.new.net) (g.N.Sockets.net c.hear_behind.new.net) (moves_from c.args.from.now.socket c.args.to.now.socket 1 (g.N.Sockets.net c.args.net.now) (g.N.Sockets.net c.send_in_turn.new.net) c.in-Ok-Gone.ensures.changes) (moves_to c.args.from.now.socket c.args.to.now.socket 1 (g.N.Sockets.net c.send_in_turn.new.net) (g.N.Sockets.net c.hear_behind.new.net) c.hear_behind.ensures.once.changes)

pub returns-in-Ok-Nothing-clause-moves : goal.returns-in-Ok-Nothing-clause-moves
returns-in-Ok-Nothing-clause-moves g c =
    moves_on c.args.from.now.socket c.args.to.now.socket (g.N.Sockets.net c.args.net.now) (g.N.Sockets.net c.send_in_turn.new.net) (g.N.Sockets.net c.hear_last.new.net) (moves_from c.args.from.now.socket c.args.to.now.socket 1 (g.N.Sockets.net c.args.net.now) (g.N.Sockets.net c.send_in_turn.new.net) c.in-Ok-Nothing.ensures.changes) (moves_to c.args.from.now.socket c.args.to.now.socket 1 (g.N.Sockets.net c.send_in_turn.new.net) (g.N.Sockets.net c.hear_last.new.net) c.hear_last.ensures.once.changes)

pub returns-in-Ok-Passed-clause-moves : goal.returns-in-Ok-Passed-clause-moves
returns-in-Ok-Passed-clause-moves g c =
    moves_from c.args.from.now.socket c.args.to.now.socket 1 (g.N.Sockets.net c.args.net.now) (g.N.Sockets.net c.send_in_turn.new.net) c.in-Ok-Passed.ensures.changes

pub returns-in-Ok-Over-clause-moves : goal.returns-in-Ok-Over-clause-moves
returns-in-Ok-Over-clause-moves g c =
    moves_from c.args.from.now.socket c.args.to.now.socket 1 (g.N.Sockets.net c.args.net.now) (g.N.Sockets.net c.send_in_turn.new.net) c.in-Ok-Over.ensures.changes

pub returns-in-Err-clause-moves : goal.returns-in-Err-clause-moves
returns-in-Err-clause-moves g c =
    moves_from c.args.from.now.socket c.args.to.now.socket 1 (g.N.Sockets.net c.args.net.now) (g.N.Sockets.net c.send_in_turn.new.net) c.in-Err.ensures.changes

pub returns-in-Ok-Gone-clause-holds : goal.returns-in-Ok-Gone-clause-holds
returns-in-Ok-Gone-clause-holds g c =
    let before : IsHeld (g.N.Sockets.net c.send_in_turn.new.net).trace c.args.from.now.socket (is_stream c.args.from.now.stack) c.send_in_turn.new.from.sender.shut c.args.from.now.receiver.ended = subst (λ o. IfOutGoesOn (Ok o) (IsHeld (g.N.Sockets.net c.send_in_turn.new.net).trace c.args.from.now.socket (is_stream c.args.from.now.stack) c.send_in_turn.new.from.sender.shut c.args.from.now.receiver.ended)) c.in-Ok-Gone.field-0-is c.in-Ok-Gone.ensures.held in
    if_again c.hear_behind.result (λ again. IsHeld (g.N.Sockets.net c.hear_behind.new.net).trace c.args.from.now.socket (is_stream c.args.from.now.stack) c.send_in_turn.new.from.sender.shut c.args.from.now.receiver.ended)
    (λ again. held_apart c.args.from.now.socket c.args.to.now.socket 1 (g.N.Sockets.net c.send_in_turn.new.net) (g.N.Sockets.net c.hear_behind.new.net) (is_stream c.args.from.now.stack) c.send_in_turn.new.from.sender.shut c.args.from.now.receiver.ended (λ e. c.requires.may.apart (sym e)) c.hear_behind.ensures.once.changes before)

pub returns-in-Ok-Nothing-clause-holds : goal.returns-in-Ok-Nothing-clause-holds
returns-in-Ok-Nothing-clause-holds g c =
    let before : IsHeld (g.N.Sockets.net c.send_in_turn.new.net).trace c.args.from.now.socket (is_stream c.args.from.now.stack) c.send_in_turn.new.from.sender.shut c.args.from.now.receiver.ended = subst (λ o. IfOutGoesOn (Ok o) (IsHeld (g.N.Sockets.net c.send_in_turn.new.net).trace c.args.from.now.socket (is_stream c.args.from.now.stack) c.send_in_turn.new.from.sender.shut c.args.from.now.receiver.ended)) c.in-Ok-Nothing.field-0-is c.in-Ok-Nothing.ensures.held in
    if_again c.hear_last.result (λ again. IsHeld (g.N.Sockets.net c.hear_last.new.net).trace c.args.from.now.socket (is_stream c.args.from.now.stack) c.send_in_turn.new.from.sender.shut c.args.from.now.receiver.ended)
    (λ again. held_apart c.args.from.now.socket c.args.to.now.socket 1 (g.N.Sockets.net c.send_in_turn.new.net) (g.N.Sockets.net c.hear_last.new.net) (is_stream c.args.from.now.stack) c.send_in_turn.new.from.sender.shut c.args.from.now.receiver.ended (λ e. c.requires.may.apart (sym e)) c.hear_last.ensures.once.changes before)

pub returns-in-Ok-Passed-clause-held : goal.returns-in-Ok-Passed-clause-held
returns-in-Ok-Passed-clause-held g c =
    held_apart c.args.to.now.socket c.args.from.now.socket 1 (g.N.Sockets.net c.args.net.now) (g.N.Sockets.net c.send_in_turn.new.net) (is_stream c.args.to.now.stack) c.args.to.now.sender.shut c.args.to.now.receiver.ended c.requires.may.apart c.in-Ok-Passed.ensures.changes c.requires.may.held
