use Rattle.std.proofs.Common.{◌≤◌, ◌+◌, sym, subst, arith}
use Rattle.std.specs.Prelude.{Ok, Err}
use Rattle.taps_chain.specs.Layers.{layers_of}
use Rattle.taps_stack.specs.StackTable.{is_stream}
use Rattle.taps_connection.specs.declared.sender.Sender.{Sender}
use Rattle.taps_connection.specs.Conditions.{IsHeld}
use Rattle.taps_connection.specs.Encodings.{encoding_of}
use Rattle.taps_connection.specs.Inboxes.{IsSoundReceiver}
use Rattle.taps_connection.specs.Senders.{rest_of}
use Rattle.taps_connection.specs.Sound.{IsSound}
use Rattle.taps_connection.specs.Sources.{unread_of}
use Rattle.taps_exchange.specs.Hearings.{one_unless}
use Rattle.taps_exchange.proofs.HearingOn.{kept_both, sender_both}
use Rattle.taps_exchange.proofs.SendingAll.{kept_on}
use Rattle.taps_loop.specs.Connections.{MayTakeTurns}
use Rattle.taps_loop.specs.Rounds.{Stands, HasRounded, IfAgain, Lags, Moves}
use Rattle.taps_loop.proofs.Acceptings.{some_items}
use Rattle.taps_loop.proofs.Moving.{moves_on}
use Rattle.taps_loop.proofs.Going.{goes_again, goes_over, goes_short, rounds_on}
use Rattle.taps_loop.proofs.turns.go_rounds.Goals as goal

pub go_round-requires-clause-may : goal.go_round-requires-clause-may
go_round-requires-clause-may g c =
    let i = c.turns.invariant in
    let trace = (g.N.Sockets.net c.turns.net).trace in
    subst (λ z. MayTakeTurns (λ vtable. (g.dyn-1.0.entry vtable).1) z c.turns.to (g.N.Sockets.net c.turns.net) c.args.deadline) (sym i.sender_kept)
    (subst (λ z. MayTakeTurns (λ vtable. (g.dyn-1.0.entry vtable).1) (record c.args.from.now { sender = c.turns.from.sender }) z (g.N.Sockets.net c.turns.net) c.args.deadline) (sym i.kept)
    (record {
      framers = c.requires.may.framers;
      hearers = c.requires.may.hearers;
      sends = i.sends;
      holds = i.holds;
      sound = i.sound;
      held = subst (λ (z : Sender). IsHeld trace c.args.to.now.socket (is_stream c.args.to.now.stack) z.shut c.turns.to.receiver.ended) (sym i.moment) i.held;
      apart = c.requires.may.apart;
      bounded = c.requires.may.bounded;
      some = some_items trace c.args.to.now.socket (is_stream c.args.to.now.stack) c.args.to.now.sender.shut c.turns.to.receiver.ended i.held;
    }))

pub turns-preserved : goal.turns-preserved
turns-preserved g c =
    let i = c.turns.invariant in
    let more = subst (λ r. IfAgain (Ok r) (λ again. (g.N.Sockets.net c.turns.net).spare + (one_unless c.go_round.new.from.sender.shut + one_unless c.go_round.new.to.receiver.ended) ≤ (g.N.Sockets.net c.go_round.new.net).spare + (one_unless c.turns.from.sender.shut + one_unless c.turns.to.receiver.ended))) c.in-Ok-Again.field-0-is c.in-Ok-Again.ensures.spare in
    record {
      goes = λ x piece ends kept stands.
          let k = i.goes x piece ends kept stands in
          let rounded = rounds_on (λ vtable. (g.dyn-1.0.entry vtable).1) g.N.Sockets.Becomes c.args.from.now c.turns.from c.args.to.now c.turns.to c.args.deadline c.turns.net c.go_round.new.net (g.N.Sockets.net c.turns.net).told c.turns.heard.items (λ x calls. Stands x calls c.turns.from.sender c.turns.heard.items c.turns.enough) (Ok c.in-Ok-Again.field-0) c.go_round.new.from.sender (g.N.Sockets.net c.go_round.new.net).told c.go_round.new.to.receiver c.go_round.new.heard.items i.sender_kept i.kept c.in-Ok-Again.ensures.rounded in
          goes_again g.N.Sockets.Becomes x (encoding_of (is_stream c.args.from.now.stack) (layers_of (λ vtable. (g.dyn-1.0.entry vtable).1) c.args.from.now.chain)) (is_stream c.args.to.now.stack) (layers_of (λ vtable. (g.dyn-1.0.entry vtable).1) c.args.to.now.chain) piece c.args.net.now c.turns.net c.go_round.new.net c.turns.from.sender c.go_round.new.from.sender (g.N.Sockets.net c.turns.net).told (g.N.Sockets.net c.go_round.new.net).told c.turns.to.receiver.ended c.go_round.new.to.receiver.ended (unread_of c.turns.to.receiver.source) (unread_of c.go_round.new.to.receiver.source) c.turns.heard.items c.go_round.new.heard.items c.turns.enough g.met.N.Sockets.becomes_on k c.in-Ok-Again.again (subst (λ r. HasRounded g.N.Sockets.Becomes x k.calls (encoding_of (is_stream c.args.from.now.stack) (layers_of (λ vtable. (g.dyn-1.0.entry vtable).1) c.args.from.now.chain)) (is_stream c.args.to.now.stack) (layers_of (λ vtable. (g.dyn-1.0.entry vtable).1) c.args.to.now.chain) piece c.turns.net c.go_round.new.net (Ok r) c.go_round.new.from.sender (g.N.Sockets.net c.go_round.new.net).told c.go_round.new.to.receiver.ended (unread_of c.go_round.new.to.receiver.source) c.go_round.new.heard.items) c.in-Ok-Again.field-0-is (rounded x k.calls piece ends k.kept k.stands));
      sends = subst (λ z. IsSound (is_stream z.stack) (layers_of (λ vtable. (g.dyn-1.0.entry vtable).1) z.chain) c.go_round.new.from.sender) i.sender_kept c.in-Ok-Again.ensures.sends;
      holds = subst (λ z. IsHeld (g.N.Sockets.net c.go_round.new.net).trace z.socket (is_stream z.stack) c.go_round.new.from.sender.shut z.receiver.ended) i.sender_kept
          (subst (λ r. IfAgain (Ok r) (λ again. IsHeld (g.N.Sockets.net c.go_round.new.net).trace c.turns.from.socket (is_stream c.turns.from.stack) c.go_round.new.from.sender.shut c.turns.from.receiver.ended)) c.in-Ok-Again.field-0-is c.in-Ok-Again.ensures.holds);
      room = subst (λ z. rest_of c.go_round.new.from.sender ≤ ((g.N.Sockets.net c.go_round.new.net).traffic z.socket).room) i.sender_kept (subst (λ r. IfAgain (Ok r) (λ again. rest_of c.go_round.new.from.sender ≤ ((g.N.Sockets.net c.go_round.new.net).traffic c.turns.from.socket).room)) c.in-Ok-Again.field-0-is c.in-Ok-Again.ensures.room);
      rest = c.in-Ok-Again.ensures.rest;
      sound = subst (λ z. IsSoundReceiver (λ vtable. (g.dyn-1.0.entry vtable).1) z.stack (layers_of (λ vtable. (g.dyn-1.0.entry vtable).1) z.chain) c.go_round.new.to.receiver) i.kept c.in-Ok-Again.ensures.sound;
      held = subst (λ (z : Sender). IsHeld (g.N.Sockets.net c.go_round.new.net).trace c.args.to.now.socket (is_stream c.args.to.now.stack) z.shut c.go_round.new.to.receiver.ended) i.moment
          (subst (λ z. IsHeld (g.N.Sockets.net c.go_round.new.net).trace z.socket (is_stream z.stack) c.turns.to.sender.shut c.go_round.new.to.receiver.ended) i.kept
          (subst (λ r. IfAgain (Ok r) (λ again. IsHeld (g.N.Sockets.net c.go_round.new.net).trace c.turns.to.socket (is_stream c.turns.to.stack) c.turns.to.sender.shut c.go_round.new.to.receiver.ended)) c.in-Ok-Again.field-0-is c.in-Ok-Again.ensures.held));
      lags = subst (λ r. IfAgain (Ok r) (λ again. Lags again c.go_round.new.from.sender (unread_of c.go_round.new.to.receiver.source))) c.in-Ok-Again.field-0-is c.in-Ok-Again.ensures.lags;
      spare = (let before = i.spare in omega (arith, before, more));
      moves = moves_on c.args.from.now.socket c.args.to.now.socket (g.N.Sockets.net c.args.net.now) (g.N.Sockets.net c.turns.net) (g.N.Sockets.net c.go_round.new.net) i.moves (subst (λ z. Moves c.args.from.now.socket z.socket (g.N.Sockets.net c.turns.net) (g.N.Sockets.net c.go_round.new.net)) i.kept (subst (λ z. Moves z.socket c.turns.to.socket (g.N.Sockets.net c.turns.net) (g.N.Sockets.net c.go_round.new.net)) i.sender_kept c.in-Ok-Again.ensures.moves));
      sender_kept = kept_on c.args.from.now c.turns.from c.go_round.new.from i.sender_kept c.in-Ok-Again.ensures.sender_kept;
      kept = kept_both c.args.to.now c.turns.to c.go_round.new.to i.kept c.in-Ok-Again.ensures.kept;
      moment = sender_both c.args.to.now.sender c.turns.to.sender c.go_round.new.to.sender i.moment c.in-Ok-Again.ensures.moment;
    }

pub returns-in-Ok-Over-clause-taken : goal.returns-in-Ok-Over-clause-taken
returns-in-Ok-Over-clause-taken g c =
    let i = c.turns.invariant in
    λ x piece ends kept stands.
    let k = i.goes x piece ends kept stands in
    let rounded = rounds_on (λ vtable. (g.dyn-1.0.entry vtable).1) g.N.Sockets.Becomes c.args.from.now c.turns.from c.args.to.now c.turns.to c.args.deadline c.turns.net c.go_round.new.net (g.N.Sockets.net c.turns.net).told c.turns.heard.items (λ x calls. Stands x calls c.turns.from.sender c.turns.heard.items c.turns.enough) (Ok c.in-Ok-Over.field-0) c.go_round.new.from.sender (g.N.Sockets.net c.go_round.new.net).told c.go_round.new.to.receiver c.go_round.new.heard.items i.sender_kept i.kept c.in-Ok-Over.ensures.rounded in
    goes_over g.N.Sockets.Becomes x (encoding_of (is_stream c.args.from.now.stack) (layers_of (λ vtable. (g.dyn-1.0.entry vtable).1) c.args.from.now.chain)) (is_stream c.args.to.now.stack) (layers_of (λ vtable. (g.dyn-1.0.entry vtable).1) c.args.to.now.chain) piece c.args.net.now c.turns.net c.go_round.new.net c.turns.from.sender c.go_round.new.from.sender (g.N.Sockets.net c.turns.net).told (g.N.Sockets.net c.go_round.new.net).told c.turns.to.receiver.ended c.go_round.new.to.receiver.ended (unread_of c.turns.to.receiver.source) (unread_of c.go_round.new.to.receiver.source) c.turns.heard.items c.go_round.new.heard.items c.turns.enough g.met.N.Sockets.becomes_on k c.in-Ok-Over.outcome (subst (λ r. HasRounded g.N.Sockets.Becomes x k.calls (encoding_of (is_stream c.args.from.now.stack) (layers_of (λ vtable. (g.dyn-1.0.entry vtable).1) c.args.from.now.chain)) (is_stream c.args.to.now.stack) (layers_of (λ vtable. (g.dyn-1.0.entry vtable).1) c.args.to.now.chain) piece c.turns.net c.go_round.new.net (Ok r) c.go_round.new.from.sender (g.N.Sockets.net c.go_round.new.net).told c.go_round.new.to.receiver.ended (unread_of c.go_round.new.to.receiver.source) c.go_round.new.heard.items) c.in-Ok-Over.field-0-is (rounded x k.calls piece ends k.kept k.stands))

pub returns-in-Err-clause-taken : goal.returns-in-Err-clause-taken
returns-in-Err-clause-taken g c =
    let i = c.turns.invariant in
    λ x piece ends kept stands.
    let k = i.goes x piece ends kept stands in
    let rounded = rounds_on (λ vtable. (g.dyn-1.0.entry vtable).1) g.N.Sockets.Becomes c.args.from.now c.turns.from c.args.to.now c.turns.to c.args.deadline c.turns.net c.go_round.new.net (g.N.Sockets.net c.turns.net).told c.turns.heard.items (λ x calls. Stands x calls c.turns.from.sender c.turns.heard.items c.turns.enough) (Err c.in-Err.none) c.go_round.new.from.sender (g.N.Sockets.net c.go_round.new.net).told c.go_round.new.to.receiver c.go_round.new.heard.items i.sender_kept i.kept c.in-Err.ensures.rounded in
    goes_short g.N.Sockets.Becomes x (encoding_of (is_stream c.args.from.now.stack) (layers_of (λ vtable. (g.dyn-1.0.entry vtable).1) c.args.from.now.chain)) (is_stream c.args.to.now.stack) (layers_of (λ vtable. (g.dyn-1.0.entry vtable).1) c.args.to.now.chain) piece c.args.net.now c.turns.net c.go_round.new.net c.turns.from.sender c.go_round.new.from.sender (g.N.Sockets.net c.turns.net).told (g.N.Sockets.net c.go_round.new.net).told c.turns.to.receiver.ended c.go_round.new.to.receiver.ended (unread_of c.turns.to.receiver.source) (unread_of c.go_round.new.to.receiver.source) c.turns.heard.items c.go_round.new.heard.items c.turns.enough g.met.N.Sockets.becomes_on k c.in-Err.none (rounded x k.calls piece ends k.kept k.stands)

pub returns-in-Ok-Over-clause-moves : goal.returns-in-Ok-Over-clause-moves
returns-in-Ok-Over-clause-moves g c =
    let i = c.turns.invariant in moves_on c.args.from.now.socket c.args.to.now.socket (g.N.Sockets.net c.args.net.now) (g.N.Sockets.net c.turns.net) (g.N.Sockets.net c.go_round.new.net) i.moves (subst (λ z. Moves c.args.from.now.socket z.socket (g.N.Sockets.net c.turns.net) (g.N.Sockets.net c.go_round.new.net)) i.kept (subst (λ z. Moves z.socket c.turns.to.socket (g.N.Sockets.net c.turns.net) (g.N.Sockets.net c.go_round.new.net)) i.sender_kept c.in-Ok-Over.ensures.moves))

pub returns-in-Err-clause-moves : goal.returns-in-Err-clause-moves
returns-in-Err-clause-moves g c =
    let i = c.turns.invariant in moves_on c.args.from.now.socket c.args.to.now.socket (g.N.Sockets.net c.args.net.now) (g.N.Sockets.net c.turns.net) (g.N.Sockets.net c.go_round.new.net) i.moves (subst (λ z. Moves c.args.from.now.socket z.socket (g.N.Sockets.net c.turns.net) (g.N.Sockets.net c.go_round.new.net)) i.kept (subst (λ z. Moves z.socket c.turns.to.socket (g.N.Sockets.net c.turns.net) (g.N.Sockets.net c.go_round.new.net)) i.sender_kept c.in-Err.ensures.moves))
