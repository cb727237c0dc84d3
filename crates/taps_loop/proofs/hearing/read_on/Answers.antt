use Rattle.std.proofs.Common.{◌++◌, ℕ, List, sym, subst}
use Rattle.std.specs.Prelude.{Ok}
use Rattle.taps_chain.specs.Layers.{layers_of}
use Rattle.taps_stack.specs.StackTable.{is_stream}
use Rattle.taps_connection.specs.Sources.{unread_of}
use Rattle.taps_exchange.specs.Members.{calls_on, pieces_read}
use Rattle.taps_loop.specs.Looks.{IsReceiving, HasLooked}
use Rattle.taps_loop.specs.Hears.{in_found, HasAsked, IsReadIf, IsIn}
use Rattle.taps_loop.proofs.Findings.{found_in}
use Rattle.taps_loop.proofs.hearing.read_on.Goals as goal

pub returns-in-Ok-clause-heard : goal.returns-in-Ok-clause-heard
returns-in-Ok-clause-heard g c =
    λ x calls others piece more fixed start is before lack few all.
    let asked = subst (λ a. HasAsked g.N.Sockets.Becomes x calls c.args.net.now c.ask_in_turn.new.net (λ later. IsReadIf x calls later (is_stream c.args.to.now.stack) (layers_of (λ vtable. (g.dyn-1.0.entry vtable).1) c.args.to.now.chain) piece more c.args.needs (Ok a) c.ask_in_turn.new.to.receiver.ended (unread_of c.ask_in_turn.new.to.receiver.source) c.args.heard.now.items)) c.in-Ok-Came.field-0-is (c.in-Ok-Came.ensures.read x calls others piece more c.args.needs c.args.heard.now.items fixed start is before lack few all) in
    let looked = subst (λ z. (piece : ℕ) (read : List (List ℕ)) → IsReceiving (is_stream z.stack) (layers_of (λ vtable. (g.dyn-1.0.entry vtable).1) z.chain) piece c.ask_in_turn.new.to.receiver.ended (unread_of c.ask_in_turn.new.to.receiver.source) read c.args.heard.now.items →
    HasLooked (is_stream z.stack) (layers_of (λ vtable. (g.dyn-1.0.entry vtable).1) z.chain) piece c.args.needs read c.ask_in_turn.new.to.receiver.ended (Ok c.in-Ok.found) (unread_of c.look_for.new.connection.receiver.source) c.look_for.new.heard.items) c.in-Ok-Came.ensures.once.kept c.in-Ok.ensures.looked in
    let found = looked piece (pieces_read (calls_on x.to.socket (asked.later ++ calls))) asked.then_so.kept.receiving in
    let so = found_in x calls asked.later (is_stream c.args.to.now.stack) (layers_of (λ vtable. (g.dyn-1.0.entry vtable).1) c.args.to.now.chain) c.args.to.now.socket piece c.args.deadline more c.args.needs c.ask_in_turn.new.to.receiver.ended (unread_of c.ask_in_turn.new.to.receiver.source) (unread_of c.look_for.new.connection.receiver.source) c.args.heard.now.items c.look_for.new.heard.items c.in-Ok.found fixed start.needs_is asked.elsewhere asked.then_so found in
    record {
      later = asked.later;
      becomes = asked.becomes;
      in_turn = asked.in_turn;
      elsewhere = asked.elsewhere;
      then_so = subst (λ i. IsIn x calls asked.later (is_stream c.args.to.now.stack) (layers_of (λ vtable. (g.dyn-1.0.entry vtable).1) c.args.to.now.chain) piece more c.args.needs i c.look_for.new.connection.receiver.ended (unread_of c.look_for.new.connection.receiver.source) c.look_for.new.heard.items) (sym c.turn_found.ensures)
          (subst (λ e. IsIn x calls asked.later (is_stream c.args.to.now.stack) (layers_of (λ vtable. (g.dyn-1.0.entry vtable).1) c.args.to.now.chain) piece more c.args.needs (in_found c.in-Ok.found) e (unread_of c.look_for.new.connection.receiver.source) c.look_for.new.heard.items) (sym c.in-Ok.ensures.ended) so);
    }

pub returns-in-Ok-Nothing-clause-heard : goal.returns-in-Ok-Nothing-clause-heard
returns-in-Ok-Nothing-clause-heard g c =
    λ x calls others piece more fixed start is before lack few all. subst (λ a. HasAsked g.N.Sockets.Becomes x calls c.args.net.now c.ask_in_turn.new.net (λ later. IsReadIf x calls later (is_stream c.args.to.now.stack) (layers_of (λ vtable. (g.dyn-1.0.entry vtable).1) c.args.to.now.chain) piece more c.args.needs (Ok a) c.ask_in_turn.new.to.receiver.ended (unread_of c.ask_in_turn.new.to.receiver.source) c.args.heard.now.items)) c.in-Ok-Nothing.field-0-is (c.in-Ok-Nothing.ensures.read x calls others piece more c.args.needs c.args.heard.now.items fixed start is before lack few all)

pub returns-in-Ok-Over-clause-heard : goal.returns-in-Ok-Over-clause-heard
returns-in-Ok-Over-clause-heard g c =
    λ x calls others piece more fixed start is before lack few all. subst (λ a. HasAsked g.N.Sockets.Becomes x calls c.args.net.now c.ask_in_turn.new.net (λ later. IsReadIf x calls later (is_stream c.args.to.now.stack) (layers_of (λ vtable. (g.dyn-1.0.entry vtable).1) c.args.to.now.chain) piece more c.args.needs (Ok a) c.ask_in_turn.new.to.receiver.ended (unread_of c.ask_in_turn.new.to.receiver.source) c.args.heard.now.items)) c.in-Ok-Over.field-0-is (c.in-Ok-Over.ensures.read x calls others piece more c.args.needs c.args.heard.now.items fixed start is before lack few all)

pub returns-in-Err-look_for-clause-heard : goal.returns-in-Err-look_for-clause-heard
returns-in-Err-look_for-clause-heard g c =
    λ x calls others piece more fixed start is before lack few all.
    let asked = subst (λ a. HasAsked g.N.Sockets.Becomes x calls c.args.net.now c.ask_in_turn.new.net (λ later. IsReadIf x calls later (is_stream c.args.to.now.stack) (layers_of (λ vtable. (g.dyn-1.0.entry vtable).1) c.args.to.now.chain) piece more c.args.needs (Ok a) c.ask_in_turn.new.to.receiver.ended (unread_of c.ask_in_turn.new.to.receiver.source) c.args.heard.now.items)) c.in-Ok-Came.field-0-is (c.in-Ok-Came.ensures.read x calls others piece more c.args.needs c.args.heard.now.items fixed start is before lack few all) in
    record { later = asked.later; becomes = asked.becomes; in_turn = asked.in_turn; elsewhere = asked.elsewhere; then_so = tt }

pub returns-in-Err-clause-heard : goal.returns-in-Err-clause-heard
returns-in-Err-clause-heard g c =
    λ x calls others piece more fixed start is before lack few all. c.in-Err.ensures.read x calls others piece more c.args.needs c.args.heard.now.items fixed start is before lack few all
