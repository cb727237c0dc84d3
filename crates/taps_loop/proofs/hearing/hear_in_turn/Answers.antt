use Rattle.std.proofs.Common.{◌≡◌, ◌<◌, [], ℕ, List, length, refl, sym, subst}
use Rattle.taps_chain.specs.Layers.{layers_of}
use Rattle.taps_stack.specs.StackTable.{is_stream}
use Rattle.taps_socket.specs.Calls.{Call}
use Rattle.taps_connection.specs.Sources.{unread_of}
use Rattle.taps_exchange.specs.Decodings.{decoding_of}
use Rattle.taps_exchange.specs.Hearings.{IsLacking}
use Rattle.taps_exchange.specs.Members.{calls_on, pieces_read}
use Rattle.taps_exchange.specs.Turns.{Turn}
use Rattle.taps_loop.specs.declared.hearing.In.TheVariants as in_turn
use Rattle.taps_loop.specs.Loops.{Ends}
use Rattle.taps_loop.specs.Looks.{AreAll, IsFound}
use Rattle.taps_loop.specs.Hears.{one_true, IsEnd, IsKept, IsToHear, HasAsked, IsIn, IsInIf}
use Rattle.taps_loop.proofs.Findings.{enough_in, over_in}
use Rattle.taps_loop.proofs.MayAsking.{asks_looked}
use Rattle.taps_loop.proofs.hearing.hear_in_turn.Goals as goal

pub read_on-requires-clause-asks : goal.read_on-requires-clause-asks
read_on-requires-clause-asks g c =
    asks_looked (λ vtable. (g.dyn-1.0.entry vtable).1) c.args.to.now c.look_for.new.connection (g.N.Sockets.net c.args.net.now) c.args.deadline c.in-Ok-Lacks.ensures.kept c.in-Ok-Lacks.ensures.ended c.in-Ok-Lacks.ensures.sound c.requires.asks

pub returns-in-Ok-Enough-clause-heard : goal.returns-in-Ok-Enough-clause-heard
returns-in-Ok-Enough-clause-heard g c =
    let to_layers = layers_of (λ vtable. (g.dyn-1.0.entry vtable).1) c.args.to.now.chain in
    λ x calls others piece more fixed start is before.
    let found = subst (λ l. IsFound (is_stream c.args.to.now.stack) to_layers piece c.args.needs (pieces_read (calls_on x.to.socket calls)) c.args.to.now.receiver.ended l (unread_of c.look_for.new.connection.receiver.source) c.look_for.new.heard.items) c.in-Ok-Enough.field-0-is (c.in-Ok-Enough.ensures.looked piece (pieces_read (calls_on x.to.socket calls)) before.receiving) in
    record {
      later = [];
      becomes = g.met.N.Sockets.becomes_itself c.args.net.now;
      in_turn = start.in_turn;
      elsewhere = refl;
      then_so = subst (λ e. IsIn x calls [] (is_stream c.args.to.now.stack) to_layers piece more c.args.needs in_turn.Enough e (unread_of c.look_for.new.connection.receiver.source) c.look_for.new.heard.items) (sym c.in-Ok-Enough.ensures.ended)
          (enough_in x calls (is_stream c.args.to.now.stack) to_layers c.args.to.now.socket piece c.args.deadline more c.args.needs c.args.to.now.receiver.ended (unread_of c.look_for.new.connection.receiver.source) c.look_for.new.heard.items fixed start.needs_is before.ended_is found);
    }

pub returns-in-Ok-Over-clause-heard : goal.returns-in-Ok-Over-clause-heard
returns-in-Ok-Over-clause-heard g c =
    let to_layers = layers_of (λ vtable. (g.dyn-1.0.entry vtable).1) c.args.to.now.chain in
    λ x calls others piece more fixed start is before.
    let found = subst (λ l. IsFound (is_stream c.args.to.now.stack) to_layers piece c.args.needs (pieces_read (calls_on x.to.socket calls)) c.args.to.now.receiver.ended l (unread_of c.look_for.new.connection.receiver.source) c.look_for.new.heard.items) c.in-Ok-Over.field-0-is (c.in-Ok-Over.ensures.looked piece (pieces_read (calls_on x.to.socket calls)) before.receiving) in
    record {
      later = [];
      becomes = g.met.N.Sockets.becomes_itself c.args.net.now;
      in_turn = start.in_turn;
      elsewhere = refl;
      then_so = subst (λ e. IsIn x calls [] (is_stream c.args.to.now.stack) to_layers piece more c.args.needs (in_turn.Over c.in-Ok-Over.outcome) e (unread_of c.look_for.new.connection.receiver.source) c.look_for.new.heard.items) (sym c.in-Ok-Over.ensures.ended)
          (over_in x calls others (is_stream c.args.to.now.stack) to_layers c.args.to.now.socket piece c.args.deadline more c.args.needs (g.N.Sockets.net c.args.net.now).told c.args.to.now.receiver.ended (unread_of c.look_for.new.connection.receiver.source) c.look_for.new.heard.items c.in-Ok-Over.outcome fixed start before.ended_is found);
    }

pub returns-in-Ok-Lacks-clause-heard : goal.returns-in-Ok-Lacks-clause-heard
returns-in-Ok-Lacks-clause-heard g c =
    let to_layers = layers_of (λ vtable. (g.dyn-1.0.entry vtable).1) c.args.to.now.chain in
    λ x calls others piece more fixed start is before.
    let found = subst (λ l. IsFound (is_stream c.args.to.now.stack) to_layers piece c.args.needs (pieces_read (calls_on x.to.socket calls)) c.args.to.now.receiver.ended l (unread_of c.look_for.new.connection.receiver.source) c.look_for.new.heard.items) c.in-Ok-Lacks.field-0-is (c.in-Ok-Lacks.ensures.looked piece (pieces_read (calls_on x.to.socket calls)) before.receiving) in
    let kept : IsKept x calls (is_stream c.args.to.now.stack) to_layers piece c.look_for.new.connection.receiver.ended (unread_of c.look_for.new.connection.receiver.source) c.look_for.new.heard.items =
    subst (λ e. IsKept x calls (is_stream c.args.to.now.stack) to_layers piece e (unread_of c.look_for.new.connection.receiver.source) c.look_for.new.heard.items) (sym c.in-Ok-Lacks.ensures.ended) (record { ended_is = before.ended_is; receiving = found.0 }) in
    let lack : IsLacking (decoding_of (is_stream c.args.to.now.stack) to_layers) piece c.args.needs (pieces_read (calls_on x.to.socket calls)) c.look_for.new.connection.receiver.ended (unread_of c.look_for.new.connection.receiver.source) c.look_for.new.heard.items =
    subst (λ e. IsLacking (decoding_of (is_stream c.args.to.now.stack) to_layers) piece c.args.needs (pieces_read (calls_on x.to.socket calls)) e (unread_of c.look_for.new.connection.receiver.source) c.look_for.new.heard.items) (sym c.in-Ok-Lacks.ensures.ended) found.3 in
    let all : AreAll (decoding_of (is_stream c.args.to.now.stack) to_layers) (pieces_read (calls_on x.to.socket calls)) c.look_for.new.connection.receiver.ended c.look_for.new.heard.items = subst (λ e. AreAll (decoding_of (is_stream c.args.to.now.stack) to_layers) (pieces_read (calls_on x.to.socket calls)) e c.look_for.new.heard.items) (sym c.in-Ok-Lacks.ensures.ended) found.5 in
    let read_on = subst (λ z. (x : Ends) (calls : List Call) (others : Turn) (piece more : ℕ) →
    IsEnd x (is_stream z.stack) (layers_of (λ vtable. (g.dyn-1.0.entry vtable).1) z.chain) z.socket piece c.args.deadline →
    IsToHear x calls others more c.args.needs (g.N.Sockets.net c.args.net.now).told → more ≡ one_true c.args.waits →
    IsKept x calls (is_stream z.stack) (layers_of (λ vtable. (g.dyn-1.0.entry vtable).1) z.chain) piece c.look_for.new.connection.receiver.ended (unread_of c.look_for.new.connection.receiver.source) c.look_for.new.heard.items →
    IsLacking (decoding_of (is_stream z.stack) (layers_of (λ vtable. (g.dyn-1.0.entry vtable).1) z.chain)) piece c.args.needs (pieces_read (calls_on x.to.socket calls)) c.look_for.new.connection.receiver.ended (unread_of c.look_for.new.connection.receiver.source) c.look_for.new.heard.items →
    length c.look_for.new.heard.items < c.args.needs →
    AreAll (decoding_of (is_stream z.stack) (layers_of (λ vtable. (g.dyn-1.0.entry vtable).1) z.chain)) (pieces_read (calls_on x.to.socket calls)) c.look_for.new.connection.receiver.ended c.look_for.new.heard.items →
    HasAsked g.N.Sockets.Becomes x calls c.args.net.now c.read_on.new.net (λ later. IsInIf x calls later (is_stream z.stack) (layers_of (λ vtable. (g.dyn-1.0.entry vtable).1) z.chain) piece more c.args.needs
    c.read_on.result c.read_on.new.to.receiver.ended (unread_of c.read_on.new.to.receiver.source) c.read_on.new.heard.items)) c.in-Ok-Lacks.ensures.kept c.read_on.ensures.heard in
    read_on x calls others piece more fixed start is kept lack found.4 all
