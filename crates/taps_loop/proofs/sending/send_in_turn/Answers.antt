use Rattle.std.proofs.Common.{◌<◌, ◌^◌, sym, subst, arith}
use Rattle.taps_chain.specs.Layers.{layers_of}
use Rattle.taps_connection.specs.Encodings.{encoding_of}
use Rattle.taps_stack.specs.StackTable.{is_stream}
use Rattle.taps_loop.specs.Sends.{HasTurned}
use Rattle.taps_loop.proofs.Sendings.{has_bytes, turned_at, shown_rises}
use Rattle.taps_loop.proofs.sending.send_in_turn.Goals as goal

pub returns-clause-turned : goal.returns-clause-turned
returns-clause-turned g c =
    λ x calls start.
    let small : c.args.from.now.sender.sent < 2 ^ 64 = (let k = c.requires.sound.few in let n = c.requires.sound.bounded in omega (arith, k, n)) in
    let fits : c.drive_out-pushed.new.self.sender.sent < 2 ^ 64 = (let k = c.drive_out-pushed.ensures.sound.few in let n = c.drive_out-pushed.ensures.sound.bounded in omega (arith, k, n)) in
    subst (λ r. HasTurned g.N.Sockets.Becomes x calls (encoding_of (is_stream c.args.from.now.stack) (layers_of (λ vtable. (g.dyn-1.0.entry vtable).1) c.args.from.now.chain)) c.args.net.now c.drive_out-pushed.new.net r c.drive_out-pushed.new.self.sender) (sym c.turn_of.ensures)
    (turned_at g.N.Sockets.Becomes x calls (encoding_of (is_stream c.args.from.now.stack) (layers_of (λ vtable. (g.dyn-1.0.entry vtable).1) c.args.from.now.chain)) c.args.from.now.socket c.args.net.now c.drive_out-pushed.new.net c.args.until c.args.deadline c.args.from.now.sender c.drive_out-pushed.new.self.sender c.drive_out-pushed.result start
    (has_bytes (is_stream c.args.from.now.stack) (layers_of (λ vtable. (g.dyn-1.0.entry vtable).1) c.args.from.now.chain) c.requires.framers) small c.requires.rest fits c.drive_out-pushed.ensures.driven)

pub returns-clause-rises : goal.returns-clause-rises
returns-clause-rises g c =
    let d = c.drive_out-pushed.ensures.driven in
    shown_rises (g.N.Sockets.net c.args.net.now) (g.N.Sockets.net c.drive_out-pushed.new.net) d.calls (g.met.N.Sockets.shows c.args.net.now c.drive_out-pushed.new.net d.calls d.becomes)
