use Rattle.std.proofs.Common.{◌≡◌, ◌≤◌, false}
use Rattle.taps_chain.specs.Layers.{layers_of}
use Rattle.taps_stack.specs.StackTable.{is_stream}
use Rattle.taps_connection.specs.Conditions.{IsHeld}
use Rattle.taps_connection.specs.Encodings.{encoding_of}
use Rattle.taps_connection.specs.Senders.{rest_of}
use Rattle.taps_connection.specs.Sound.{IsSound}
use Rattle.taps_exchange.specs.Changes.{Changes}
use Rattle.taps_exchange.proofs.SendingAll.{SendsOn, waiting}
use Rattle.taps_exchange.proofs.sent.send_all.Given as goal

abbrev pub invariant-sending : goal.invariant-sending
invariant-sending g l =
    record {
      sends : SendsOn g.N.Sockets.Becomes (encoding_of (is_stream l.fn.connection.stack) (layers_of (λ vtable. (g.dyn-1.0.entry vtable).1) l.fn.connection.chain)) l.fn.net l.net l.fn.connection.socket l.until l.fn.connection.sender l.connection.sender;
      changes : Changes l.fn.connection.socket 1 (g.N.Sockets.net l.fn.net) (g.N.Sockets.net l.net);
      still_open : l.connection.sender.shut ≡ false → (g.N.Sockets.net l.net).spare ≡ (g.N.Sockets.net l.fn.net).spare;
      sound : IsSound (is_stream l.fn.connection.stack) (layers_of (λ vtable. (g.dyn-1.0.entry vtable).1) l.fn.connection.chain) l.connection.sender;
      held : IsHeld (g.N.Sockets.net l.net).trace l.fn.connection.socket (is_stream l.fn.connection.stack) l.connection.sender.shut l.fn.connection.receiver.ended;
      room : rest_of l.connection.sender ≤ ((g.N.Sockets.net l.net).traffic l.fn.connection.socket).room;
      kept : l.connection ≡ record l.fn.connection { sender = l.connection.sender };
    }

abbrev pub decreases-sending : goal.decreases-sending
decreases-sending g l = waiting l.connection.sender
