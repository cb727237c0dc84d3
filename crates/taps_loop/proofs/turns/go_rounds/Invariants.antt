use Rattle.std.proofs.Common.{◌≡◌, ◌≤◌, ◌+◌, ℕ, []}
use Rattle.taps_chain.specs.Layers.{layers_of}
use Rattle.taps_stack.specs.StackTable.{is_stream}
use Rattle.taps_connection.specs.Conditions.{IsHeld}
use Rattle.taps_connection.specs.Encodings.{encoding_of}
use Rattle.taps_connection.specs.Inboxes.{IsSoundReceiver}
use Rattle.taps_connection.specs.Senders.{rest_of}
use Rattle.taps_connection.specs.Sound.{IsSound}
use Rattle.taps_connection.specs.Sources.{unread_of}
use Rattle.taps_exchange.specs.Hearings.{one_unless}
use Rattle.taps_loop.specs.Connections.{AreEndsOf, AreKeptOf}
use Rattle.taps_loop.specs.Loops.{Ends}
use Rattle.taps_loop.specs.Sends.{HasRest, count_left}
use Rattle.taps_loop.specs.Rounds.{Stands, Lags, Moves, rest_by}
use Rattle.taps_loop.proofs.Going.{GoesOn}
use Rattle.taps_loop.proofs.turns.go_rounds.Given as goal

abbrev pub invariant-turns : goal.invariant-turns
invariant-turns g l =
    record {
      goes : (x : Ends) (piece : ℕ) →
          AreEndsOf (λ vtable. (g.dyn-1.0.entry vtable).1) x l.fn.from l.fn.to piece l.deadline →
          AreKeptOf (λ vtable. (g.dyn-1.0.entry vtable).1) x [] l.fn.from l.fn.to piece (g.N.Sockets.net l.fn.net).told l.fn.heard.items →
          Stands x [] l.fn.from.sender l.fn.heard.items l.first →
          GoesOn g.N.Sockets.Becomes x (encoding_of (is_stream l.fn.from.stack) (layers_of (λ vtable. (g.dyn-1.0.entry vtable).1) l.fn.from.chain)) (is_stream l.fn.to.stack) (layers_of (λ vtable. (g.dyn-1.0.entry vtable).1) l.fn.to.chain) piece
          l.fn.net l.net l.from.sender (g.N.Sockets.net l.net).told l.to.receiver.ended (unread_of l.to.receiver.source) l.heard.items l.enough;
      sends : IsSound (is_stream l.fn.from.stack) (layers_of (λ vtable. (g.dyn-1.0.entry vtable).1) l.fn.from.chain) l.from.sender;
      holds : IsHeld (g.N.Sockets.net l.net).trace l.fn.from.socket (is_stream l.fn.from.stack) l.from.sender.shut l.fn.from.receiver.ended;
      room : rest_of l.from.sender ≤ ((g.N.Sockets.net l.net).traffic l.fn.from.socket).room;
      rest : HasRest l.from.sender.begun;
      sound : IsSoundReceiver (λ vtable. (g.dyn-1.0.entry vtable).1) l.fn.to.stack (layers_of (λ vtable. (g.dyn-1.0.entry vtable).1) l.fn.to.chain) l.to.receiver;
      held : IsHeld (g.N.Sockets.net l.net).trace l.fn.to.socket (is_stream l.fn.to.stack) l.fn.to.sender.shut l.to.receiver.ended;
      lags : Lags l.enough l.from.sender (unread_of l.to.receiver.source);
      spare : (g.N.Sockets.net l.fn.net).spare + (one_unless l.from.sender.shut + one_unless l.to.receiver.ended) ≤ (g.N.Sockets.net l.net).spare + (one_unless l.fn.from.sender.shut + one_unless l.fn.to.receiver.ended);
      moves : Moves l.fn.from.socket l.fn.to.socket (g.N.Sockets.net l.fn.net) (g.N.Sockets.net l.net);
      sender_kept : l.from ≡ record l.fn.from { sender = l.from.sender };
      kept : l.to ≡ record l.fn.to { receiver = l.to.receiver; sender = l.to.sender };
      moment : l.to.sender ≡ record l.fn.to.sender { moment = l.to.sender.moment };
    }

abbrev pub decreases-turns : goal.decreases-turns
decreases-turns g l = count_left l.from.sender + rest_by l.deadline (g.N.Sockets.net l.net).told l.to.receiver.ended (unread_of l.to.receiver.source)
