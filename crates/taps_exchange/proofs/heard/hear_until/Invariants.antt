use Rattle.std.proofs.Common.{◌≡◌, ◌≤◌, ◌+◌, ◌-◌, ◌*◌, ◌++◌, ℕ, List}
use Rattle.std.specs.Prelude.{map}
use Rattle.taps_chain.specs.Layers.{layers_of}
use Rattle.taps_stack.specs.StackTable.{is_stream}
use Rattle.taps_connection.specs.Conditions.{IsHeld}
use Rattle.taps_connection.specs.Histories.{message, Represents}
use Rattle.taps_connection.specs.Inboxes.{IsSoundReceiver}
use Rattle.taps_connection.specs.Sources.{unread_of}
use Rattle.taps_connection.specs.Unread.{count_given}
use Rattle.taps_exchange.specs.Changes.{Changes}
use Rattle.taps_exchange.specs.Decodings.{decoding_of}
use Rattle.taps_exchange.specs.Hearings.{Fits, one_unless, to_come}
use Rattle.taps_exchange.proofs.HearingOn.{HearsOn}
use Rattle.taps_exchange.proofs.heard.hear_until.Given as goal

abbrev pub invariant-hearing : goal.invariant-hearing
invariant-hearing g l =
    record {
      hears : (piece : ℕ) (read before : List (List ℕ)) →
          Fits (is_stream l.fn.connection.stack) (layers_of (λ vtable. (g.dyn-1.0.entry vtable).1) l.fn.connection.chain) piece (unread_of l.fn.connection.receiver.source) →
          Represents (layers_of (λ vtable. (g.dyn-1.0.entry vtable).1) l.fn.connection.chain) l.fn.connection.receiver.ended (unread_of l.fn.connection.receiver.source) read (map message (before ++ l.fn.heard.items)) →
          HearsOn g.N.Sockets.Becomes (decoding_of (is_stream l.fn.connection.stack) (layers_of (λ vtable. (g.dyn-1.0.entry vtable).1) l.fn.connection.chain)) (layers_of (λ vtable. (g.dyn-1.0.entry vtable).1) l.fn.connection.chain)
          l.fn.net l.net l.fn.connection.socket piece l.until l.needs read l.fn.connection.receiver.ended l.connection.receiver.ended (unread_of l.connection.receiver.source) (before ++ l.heard.items);
      fits : (piece : ℕ) →
          Fits (is_stream l.fn.connection.stack) (layers_of (λ vtable. (g.dyn-1.0.entry vtable).1) l.fn.connection.chain) piece (unread_of l.fn.connection.receiver.source) →
          Fits (is_stream l.fn.connection.stack) (layers_of (λ vtable. (g.dyn-1.0.entry vtable).1) l.fn.connection.chain) piece (unread_of l.connection.receiver.source);
      sound : IsSoundReceiver (λ vtable. (g.dyn-1.0.entry vtable).1) l.fn.connection.stack (layers_of (λ vtable. (g.dyn-1.0.entry vtable).1) l.fn.connection.chain) l.connection.receiver;
      held : IsHeld (g.N.Sockets.net l.net).trace l.fn.connection.socket (is_stream l.fn.connection.stack) l.fn.connection.sender.shut l.connection.receiver.ended;
      few : count_given (unread_of l.connection.receiver.source) ≤ l.needs;
      changes : Changes l.fn.connection.socket 1 (g.N.Sockets.net l.fn.net) (g.N.Sockets.net l.net);
      spare : (g.N.Sockets.net l.fn.net).spare + one_unless l.connection.receiver.ended ≤ (g.N.Sockets.net l.net).spare + one_unless l.fn.connection.receiver.ended;
      kept : l.connection ≡ record l.fn.connection { receiver = l.connection.receiver; sender = l.connection.sender };
      sender : l.connection.sender ≡ record l.fn.connection.sender { moment = l.connection.sender.moment };
      moment : l.fn.connection.sender.moment ≤ (g.N.Sockets.net l.fn.net).told → l.connection.sender.moment ≤ (g.N.Sockets.net l.net).told;
    }

abbrev pub decreases-hearing : goal.decreases-hearing
decreases-hearing g l = (l.needs - count_given (unread_of l.connection.receiver.source)) * 8388612 + to_come l.connection.receiver.ended (unread_of l.connection.receiver.source)
