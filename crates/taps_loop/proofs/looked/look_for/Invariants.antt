use Rattle.std.proofs.Common.{◌≡◌, ◌-◌, ℕ, List}
use Rattle.taps_chain.specs.Layers.{layers_of}
use Rattle.taps_stack.specs.StackTable.{is_stream}
use Rattle.taps_connection.specs.Inboxes.{IsSoundReceiver}
use Rattle.taps_connection.specs.Sources.{unread_of}
use Rattle.taps_connection.specs.Unread.{count_given}
use Rattle.taps_loop.specs.Looks.{IsReceiving, IsNearer}
use Rattle.taps_loop.proofs.looked.look_for.Given as goal

abbrev pub invariant-looking : goal.invariant-looking
invariant-looking g l =
    record {
      receiving : (piece : ℕ) (read : List (List ℕ)) →
          IsReceiving (is_stream l.fn.connection.stack) (layers_of (λ vtable. (g.dyn-1.0.entry vtable).1) l.fn.connection.chain) piece l.fn.connection.receiver.ended (unread_of l.fn.connection.receiver.source) read l.fn.heard.items →
          IsReceiving (is_stream l.fn.connection.stack) (layers_of (λ vtable. (g.dyn-1.0.entry vtable).1) l.fn.connection.chain) piece l.fn.connection.receiver.ended (unread_of l.connection.receiver.source) read l.heard.items;
      sound : IsSoundReceiver (λ vtable. (g.dyn-1.0.entry vtable).1) l.fn.connection.stack (layers_of (λ vtable. (g.dyn-1.0.entry vtable).1) l.fn.connection.chain) l.connection.receiver;
      ended : l.connection.receiver.ended ≡ l.fn.connection.receiver.ended;
      nearer : IsNearer l.fn.connection.receiver.ended (unread_of l.fn.connection.receiver.source) (unread_of l.connection.receiver.source);
      kept : l.connection ≡ record l.fn.connection { receiver = l.connection.receiver };
    }

abbrev pub decreases-looking : goal.decreases-looking
decreases-looking g l = l.needs - count_given (unread_of l.connection.receiver.source)
