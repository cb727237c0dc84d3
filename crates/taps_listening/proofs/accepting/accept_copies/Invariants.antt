use Rattle.std.proofs.Common.{◌≡◌, ◌≤◌, drop}
use Rattle.taps_chain.specs.Layers.{layers_of}
use Rattle.taps_message.specs.Queues.{empty_queue}
use Rattle.taps_stack.specs.StackTable.{is_stream}
use Rattle.taps_connection.specs.Sound.{IsSound}
use Rattle.taps_exchange.specs.Accepting.{handed}
use Rattle.taps_listening.proofs.accepting.accept_copies.Given as goal

abbrev pub invariant-accepting : goal.invariant-accepting
invariant-accepting g l =
    record {
      queue : handed l.at l.connection.sender.queue.queue (drop l.message-index l.messages) ≡ handed l.at empty_queue l.messages;
      moment : l.connection.sender.moment ≤ l.at;
      reached : 1 ≤ l.message-index → l.connection.sender.moment ≡ l.at;
      sound : IsSound (is_stream l.fn.connection.stack) (layers_of (λ vtable. (g.dyn-1.0.entry vtable).1) l.fn.connection.chain) l.connection.sender;
      sender : l.connection.sender ≡ record l.fn.connection.sender { queue = l.connection.sender.queue; moment = l.connection.sender.moment };
      kept : l.connection ≡ record l.fn.connection { sender = l.connection.sender };
    }
