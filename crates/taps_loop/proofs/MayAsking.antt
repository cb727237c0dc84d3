-- The ends may still take turns, and the accepted one may still ask: behind a call of the other socket, and behind a
-- look in what was read.
use Rattle.std.proofs.Common.{◌≡◌, ◌≢◌, ℕ, ◌≤◌, sym, subst, arith}
use Rattle.taps_framer.specs.declared.framer.Framer as framer
use Rattle.taps_chain.specs.Layers.{layers_of}
use Rattle.taps_stack.specs.StackTable.{is_stream}
use Rattle.taps_socket.specs.Net.{Net}
use Rattle.taps_connection.specs.declared.connection.Connection.{Connection}
use Rattle.taps_connection.specs.Conditions.{IsHeld}
use Rattle.taps_connection.specs.Inboxes.{IsSoundReceiver}
use Rattle.taps_exchange.specs.Changes.{Changes}
use Rattle.taps_loop.specs.Connections.{MayTakeTurns, MayAsk}
use Rattle.taps_loop.proofs.Acceptings.{some_items}
use Rattle.taps_loop.proofs.Moving.{held_apart}

-- items of the other socket were added, at most one
pub asks_apart : {X : Type 0} {F : X → Type 0} {T : Type 0} (boxed : (x : X) → framer.Ghosts (F x)) (to : Connection T X F) (o : ℕ) (a b : Net) (deadline : ℕ) → to.socket ≢ o → 2 ≤ a.spare → Changes o 1 a b → MayAsk boxed to a deadline → MayAsk boxed to b deadline
asks_apart boxed to o a b deadline apart two c h =
    let held : IsHeld b.trace to.socket (is_stream to.stack) to.sender.shut to.receiver.ended = held_apart to.socket o 1 a b (is_stream to.stack) to.sender.shut to.receiver.ended apart c h.held in
    record {
      sound = h.sound;
      held = held;
      spare = (let few = c.few in let spare = c.spare in omega (arith, few, spare, two));
      bounded = h.bounded;
      some = some_items b.trace to.socket (is_stream to.stack) to.sender.shut to.receiver.ended held;
    }

-- messages were given out of what was read
pub asks_looked : {X : Type 0} {F : X → Type 0} {T : Type 0} (boxed : (x : X) → framer.Ghosts (F x)) (to now : Connection T X F) (net : Net) (deadline : ℕ) → now ≡ record to { receiver = now.receiver } → now.receiver.ended ≡ to.receiver.ended → IsSoundReceiver boxed to.stack (layers_of boxed to.chain) now.receiver → MayAsk boxed to net deadline → MayAsk boxed now net deadline
asks_looked boxed to now net deadline kept ended sound h =
    subst (λ z. MayAsk boxed z net deadline) (sym kept)
    (record {
      sound = sound;
      held = subst (λ e. IsHeld net.trace to.socket (is_stream to.stack) to.sender.shut e) (sym ended) h.held;
      spare = h.spare;
      bounded = h.bounded;
      some = h.some;
    })

pub turns_looked : {X : Type 0} {F : X → Type 0} {S T : Type 0} (boxed : (x : X) → framer.Ghosts (F x)) (from : Connection S X F) (to now : Connection T X F) (net : Net) (deadline : ℕ) → now ≡ record to { receiver = now.receiver } → now.receiver.ended ≡ to.receiver.ended → IsSoundReceiver boxed to.stack (layers_of boxed to.chain) now.receiver → MayTakeTurns boxed from to net deadline → MayTakeTurns boxed from now net deadline
turns_looked boxed from to now net deadline kept ended sound h =
    subst (λ z. MayTakeTurns boxed from z net deadline) (sym kept)
    (record {
      framers = h.framers;
      hearers = h.hearers;
      sends = h.sends;
      holds = h.holds;
      sound = sound;
      held = subst (λ e. IsHeld net.trace to.socket (is_stream to.stack) to.sender.shut e) (sym ended) h.held;
      apart = h.apart;
      bounded = h.bounded;
      some = h.some;
    })
