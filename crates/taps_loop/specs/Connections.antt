-- The ends of two connections, of which the one sends and the other hears.
use Rattle.std.specs.Prelude.{◌≡◌, ◌≢◌, ◌≤◌, ◌<◌, ◌^◌, ◌+◌, ℕ, List, [], Result}
use Rattle.taps_base.specs.declared.no_memory.NoMemory.{NoMemory}
use Rattle.taps_framer.specs.declared.framer.Framer as framer
use Rattle.taps_chain.specs.ChainLaws.{AreFramers}
use Rattle.taps_chain.specs.Layers.{layers_of}
use Rattle.taps_stack.specs.StackTable.{is_stream}
use Rattle.taps_socket.specs.Calls.{Call}
use Rattle.taps_socket.specs.Net.{Net}
use Rattle.taps_connection.specs.declared.connection.Connection.{Connection}
use Rattle.taps_connection.specs.declared.receiver.Receiver.{Receiver}
use Rattle.taps_connection.specs.declared.sender.Sender.{Sender}
use Rattle.taps_connection.specs.Conditions.{IsHeld}
use Rattle.taps_connection.specs.Encodings.{encoding_of}
use Rattle.taps_connection.specs.Inboxes.{IsSoundReceiver}
use Rattle.taps_connection.specs.Sound.{IsSound}
use Rattle.taps_connection.specs.Sources.{unread_of}
use Rattle.taps_exchange.specs.Changes.{Changes}
use Rattle.taps_exchange.specs.Hearings.{one_unless}
use Rattle.taps_loop.specs.declared.hearing.In.{In}
use Rattle.taps_loop.specs.declared.rounds.Round.{Round}
use Rattle.taps_loop.specs.Loops.{Ends}
use Rattle.taps_loop.specs.Hears.{IsEnd, IsKept, IsInIf, HasAsked}
use Rattle.taps_loop.specs.Rounds.{AreEnds, AreKept, HasRounded}

-- Both ends may take turns, up to a deadline: what is kept of them is sound, and their sockets, which are two, are
-- held.
pub record MayTakeTurns {X : Type 0} {F : X → Type 0} {S T : Type 0} (boxed : (x : X) → framer.Ghosts (F x))
    (from : Connection S X F) (to : Connection T X F) (net : Net) (deadline : ℕ) : Type 0 where
  pub framers : AreFramers (layers_of boxed from.chain)
  pub hearers : AreFramers (layers_of boxed to.chain)
  pub sends : IsSound (is_stream from.stack) (layers_of boxed from.chain) from.sender
  pub holds : IsHeld net.trace from.socket (is_stream from.stack) from.sender.shut from.receiver.ended
  pub sound : IsSoundReceiver boxed to.stack (layers_of boxed to.chain) to.receiver
  pub held : IsHeld net.trace to.socket (is_stream to.stack) to.sender.shut to.receiver.ended
  pub apart : to.socket ≢ from.socket
  pub bounded : deadline < 2 ^ 63
  pub some : net.trace ≢ []

-- the accepted end may ask once, up to a deadline: what is kept of its receiving is sound, its socket is held, and one
-- item more has room
pub record MayAsk {X : Type 0} {F : X → Type 0} {T : Type 0} (boxed : (x : X) → framer.Ghosts (F x))
    (to : Connection T X F) (net : Net) (deadline : ℕ) : Type 0 where
  pub sound : IsSoundReceiver boxed to.stack (layers_of boxed to.chain) to.receiver
  pub held : IsHeld net.trace to.socket (is_stream to.stack) to.sender.shut to.receiver.ended
  pub spare : 1 ≤ net.spare
  pub bounded : deadline < 2 ^ 63
  pub some : net.trace ≢ []

-- It asked at most once. Where the exchange goes on, what it used up is at most the item of the end of its stream, and
-- its socket is held.
pub record HasAskedOnce {X : Type 0} {F : X → Type 0} {T : Type 0} (boxed : (x : X) → framer.Ghosts (F x))
    (to now : Connection T X F) (before after : Net) (IfGoesOn : Type 0 → Type 0) : Type 0 where
  pub changes : Changes to.socket 1 before after
  pub spare : IfGoesOn (before.spare + one_unless now.receiver.ended ≤ after.spare + one_unless to.receiver.ended)
  pub sound : IsSoundReceiver boxed to.stack (layers_of boxed to.chain) now.receiver
  pub held : IfGoesOn (IsHeld after.trace to.socket (is_stream to.stack) to.sender.shut now.receiver.ended)
  pub kept : now ≡ record to { receiver = now.receiver; sender = now.sender }
  pub sender : now.sender ≡ record to.sender { moment = now.sender.moment }

-- the accepted end is this connection's
abbrev pub IsAcceptedEnd : {X : Type 0} {F : X → Type 0} {T : Type 0} → ((x : X) → framer.Ghosts (F x)) → Ends →
    Connection T X F → ℕ → ℕ → Type 0
IsAcceptedEnd boxed x to piece deadline =
    IsEnd x (is_stream to.stack) (layers_of boxed to.chain) to.socket piece deadline

-- what is kept of its receiving stands for the calls
abbrev pub IsKeptOf : {X : Type 0} {F : X → Type 0} {T : Type 0} → ((x : X) → framer.Ghosts (F x)) → Ends →
    List Call → Connection T X F → ℕ → List (List ℕ) → Type 0
IsKeptOf boxed x calls to piece ms =
    IsKept x calls (is_stream to.stack) (layers_of boxed to.chain) piece to.receiver.ended
    (unread_of to.receiver.source) ms

-- it had its turn, behind which this is kept of its receiving, and these messages were heard
abbrev pub HasHeardOnce : {N : Type 0} {X : Type 0} {F : X → Type 0} {T : Type 0} → ((x : X) → framer.Ghosts (F x)) →
    (N → List Call → N → Type 0) → Ends → List Call → Connection T X F → N → N → ℕ → ℕ → ℕ → Result In NoMemory →
    Receiver X F → List (List ℕ) → Type 0
HasHeardOnce boxed Becomes x calls to before after piece more needs result r ms = HasAsked Becomes x calls before after
    (λ later. IsInIf x calls later (is_stream to.stack) (layers_of boxed to.chain) piece more needs result r.ended
    (unread_of r.source) ms)

-- both ends are these connections'
abbrev pub AreEndsOf : {X : Type 0} {F : X → Type 0} {S T : Type 0} → ((x : X) → framer.Ghosts (F x)) → Ends →
    Connection S X F → Connection T X F → ℕ → ℕ → Type 0
AreEndsOf boxed x from to piece deadline =
    AreEnds x (encoding_of (is_stream from.stack) (layers_of boxed from.chain)) from.socket (is_stream to.stack)
    (layers_of boxed to.chain) to.socket piece deadline

-- what is kept of both stands for the calls
abbrev pub AreKeptOf : {X : Type 0} {F : X → Type 0} {S T : Type 0} → ((x : X) → framer.Ghosts (F x)) → Ends →
    List Call → Connection S X F → Connection T X F → ℕ → ℕ → List (List ℕ) → Type 0
AreKeptOf boxed x calls from to piece told ms =
    AreKept x calls (encoding_of (is_stream from.stack) (layers_of boxed from.chain)) (is_stream to.stack)
    (layers_of boxed to.chain) piece from.sender told to.receiver.ended (unread_of to.receiver.source) ms

-- Where a fact holds of the calls, a round goes on behind them: then this is kept of the sending and of the receiving,
-- up to the last reported time, and these messages were heard.
abbrev pub GoesRound : {N : Type 0} {X : Type 0} {F : X → Type 0} {S T : Type 0} → ((x : X) → framer.Ghosts (F x)) →
    (N → List Call → N → Type 0) → Connection S X F → Connection T X F → ℕ → N → N → ℕ → List (List ℕ) →
    (Ends → List Call → Type 0) → Result Round NoMemory → Sender → ℕ → Receiver X F → List (List ℕ) → Type 0
GoesRound boxed Becomes from to deadline before after told ms P result s told' r ms' =
    (x : Ends) (calls : List Call) (piece : ℕ) → AreEndsOf boxed x from to piece deadline →
    AreKeptOf boxed x calls from to piece told ms → P x calls →
    HasRounded Becomes x calls (encoding_of (is_stream from.stack) (layers_of boxed from.chain)) (is_stream to.stack)
    (layers_of boxed to.chain) piece before after result s told' r.ended (unread_of r.source) ms'

-- where a fact holds of the ends before the first call, so does another
abbrev pub FromFirst : {X : Type 0} {F : X → Type 0} {S T : Type 0} → ((x : X) → framer.Ghosts (F x)) →
    Connection S X F → Connection T X F → ℕ → ℕ → List (List ℕ) → (Ends → Type 0) → (Ends → Type 0) → Type 0
FromFirst boxed from to deadline told ms P Q =
    (x : Ends) (piece : ℕ) → AreEndsOf boxed x from to piece deadline → AreKeptOf boxed x [] from to piece told ms →
    P x → Q x
