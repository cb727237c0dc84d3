-- What contracts see of the receiving of a connection, and how asking its socket once changes it.
use Rattle.std.specs.Prelude.{◌≡◌, ℕ, max, Bool, true, false, List, [], ◌∷◌, Option, Some, None}
use Rattle.taps_framer.specs.Layers.{Layer}
use Rattle.taps_framer.specs.declared.framer.Framer as framer
use Rattle.taps_stack.specs.declared.stack.Stack.{Stack}
use Rattle.taps_stack.specs.StackTable.{is_stream}
use Rattle.taps_socket.specs.declared.item.Item.{Item}
use Rattle.taps_socket.specs.declared.item.Item.TheVariants as item
use Rattle.taps_socket.specs.declared.timed_call.TimedCall.{TimedCall}
use Rattle.taps_socket.specs.declared.timed_call.TimedKind.TheVariants as kind
use Rattle.taps_socket.specs.Calls.{Call}
use Rattle.taps_socket.specs.Net.{Net}
use Rattle.taps_socket.specs.declared.answers.RecvAnswer.TheVariants as recv
use Rattle.taps_connection.specs.declared.receiver.Receiver.{Receiver}
use Rattle.taps_connection.specs.declared.pulled.Pulled.{Pulled}
use Rattle.taps_connection.specs.declared.pulled.Pulled.TheVariants as pulled
use Rattle.taps_connection.specs.Asks.{HasReceived, HasNotAsked}
use Rattle.taps_connection.specs.Sources.{unread_of, IsSoundSource}
use Rattle.taps_connection.specs.Unread.{Unread, is_stream_of, most_of, with_bytes}

-- the receiver's source is sound for the layers of the chain, and fits the stack
pub record IsSoundReceiver {X : Type 0} {F : X → Type 0} (boxed : (x : X) → framer.Ghosts (F x)) (stack : Stack)
    (fs : List Layer) (r : Receiver X F) : Type 0 where
  pub source : IsSoundSource boxed fs r.source
  pub fits : is_stream_of (unread_of r.source) ≡ is_stream stack

-- what was read and not yet given out; whether the other end ended its sending side; and the connection's greatest time
pub record Inbox : Type 0 where
  pub unread : Unread
  pub ended : Bool
  pub moment : ℕ

abbrev pub inbox_of : {X : Type 0} {F : X → Type 0} → Receiver X F → ℕ → Inbox
inbox_of r moment = record { unread = unread_of r.source; ended = r.ended; moment = moment }

-- What was told, by the bytes that came: some are kept; the end is kept; it was timed; it failed; or memory ran out
-- before the socket was asked, and nothing changed. A time that was reported raises the greatest one.
abbrev pub IsPulledBy : {N : Type 0} → (N → List Call → N → Type 0) → N → N → Net → Net → ℕ → ℕ → List ℕ → Inbox →
    Pulled → Inbox → Type 0
IsPulledBy Becomes before after net net' socket until came i pulled.Got j = (count at : ℕ) ×
    (HasReceived Becomes before after net net' socket (most_of i.unread) until came (recv.Got count at) ×
    (j ≡ record i { unread = with_bytes came i.unread; moment = max i.moment at }))
IsPulledBy Becomes before after net net' socket until came i pulled.Ended j =
    HasReceived Becomes before after net net' socket (most_of i.unread) until came recv.End ×
    (j ≡ record i { ended = true })
IsPulledBy Becomes before after net net' socket until came i (pulled.Timed at) j =
    HasReceived Becomes before after net net' socket (most_of i.unread) until came (recv.Timed at) ×
    (j ≡ record i { moment = max i.moment at })
IsPulledBy Becomes before after net net' socket until came i (pulled.Failed cause) j =
    HasReceived Becomes before after net net' socket (most_of i.unread) until came (recv.Failed cause) × (j ≡ i)
IsPulledBy Becomes before after net net' socket until came i pulled.NoMemory j =
    HasNotAsked Becomes before after net net' × (j ≡ i)

-- the socket was asked once, or memory ran out before
pub record IsPulled {N : Type 0} (Becomes : N → List Call → N → Type 0) (before after : N) (net net' : Net)
    (socket until : ℕ) (i : Inbox) (answer : Pulled) (j : Inbox) : Type 0 where
  pub came : List ℕ
  pub pulled : IsPulledBy Becomes before after net net' socket until came i answer j

-- the receiving did not fail, so that the connection may go on
abbrev pub UnlessFailed : Pulled → Type 0 → Type 0
UnlessFailed pulled.Got P = P
UnlessFailed pulled.Ended P = P
UnlessFailed (pulled.Timed at) P = P
UnlessFailed (pulled.Failed cause) P = Unit {0}
UnlessFailed pulled.NoMemory P = P

-- the items that are added then, and the timed call that is made, if one is
abbrev pub pulled_items : ℕ → Pulled → List Item
pulled_items socket pulled.Got = []
pulled_items socket pulled.Ended = item.Ended socket ∷ []
pulled_items socket (pulled.Timed at) = []
pulled_items socket (pulled.Failed cause) = item.DataFailed socket false cause ∷ []
pulled_items socket pulled.NoMemory = []

abbrev pub pulled_call : ℕ → ℕ → Pulled → Option TimedCall
pulled_call socket until pulled.Got = None
pulled_call socket until pulled.Ended = None
pulled_call socket until (pulled.Timed at) = Some (record { kind = kind.Recv; socket = socket; until = until; at = at })
pulled_call socket until (pulled.Failed cause) = None
pulled_call socket until pulled.NoMemory = None
