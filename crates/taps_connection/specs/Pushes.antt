-- How bytes are pushed out on a socket, and how that ends.
use Rattle.std.specs.Prelude.{◌≡◌, ℕ, ◌+◌, ◌<◌, ◌≤◌, Bool, true, false, List, [], ◌∷◌, ◌++◌, take, drop, length, Option, Some, None}
use Rattle.std.specs.List.{concat}
use Rattle.taps_message.specs.declared.accepted.Accepted.{Accepted}
use Rattle.taps_socket.specs.declared.item.Item.{Item}
use Rattle.taps_socket.specs.declared.item.Item.TheVariants as item
use Rattle.taps_socket.specs.declared.timed_call.TimedCall.{TimedCall}
use Rattle.taps_socket.specs.declared.timed_call.TimedKind.TheVariants as kind
use Rattle.taps_socket.specs.declared.answers.SendAnswer.TheVariants as send
use Rattle.taps_socket.specs.Calls.{Call, sends, items_of}
use Rattle.taps_socket.specs.Net.{Traffic}
use Rattle.taps_connection.specs.declared.sending.Pause.{Pause}
use Rattle.taps_connection.specs.declared.sending.Pause.TheVariants as pause
use Rattle.taps_connection.specs.Encodings.{Encoding}
use Rattle.taps_connection.specs.Outboxes.{Outbox, take_turn, with_rest}
use Rattle.taps_connection.specs.Runs.{IsRun, AllGo, EndsWith}

-- the outbox with this rest of the begun message, at a moment
abbrev pub left_at : Encoding → Outbox → ℕ → ℕ → Bool → List ℕ → List Accepted → Outbox
left_at e box at number ends rest behind =
    with_rest (take_turn e at (box.sent + 1) box.expired behind) (record box { moment = at }) number ends rest behind

-- where bytes are pushed out, whichever message they are of, the calls are those that are asked
abbrev pub IsPush : ℕ → ℕ → List ℕ → ℕ → ℕ → List Call → ℕ → ℕ → Type 0
IsPush socket until bytes from at calls taken moment =
    (e : Encoding) (box : Outbox) (number : ℕ) (ends : Bool) (behind : List Accepted) →
    IsRun e socket until (left_at e box at number ends (drop from bytes) behind) calls
    (left_at e box moment number ends (drop taken bytes) behind)

-- calls on sockets while bytes are pushed out: none was timed or failed, and none added an item
pub record IsPushing {N : Type 0} (Becomes : N → List Call → N → Type 0) (before after : N) (socket until : ℕ)
    (bytes : List ℕ) (from at taken moment : ℕ) : Type 0 where
  pub calls : List Call
  pub becomes : Becomes before calls after
  pub push : IsPush socket until bytes from at calls taken moment
  pub goes : AllGo calls
  pub quiet : items_of calls ≡ []

-- pushing ends: all is taken, or the newest call was timed, or it failed
abbrev pub IsPause : ℕ → ℕ → List ℕ → ℕ → Pause → List Call → Type 0
IsPause socket until bytes taken pause.Whole calls = (taken ≡ length bytes) × AllGo calls × (items_of calls ≡ [])
IsPause socket until bytes taken (pause.Timed at) calls =
    (taken < length bytes) × EndsWith calls (sends socket (drop taken bytes) until (send.Timed at)) ×
    (items_of calls ≡ [])
IsPause socket until bytes taken (pause.Failed cause) calls =
    (taken < length bytes) × EndsWith calls (sends socket (drop taken bytes) until (send.Failed cause)) ×
    (items_of calls ≡ item.DataFailed socket true cause ∷ [])

-- calls that were made, and how pushing ended
pub record HasPushed {N : Type 0} (Becomes : N → List Call → N → Type 0) (before after : N) (socket until : ℕ)
    (bytes : List ℕ) (from at taken moment : ℕ) (p : Pause) : Type 0 where
  pub calls : List Call
  pub becomes : Becomes before calls after
  pub push : IsPush socket until bytes from at calls taken moment
  pub ended : IsPause socket until bytes taken p calls

-- the item that is added then, and the timed call that is made, if one is
abbrev pub items_at : ℕ → Pause → List Item
items_at socket pause.Whole = []
items_at socket (pause.Timed at) = []
items_at socket (pause.Failed cause) = item.DataFailed socket true cause ∷ []

abbrev pub timed_at : ℕ → ℕ → Pause → Option TimedCall
timed_at socket until pause.Whole = None
timed_at socket until (pause.Timed at) = Some (record { kind = kind.Send; socket = socket; until = until; at = at })
timed_at socket until (pause.Failed cause) = None

-- pieces are these ones, and so many bytes of what is pushed: over a stream in one flow, over datagrams none or
-- all of them as one piece
pub data IsDatagram (base : List (List ℕ)) (bytes : List ℕ) (t : ℕ) (pieces : List (List ℕ)) : Type 0 where
  none : t ≡ 0 → pieces ≡ base → IsDatagram base bytes t pieces
  whole : t ≡ length bytes → pieces ≡ base ++ bytes ∷ [] → IsDatagram base bytes t pieces

abbrev pub IsFront : Bool → List (List ℕ) → List ℕ → ℕ → List (List ℕ) → Type 0
IsFront true base bytes t pieces = concat pieces ≡ concat base ++ take t bytes
IsFront false base bytes t pieces = IsDatagram base bytes t pieces

-- so it is where pieces are observable
abbrev pub HasFront : Bool → List (List ℕ) → List ℕ → ℕ → Option (List (List ℕ)) → Type 0
HasFront stream base bytes t None = Unit {0}
HasFront stream base bytes t (Some pieces) = IsFront stream base bytes t pieces

-- the traffic of a socket after bytes of these were taken, from one place to another: less room, these bytes
-- written, and none read; of a datagram all or none were taken
pub record Took (stream : Bool) (before after : Traffic) (bytes : List ℕ) (from to : ℕ) : Type 0 where
  pub grew : from ≤ to
  pub within : to ≤ length bytes
  pub room : before.room + from ≤ after.room + to
  pub all : stream ≡ false → to < length bytes → to ≡ from
  pub read : after.read ≡ before.read
  pub written : (base : List (List ℕ)) → HasFront stream base bytes from before.written →
      HasFront stream base bytes to after.written
