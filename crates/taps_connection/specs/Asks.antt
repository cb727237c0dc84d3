-- What comes of asking a socket once for bytes.
use Rattle.std.specs.Prelude.{◌≡◌, ℕ, ◌+◌, ◌≤◌, List, [], ◌∷◌, ◌++◌, Result, Ok, Err}
use Rattle.taps_base.specs.declared.no_memory.NoMemory.{NoMemory}
use Rattle.taps_socket.specs.Calls.{Call, receives}
use Rattle.taps_socket.specs.Net.{Net, after_receive, IsReceiveAnswer}
use Rattle.taps_socket.specs.Shows.{IsGot}
use Rattle.taps_socket.specs.Sides.{carries_stream}
use Rattle.taps_socket.specs.declared.answers.RecvAnswer.{RecvAnswer}
use Rattle.taps_socket.specs.declared.answers.RecvAnswer.TheVariants as recv

-- one receive was made, with this answer, by which these bytes came; nothing else of the sockets changed
pub record HasReceived {N : Type 0} (Becomes : N → List Call → N → Type 0) (before after : N) (net net' : Net)
    (socket most until : ℕ) (came : List ℕ) (answer : RecvAnswer) : Type 0 where
  pub becomes : Becomes before (receives socket most until came answer ∷ []) after
  pub changed : net' ≡ after_receive socket until came answer net
  pub answered : IsReceiveAnswer answer (carries_stream net.trace socket) most until net.told
  pub got : IsGot came answer

-- no call was made
pub record HasNotAsked {N : Type 0} (Becomes : N → List Call → N → Type 0) (before after : N)
    (net net' : Net) : Type 0 where
  pub becomes : Becomes before [] after
  pub unchanged : net' ≡ net

-- the bytes then
abbrev pub grown_by : RecvAnswer → List ℕ → List ℕ → List ℕ
grown_by (recv.Got count at) came bytes = bytes ++ came
grown_by recv.End came bytes = bytes
grown_by (recv.Timed at) came bytes = bytes
grown_by (recv.Failed cause) came bytes = bytes

-- the socket was asked once for at most so many bytes, and what came was appended; or memory ran out before
abbrev pub IsAsked : {N : Type 0} → (N → List Call → N → Type 0) → N → N → Net → Net → ℕ → ℕ → ℕ → List ℕ →
    Result RecvAnswer NoMemory → List ℕ → Type 0
IsAsked Becomes before after net net' socket most until bytes (Ok answer) bytes' =
    (came : List ℕ) × (HasReceived Becomes before after net net' socket most until came answer ×
    (bytes' ≡ grown_by answer came bytes))
IsAsked Becomes before after net net' socket most until bytes (Err none) bytes' =
    HasNotAsked Becomes before after net net' × (bytes' ≡ bytes)

-- The room for bytes to come after the socket was asked, or memory ran out before (local): bytes that came lower it by
-- at most their number, and no other answer lowers it; where memory ran out it stays.
abbrev pub IsRoomLeft : ℕ → Result RecvAnswer NoMemory → ℕ → Type 0
IsRoomLeft room (Ok (recv.Got count at)) room' = room ≤ room' + count
IsRoomLeft room (Ok recv.End) room' = room ≤ room'
IsRoomLeft room (Ok (recv.Timed at)) room' = room ≤ room'
IsRoomLeft room (Ok (recv.Failed cause)) room' = room ≤ room'
IsRoomLeft room (Err none) room' = room' ≡ room
