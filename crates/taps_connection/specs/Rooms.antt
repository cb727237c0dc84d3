-- The room of a connection: the memory that it has for bytes that are still to come.
use Rattle.std.specs.Prelude.{◌≡◌, ℕ, ◌+◌, ◌<◌, ◌≤◌, List, length}
use Rattle.taps_chain.specs.Ears.{state_of}
use Rattle.taps_connection.specs.declared.pulled.Pulled.{Pulled}
use Rattle.taps_connection.specs.declared.pulled.Pulled.TheVariants as pulled
use Rattle.taps_connection.specs.declared.receiver.Source.{Source}
use Rattle.taps_connection.specs.declared.receiver.Source.TheVariants.{Framed, Plain, Datagrams}
use Rattle.taps_connection.specs.Sources.{unread_of}
use Rattle.taps_connection.specs.Unread.{Unread, framed, plain, datagrams, most_of, with_bytes}

-- Bytes that come are taken in without running out of memory where they are no more than this (local). Of datagrams
-- it is more than one can have, since the buffer that takes in any of them is there from the start.
abbrev pub room_of : {X : Type 0} {F : X → Type 0} → Source X F → ℕ
room_of (Framed f) = (state_of f.ears).room
room_of (Plain p) = p.bytes.room
room_of (Datagrams d) = 65536

-- The greatest number of bytes that a receive asks for (local): a piece of a stream, or a whole datagram (RFC 768).
abbrev pub piece_of : Unread → ℕ
piece_of (framed piece bytes index bad) = piece
piece_of (plain piece bytes given) = piece
piece_of (datagrams held given) = 65535

-- there is less room than the bytes that the next receive asks for (local)
abbrev pub LacksRoom : {X : Type 0} {F : X → Type 0} → Source X F → Type 0
LacksRoom s = room_of s < most_of (unread_of s)

-- The room after the socket was asked, or memory ran out before (local): bytes that came, which are those that the
-- unread ones grew by, lower it by at most their number; no other answer lowers it; and where memory ran out it stays.
abbrev pub IsRoomAfter : Unread → ℕ → Pulled → Unread → ℕ → Type 0
IsRoomAfter u room pulled.Got v room' =
    (came : List ℕ) × ((v ≡ with_bytes came u) × (room ≤ room' + length came))
IsRoomAfter u room pulled.Ended v room' = room ≤ room'
IsRoomAfter u room (pulled.Timed at) v room' = room ≤ room'
IsRoomAfter u room (pulled.Failed cause) v room' = room ≤ room'
IsRoomAfter u room pulled.NoMemory v room' = room' ≡ room
