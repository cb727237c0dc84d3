-- What is kept of one end, and the traffic that contracts see of it.
use Rattle.std.specs.Prelude.{◌≡◌, ◌≤◌, ◌+◌, ◌-◌, ℕ, List, [], ◌∷◌, length, take, drop, max, Option, None, Some}
use Rattle.taps_socket.specs.Net.{Traffic}
use Rattle.taps_memory.specs.Pairs.{End, new_end, written_end}

-- the end, its room for bytes to be sent, and the time of its last Sent
pub record Side : Type 0 where
  pub end : End
  pub room : ℕ
  pub last_sent : Option ℕ

-- one on which nothing was done yet
abbrev pub new_side : ℕ → Option ℕ → Side
new_side capacity socket = record { end = new_end capacity socket; room = 0; last_sent = None }

-- with another end
abbrev pub with_end : (End → End) → Side → Side
with_end change side = record side { end = change side.end }

-- with room for so many bytes, and after these bytes were taken at a time
abbrev pub roomy_side : ℕ → Side → Side
roomy_side bytes side = record side { room = max side.room bytes }

abbrev pub sent_side : List ℕ → ℕ → Side → Side
sent_side bytes at side =
    record { end = written_end bytes side.end; room = side.room - length bytes; last_sent = Some at }

-- the ring holds the bytes that are under way, and there is room behind those that were written
pub record IsHeld (written ring : List ℕ) (taken room len capacity : ℕ) : Type 0 where
  pub within : taken ≤ length written
  pub ring_is : ring ≡ drop taken written
  pub roomy : len + room ≤ capacity

-- bytes of a stream as its one piece, if there are any
abbrev pub as_piece : List ℕ → List (List ℕ)
as_piece [] = []
as_piece (b ∷ bytes) = (b ∷ bytes) ∷ []

-- what is seen of an end, which reads what was written at the other
abbrev pub traffic_of : Side → Side → Traffic
traffic_of own other =
    record {
      room = own.room;
      last_sent = own.last_sent;
      written = Some (as_piece own.end.written);
      read = Some (as_piece (take other.end.taken other.end.written));
    }

-- a socket with no traffic
abbrev pub no_traffic : Traffic
no_traffic = record { room = 0; last_sent = None; written = Some []; read = Some [] }
