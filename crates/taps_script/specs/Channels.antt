-- What is kept of the bytes of a scripted socket, and the traffic that contracts see of it.
use Rattle.std.specs.Prelude.{◌≡◌, ◌≤◌, ◌+◌, ℕ, zero, suc, if◌then◌else◌, Bool, true, false, List, [], ◌∷◌, length, take, drop, Option, None, Some}
use Rattle.std.specs.List.{concat}
use Rattle.taps_socket.specs.Net.{Traffic}
use Rattle.taps_script.specs.declared.line.Line.{Line}
use Rattle.taps_script.specs.ScriptLines.{is_echoing}
use Rattle.taps_script.specs.PeerTimes.{sent_pieces}
use Rattle.taps_script.specs.DataAnswers.{Link}

-- whether the socket carries a stream; when it completes; its room; the time of its last Sent; the pieces that were
-- written; and how many bytes of the stream, or how many datagrams, were read
pub record Channel : Type 0 where
  pub stream : Bool
  pub done : ℕ
  pub room : ℕ
  pub last_sent : Option ℕ
  pub written : List (List ℕ)
  pub read : ℕ

-- bytes as one piece, if there are any
abbrev pub as_piece : List ℕ → List (List ℕ)
as_piece [] = []
as_piece (b ∷ bytes) = (b ∷ bytes) ∷ []

-- bytes that are cut into pieces of these lengths
abbrev pub cut : List ℕ → List ℕ → List (List ℕ)
cut [] bytes = []
cut (n ∷ lengths) bytes = take n bytes ∷ cut lengths (drop n bytes)

-- what lengths add up to
abbrev pub total : List ℕ → ℕ
total [] = 0
total (n ∷ lengths) = n + total lengths

-- the pieces of bytes, over a stream or not
abbrev pub pieces_of : Bool → List ℕ → List ℕ → List (List ℕ)
pieces_of true bytes lengths = as_piece bytes
pieces_of false bytes lengths = cut lengths bytes

-- a socket that was just started
abbrev pub fresh : Bool → ℕ → Channel
fresh stream done = record { stream = stream; done = done; room = 0; last_sent = None; written = []; read = 0 }

-- the pieces that the other end is to send, or sends back
abbrev pub source : List Line → List (List ℕ) → List (List ℕ)
source lines written = if is_echoing lines then written else sent_pieces lines

-- the pieces of which so many bytes or datagrams were read
abbrev pub read_pieces : Bool → ℕ → List (List ℕ) → List (List ℕ)
read_pieces true n pieces = as_piece (take n (concat pieces))
read_pieces false n pieces = take n pieces

-- how much there is to read
abbrev pub most_read : Bool → List (List ℕ) → ℕ
most_read true pieces = length (concat pieces)
most_read false pieces = length pieces

-- no more was read than there is
abbrev pub IsWithin : List Line → Channel → Type 0
IsWithin lines c = c.read ≤ most_read c.stream (source lines c.written)

-- what is seen of it
abbrev pub traffic_of : List Line → Channel → Traffic
traffic_of lines c = record {
  room = c.room;
  last_sent = c.last_sent;
  written = Some c.written;
  read = Some (read_pieces c.stream c.read (source lines c.written));
}

-- a socket with no traffic
abbrev pub no_traffic : Traffic
no_traffic = record { room = 0; last_sent = None; written = Some []; read = Some [] }

-- the traffic of each socket
abbrev pub traffic_at : List Line → List Channel → ℕ → Traffic
traffic_at lines [] s = no_traffic
traffic_at lines (c ∷ channels) zero = traffic_of lines c
traffic_at lines (c ∷ channels) (suc s) = traffic_at lines channels s

-- the bytes fit into the room that was made for them; of datagrams the lengths do too, and they add up to the bytes
pub record IsRoomy (stream : Bool) (room len capacity : ℕ) (lengths : List ℕ) (pieces most : ℕ) : Type 0 where
  pub bytes : len + room ≤ capacity
  pub datagrams : stream ≡ false → pieces + room ≤ most
  pub lengths_are : stream ≡ false → total lengths ≡ len

-- the link of a socket by its channel
abbrev pub link_of : List Line → Channel → Link
link_of lines c = record {
  stream = c.stream;
  done = c.done;
  written = c.written;
  read = read_pieces c.stream c.read (source lines c.written);
}
