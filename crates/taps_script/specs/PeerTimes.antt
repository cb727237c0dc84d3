-- What the other end of a socket has done at a time, by its lines (local). `done` is the time at which the socket
-- completed, from which delays count.
use Rattle.std.specs.Prelude.{ℕ, ◌+◌, Bool, false, ◌||◌, nat_le, nat_lt, if◌then◌else◌, List, [], ◌∷◌, Option, None, Some}
use Rattle.taps_socket.specs.declared.cause.Cause.{Cause}
use Rattle.taps_script.specs.declared.line.PeerLine.TheVariants.{Sends, Ends, Fails}
use Rattle.taps_script.specs.declared.line.Line.{Line}
use Rattle.taps_script.specs.declared.line.Line.TheVariants.{Peer}

-- the delay and the bytes of what it sends by a line
abbrev pub sent_by : Line → Option (ℕ × List ℕ)
sent_by (Peer (Sends delay bytes)) = Some (delay, bytes)
sent_by _ = None

-- the pieces that it has sent, oldest first; their delays never fall
abbrev pub arrived : ℕ → ℕ → List Line → List (List ℕ)
arrived done now [] = []
arrived done now (Peer (Sends delay bytes) ∷ lines) =
    if nat_le (done + delay) now then bytes ∷ arrived done now lines else []
arrived done now (_ ∷ lines) = arrived done now lines

-- it has ended its stream
abbrev pub has_ended : ℕ → ℕ → List Line → Bool
has_ended done now [] = false
has_ended done now (Peer (Ends delay) ∷ lines) = nat_le (done + delay) now || has_ended done now lines
has_ended done now (_ ∷ lines) = has_ended done now lines

-- it has failed, with this cause
abbrev pub failure : ℕ → ℕ → List Line → Option Cause
failure done now [] = None
failure done now (Peer (Fails delay cause) ∷ lines) =
    if nat_le (done + delay) now then Some cause else failure done now lines
failure done now (_ ∷ lines) = failure done now lines

-- when it does what a line says, if that is something that a receive sees; the end of a stream is nothing over
-- datagrams
abbrev pub time_of : Bool → ℕ → Line → Option ℕ
time_of stream done (Peer (Sends delay bytes)) = Some (done + delay)
time_of stream done (Peer (Ends delay)) = if stream then Some (done + delay) else None
time_of stream done (Peer (Fails delay cause)) = Some (done + delay)
time_of stream done _ = None

-- a time, if it is there and still to come, or else a later one
abbrev pub next_by : Option ℕ → ℕ → Option ℕ → Option ℕ
next_by None now later = later
next_by (Some at) now later = if nat_lt now at then Some at else later

-- the first time past this one at which it does something
abbrev pub next_time : Bool → ℕ → ℕ → List Line → Option ℕ
next_time stream done now [] = None
next_time stream done now (line ∷ lines) = next_by (time_of stream done line) now (next_time stream done now lines)

-- all pieces that it is to send
abbrev pub sent_pieces : List Line → List (List ℕ)
sent_pieces [] = []
sent_pieces (Peer (Sends delay bytes) ∷ lines) = bytes ∷ sent_pieces lines
sent_pieces (_ ∷ lines) = sent_pieces lines
