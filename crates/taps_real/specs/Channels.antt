-- What is kept of the bytes of a socket of the system, and the traffic that contracts see of it.
use Rattle.std.specs.Prelude.{◌≡◌, slice_get, slice_set, ℕ, zero, suc, ◌-◌, Bool, List, [], ◌∷◌, max, None, Some}
use Rattle.taps_socket.specs.Net.{Traffic}
use Rattle.taps_real.specs.declared.channel.Channel.{Channel}

-- the channel of a socket that was just given
abbrev pub fresh : Bool → Channel
fresh stream = record { stream = stream; room = 0; last_sent = None }

-- with room for so many bytes, and after so many were taken at a time
abbrev pub with_room_of : Channel → ℕ → Channel
with_room_of c bytes = record c { room = max c.room bytes }

abbrev pub sent_in : Channel → ℕ → ℕ → Channel
sent_in c count at = record c { room = c.room - count; last_sent = Some at }

-- what is seen of it: no bytes are observable
abbrev pub traffic_of : Channel → Traffic
traffic_of c = record { room = c.room; last_sent = c.last_sent; written = None; read = None }

-- a socket with no traffic
abbrev pub no_traffic : Traffic
no_traffic = record { room = 0; last_sent = None; written = None; read = None }

-- the traffic of each socket
abbrev pub traffic_at : List Channel → ℕ → Traffic
traffic_at [] s = no_traffic
traffic_at (c ∷ channels) zero = traffic_of c
traffic_at (c ∷ channels) (suc s) = traffic_at channels s

-- the channel at a place was changed so, and no other
abbrev pub IsChanged : (Channel → Channel) → ℕ → List Channel → List Channel → Type 0
IsChanged change place before after =
    (c : Channel) → slice_get before place ≡ Some c → after ≡ slice_set before place (change c)
