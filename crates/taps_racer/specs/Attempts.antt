-- What an attempt tells of its socket.
use Rattle.std.specs.Prelude.{ℕ, ◌==◌, if◌then◌else◌, Option, None, Some}
use Rattle.taps_racer.specs.declared.attempt.State.{State}
use Rattle.taps_racer.specs.declared.attempt.State.TheVariants.{Pending, Broken, Closed}
use Rattle.taps_racer.specs.declared.attempt.Attempt.{Attempt}
use Rattle.taps_racer.specs.declared.attempt.Attempt.TheVariants.{Refused, Started}

-- its socket
abbrev pub socket_of : Attempt → Option ℕ
socket_of Refused = None
socket_of (Started socket state) = Some socket

-- its socket, if that is open
abbrev pub open_socket : Attempt → Option ℕ
open_socket Refused = None
open_socket (Started socket Closed) = None
open_socket (Started socket _) = Some socket

-- its socket, if that is pending
abbrev pub pending_socket : Attempt → Option ℕ
pending_socket (Started socket Pending) = Some socket
pending_socket _ = None

-- its socket, if that broke and is open
abbrev pub broken_socket : Attempt → Option ℕ
broken_socket (Started socket Broken) = Some socket
broken_socket _ = None

-- the attempt after this socket came into a state
abbrev pub marked : ℕ → State → Attempt → Attempt
marked s state Refused = Refused
marked s state (Started socket before) = Started socket (if s == socket then state else before)
