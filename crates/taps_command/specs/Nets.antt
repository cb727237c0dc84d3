-- What is left of the sockets over a command: its trace, and what their implementation says of each call.
use Rattle.std.specs.Prelude.{◌≡◌, ℕ, true, List, []}
use Rattle.taps_socket.specs.declared.item.Item.{Item}
use Rattle.taps_socket.specs.Calls.{Call}
use Rattle.taps_socket.specs.LiveSockets.{given}
use Rattle.taps_socket.specs.Net.{Net}
use Rattle.taps_socket.specs.Once.{IsOnce}
use Rattle.taps_socket.specs.RaceSockets.{has, closed}
use Rattle.taps_socket.specs.Shows.{Shows}

-- what is seen of sockets, and the calls that a command made on them so far, newest first
pub record SocketsState : Type 0 where
  pub net : Net
  pub calls : List Call

-- before its first call
abbrev pub uncalled : Net → SocketsState
uncalled net = record { net = net; calls = [] }

-- Calls led from sockets to sockets, as their implementation relates them; the record shows these calls and no others;
-- and this holds of what was seen before and after them.
pub record HasRun {S : Type 0} (Becomes : S → List Call → S → Type 0) (old new : S) (net net' : Net)
    (Holds : SocketsState → SocketsState → Type 0) : Type 0 where
  pub calls : List Call
  pub becomes : Becomes old calls new
  pub shows : Shows net calls net'
  pub holds : Holds (uncalled net) (record { net = net'; calls = calls })

-- every socket that was given is closed, and none is closed twice
pub record IsClosedOnce (trace : List Item) : Type 0 where
  pub all : (s : ℕ) → has (given trace) s ≡ true → has (closed trace) s ≡ true
  pub once : IsOnce (closed trace)
