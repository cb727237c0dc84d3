-- The bytes that sockets show, where they let them be observed, are those of the calls.
use Rattle.std.specs.Prelude.{◌≡◌, ℕ, Bool, true, false, List, [], ◌∷◌, Option, Some, None}
use Rattle.std.specs.List.{concat}
use Rattle.taps_socket.specs.Calls.{Call}
use Rattle.taps_socket.specs.Net.{Net, Traffic}
use Rattle.taps_socket.specs.Sides.{carries_stream}
use Rattle.taps_exchange.specs.Members.{Member, calls_on, pieces_read}
use Rattle.taps_exchange.specs.Written.{pieces_written}

-- where pieces are shown they are these: over a stream all bytes together, over datagrams each one
abbrev pub AreShown : Bool → Option (List (List ℕ)) → List (List ℕ) → Type 0
AreShown stream None pieces = Unit {0}
AreShown true (Some shown) pieces = concat shown ≡ concat pieces
AreShown false (Some shown) pieces = shown ≡ pieces

-- what is shown as written on a socket and read from it are the pieces that these calls wrote and read there
pub record ShowsBytes (stream : Bool) (traffic : Traffic) (calls : List Call) : Type 0 where
  pub written : AreShown stream traffic.written (pieces_written calls)
  pub read : AreShown stream traffic.read (pieces_read calls)

-- so it is for the socket of each member, with the calls on it
abbrev pub AreObserved : Net → List Member → List Call → Type 0
AreObserved after [] calls = Unit {0}
AreObserved after (m ∷ members) calls =
    ShowsBytes (carries_stream after.trace m.socket) (after.traffic m.socket) (calls_on m.socket calls)
    × AreObserved after members calls
