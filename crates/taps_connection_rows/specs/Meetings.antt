-- What the tests know of a socket that won its race.
use Rattle.std.specs.Prelude.{◌≤◌, ℕ, Bool, false}
use Rattle.taps_socket.specs.Net.{Net}
use Rattle.taps_connection.specs.Conditions.{IsHeld}

-- a connection may be made over it, which carries a stream or not, and there is room for an item
pub record IsMet (stream : Bool) (net : Net) (socket : ℕ) : Type 0 where
  pub held : IsHeld net.trace socket stream false false
  pub spare : 1 ≤ net.spare
