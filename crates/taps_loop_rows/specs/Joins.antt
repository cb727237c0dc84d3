-- How the tests join sockets for both ends of a loop, as the items tell. A trace stands with its newest item first.
use Rattle.std.specs.Prelude.{◌≡◌, ◌≢◌, ◌≤◌, ◌<◌, ◌+◌, ℕ, true, false, [], ◌∷◌}
use Rattle.taps_stack.specs.declared.target.Target.{Target}
use Rattle.taps_stack.specs.StackTable.{is_stream}
use Rattle.taps_socket.specs.declared.item.How.{How}
use Rattle.taps_socket.specs.declared.item.How.TheVariants.{Reached, Completed}
use Rattle.taps_socket.specs.declared.item.Item.TheVariants as item
use Rattle.taps_socket.specs.Sides.{carries_stream, may_accept}
use Rattle.taps_socket.specs.Net.{Net}
use Rattle.taps_connection.specs.Conditions.{IsHeld}
use Rattle.taps_connection.specs.declared.listener.Listener.{Listener}

-- a socket listens under number 0, for two connections, and there is room for items
pub record HasListened (l : Listener) (net : Net) : Type 0 where
  pub target : Target
  pub stream : is_stream target.stack ≡ true
  pub at : ℕ
  pub trace : net.trace ≡ item.Listening target 0 at ∷ []
  pub socket : l.socket ≡ 0
  pub limit : l.limit ≡ 2
  pub none : l.accepted ≡ 0
  pub spare : 19 ≤ net.spare

-- a connection was started under this number, over a stream
pub record HasStarted (socket : ℕ) (before after : Net) : Type 0 where
  pub target : Target
  pub stream : is_stream target.stack ≡ true
  pub at : ℕ
  pub trace : after.trace ≡ item.Started 0 target socket at ∷ before.trace
  pub spare : after.spare + 1 ≡ before.spare

-- a wait ended so
pub record HasWaited (how : How) (before after : Net) : Type 0 where
  pub until : ℕ
  pub at : ℕ
  pub trace : after.trace ≡ item.Waited until at how ∷ before.trace
  pub spare : after.spare + 1 ≡ before.spare

-- a connection was accepted under this number
pub record HasAccepted (socket : ℕ) (before after : Net) (l l' : Listener) : Type 0 where
  pub at : ℕ
  pub trace : after.trace ≡ item.Accepted l.socket socket at ∷ before.trace
  pub kept : l' ≡ record l { accepted = l.accepted + 1 }
  pub spare : after.spare + 1 ≡ before.spare

-- two connections, 1 and 2, were started and completed
pub record AreTwo (l : Listener) (net : Net) : Type 0 where
  pub n1 : Net
  pub n2 : Net
  pub n3 : Net
  pub n4 : Net
  pub n5 : Net
  pub listened : HasListened l n1
  pub first : HasStarted 1 n1 n2
  pub second : HasStarted 2 n2 n3
  pub one : HasWaited (Completed 1) n3 n4
  pub other : HasWaited (Completed 2) n4 n5
  pub reached : HasWaited Reached n5 net

-- both ends may go on: the one over this socket, and the other one over what the listener gives
pub record MayLoop (l : Listener) (socket : ℕ) (net : Net) : Type 0 where
  pub fewer : l.accepted < l.limit
  pub may : may_accept net.trace l.socket ≡ true
  pub carries : carries_stream net.trace l.socket ≡ true
  pub held : IsHeld net.trace socket true false false
  pub apart : socket ≢ l.socket
  pub spare : 8 ≤ net.spare
