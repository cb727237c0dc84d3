-- What a look at a pending socket shows, and how a wait ends by it.
use Rattle.std.specs.Prelude.{◌≡◌, ℕ, true, List, Option, None, Some}
use Rattle.taps_socket.specs.declared.item.How.{How}
use Rattle.taps_socket.specs.declared.item.How.TheVariants.{Reached, Completed, Broke, Faulted}
use Rattle.taps_socket.specs.declared.item.Item.{Item}
use Rattle.taps_socket.specs.RaceSockets.{has, pending_sockets}
use Rattle.taps_real.specs.declared.held.Look.{Look}
use Rattle.taps_real.specs.declared.held.Look.TheVariants as look

-- the end of a wait by a look at a socket, if it ends
abbrev pub end_of : Look → ℕ → Option How
end_of look.Pending socket = None
end_of look.Completed socket = Some (Completed socket)
end_of (look.Broke cause) socket = Some (Broke socket cause)

-- a wait that ends so tells of this socket
abbrev pub TellsOf : How → ℕ → Type 0
TellsOf Reached s = ⊥
TellsOf (Completed socket) s = socket ≡ s
TellsOf (Broke socket cause) s = socket ≡ s
TellsOf Faulted s = ⊥

-- a wait that ends so tells of a socket that is pending
abbrev pub TellsPending : How → List Item → Type 0
TellsPending Reached trace = ⊥
TellsPending (Completed socket) trace = has (pending_sockets trace) socket ≡ true
TellsPending (Broke socket cause) trace = has (pending_sockets trace) socket ≡ true
TellsPending Faulted trace = ⊥
