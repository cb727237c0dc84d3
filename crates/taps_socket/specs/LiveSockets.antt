-- What a trace tells of the sockets in it, be they of one race, of several or of none. A trace stands with its newest
-- item first.
use Rattle.std.specs.Prelude.{◌≡◌, ◌<◌, ℕ, true, not, List, [], ◌∷◌, ◌++◌, filter}
use Rattle.taps_socket.specs.declared.item.How.{How}
use Rattle.taps_socket.specs.declared.item.How.TheVariants.{Reached, Completed, Broke, Faulted}
use Rattle.taps_socket.specs.declared.item.Item.{Item}
use Rattle.taps_socket.specs.declared.item.Item.TheVariants as item
use Rattle.taps_socket.specs.RaceSockets.{has, closed}

-- the sockets that were given, by a start, a listen or an accept, oldest first
abbrev pub given : List Item → List ℕ
given [] = []
given (item.Started leaf target socket at ∷ earlier) = given earlier ++ socket ∷ []
given (item.Listening target socket at ∷ earlier) = given earlier ++ socket ∷ []
given (item.Accepted listener socket at ∷ earlier) = given earlier ++ socket ∷ []
given (_ ∷ earlier) = given earlier

-- the sockets that are live: they were given and not closed
abbrev pub live_sockets : List Item → List ℕ
live_sockets trace = filter (λ s. not (has (closed trace) s)) (given trace)

-- the sockets that the end of a wait names
abbrev pub named_by_end : How → List ℕ
named_by_end Reached = []
named_by_end (Completed socket) = socket ∷ []
named_by_end (Broke socket cause) = socket ∷ []
named_by_end Faulted = []

-- the sockets that an item names
abbrev pub named_by : Item → List ℕ
named_by (item.Began at) = []
named_by (item.Started leaf target socket at) = socket ∷ []
named_by (item.Refused leaf target cause at) = []
named_by (item.Waited until at how) = named_by_end how
named_by (item.Closed socket) = socket ∷ []
named_by (item.Listening target socket at) = socket ∷ []
named_by (item.NotListening target cause at) = []
named_by (item.Accepted listener socket at) = listener ∷ socket ∷ []
named_by (item.Faulted at) = []
named_by (item.Shut socket) = socket ∷ []
named_by (item.Ended socket) = socket ∷ []
named_by (item.DataFailed socket sending cause) = socket ∷ []

-- the sockets that a trace names
abbrev pub named : List Item → List ℕ
named [] = []
named (item ∷ earlier) = named_by item ++ named earlier

-- a socket number that is greater than every earlier one of the trace
abbrev pub IsNewSocket : ℕ → List Item → Type 0
IsNewSocket socket trace = (s : ℕ) → has (named trace) s ≡ true → s < socket
