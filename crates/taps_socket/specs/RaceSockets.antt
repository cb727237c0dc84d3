-- What a race's trace tells of its sockets (RFC 9623 section 4.4). A trace stands with its newest item first.
use Rattle.std.specs.Prelude.{ℕ, Bool, not, ◌||◌, ◌==◌, List, [], ◌∷◌, ◌++◌, filter}
use Rattle.std.specs.List.{list_any}
use Rattle.taps_socket.specs.declared.item.How.TheVariants.{Completed, Broke}
use Rattle.taps_socket.specs.declared.item.Item.{Item}
use Rattle.taps_socket.specs.declared.item.Item.TheVariants.{Started, Waited, Closed}

-- the socket is among these
abbrev pub has : List ℕ → ℕ → Bool
has sockets s = list_any (λ x. x == s) sockets

-- the sockets that were started, oldest first
abbrev pub started : List Item → List ℕ
started [] = []
started (Started leaf target socket at ∷ earlier) = started earlier ++ socket ∷ []
started (_ ∷ earlier) = started earlier

-- the sockets of which a wait said that they completed, the newest first
abbrev pub completed : List Item → List ℕ
completed [] = []
completed (Waited until at (Completed socket) ∷ earlier) = socket ∷ completed earlier
completed (_ ∷ earlier) = completed earlier

-- those of which a wait said that they broke
abbrev pub broke : List Item → List ℕ
broke [] = []
broke (Waited until at (Broke socket cause) ∷ earlier) = socket ∷ broke earlier
broke (_ ∷ earlier) = broke earlier

-- those that were closed
abbrev pub closed : List Item → List ℕ
closed [] = []
closed (Closed socket ∷ earlier) = socket ∷ closed earlier
closed (_ ∷ earlier) = closed earlier

-- the sockets that were started and not closed, the first started first
abbrev pub open_sockets : List Item → List ℕ
open_sockets trace = filter (λ s. not (has (closed trace) s)) (started trace)

-- the open sockets that neither completed nor broke
abbrev pub pending_sockets : List Item → List ℕ
pending_sockets trace = filter (λ s. not (has (completed trace) s || has (broke trace) s)) (open_sockets trace)

-- the open sockets that broke
abbrev pub broken_sockets : List Item → List ℕ
broken_sockets trace = filter (has (broke trace)) (open_sockets trace)
