-- A session's part behind its race, where the race gave a socket: clones, the exchange of the group, and the closes
-- (RFC 9622 sections 7.4, 9 and 10). Calls stand with the newest one first.
use Rattle.std.specs.Prelude.{◌≡◌, ◌⊎◌, ◌<◌, ◌+◌, ℕ, List, [], ◌∷◌, ◌++◌, length, Option, Some, None}
use Rattle.taps_socket.specs.Calls.{Call, closes}
use Rattle.taps_socket.specs.Shows.{told_after}
use Rattle.taps_exchange.specs.declared.outcome.Outcome.{Outcome}
use Rattle.taps_exchange.specs.Turns.{Place, initiate, turn_of, IsInTurn, IsExchange}
use Rattle.taps_group.specs.Closes.{close_calls}
use Rattle.taps_group_exchange.specs.declared.outcome.GroupOutcome.{GroupOutcome}
use Rattle.taps_group_exchange.specs.declared.outcome.GroupOutcome.TheVariants as ends
use Rattle.taps_group_exchange.specs.Cloning.{CloneRace, calls_of_races, sockets_of_races, socket_by, AreCloned, AreMade, IsCloneRace}
use Rattle.taps_group_exchange.specs.Members.{GroupTerms, places_at}

-- the races of its clones, oldest first; the calls of its exchange; and how it ended
pub record GroupCourse : Type 0 where
  pub clones : List CloneRace
  pub exchange : List Call
  pub outcome : GroupOutcome

-- the members' sockets by place, behind the first member's
abbrev pub sockets_by : ℕ → List CloneRace → List ℕ
sockets_by first clones = first ∷ sockets_of_races clones

-- the members once these clones were made; the last time that was reported before is a time
abbrev pub places_after : GroupTerms → ℕ → ℕ → List CloneRace → List Place
places_after g first at clones = places_at g (told_after (calls_of_races clones) at) (sockets_by first clones)

-- the session was ended before, and no call follows; or the calls are an exchange of the members, and its outcome ends
-- it
abbrev pub IsExchangeUnless : Option GroupOutcome → List Place → List Call → GroupOutcome → Type 0
IsExchangeUnless (Some ended) places calls o = (calls ≡ []) × (o ≡ ended)
IsExchangeUnless None places calls o =
    (x : Outcome) × ((o ≡ ends.Exchanged x) × IsExchange (turn_of (initiate places)) calls x)

-- behind a race that gave the first member its socket: the last time that was reported then is this one
pub record IsGroupSession (g : GroupTerms) (first at : ℕ) (c : GroupCourse) : Type 0 where
  pub stopped : Option GroupOutcome
  pub cloned : AreCloned g g.leaf 1 g.clones c.clones stopped
  pub exchanged : IsExchangeUnless stopped (places_after g first at c.clones) c.exchange c.outcome

-- its calls: the clones' races, the exchange, and the closes by place
abbrev pub calls_of : ℕ → GroupCourse → List Call
calls_of first c = close_calls (sockets_by first c.clones) ++ (c.exchange ++ calls_of_races c.clones)

-- at a clone for which there was no memory, there was no race; or there was, and its socket was closed at once
abbrev pub IsUndone : GroupTerms → ℕ → List Call → Type 0
IsUndone g leaf calls = (calls ≡ []) ⊎ ((r : CloneRace) × ((socket : ℕ) ×
    ((calls ≡ closes socket ∷ r.calls) × IsCloneRace g.target leaf g.timeout r × (socket_by r.answer ≡ socket ∷ []))))

-- Memory ran out: at a clone, or behind the clones in the exchange, of which these are the first calls.
abbrev pub IsCutBehind : GroupTerms → ℕ → ℕ → List CloneRace → List Call → Type 0
IsCutBehind g first at clones calls =
    ((length clones < g.clones) × IsUndone g (g.leaf + length clones) calls)
    ⊎ ((length clones ≡ g.clones) × IsInTurn (turn_of (initiate (places_after g first at clones))) calls)

-- the calls of such a session that memory cut short: the clones that were made, what was begun then, and the closes
pub record IsCutGroup (g : GroupTerms) (first at : ℕ) (calls : List Call) : Type 0 where
  pub clones : List CloneRace
  pub begun : List Call
  pub made : AreMade g g.leaf 1 clones
  pub cut : IsCutBehind g first at clones begun
  pub split : calls ≡ close_calls (sockets_by first clones) ++ (begun ++ calls_of_races clones)
