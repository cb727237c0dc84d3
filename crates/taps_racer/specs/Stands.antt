-- When a racer stands for the trace of a race.
use Rattle.std.specs.Prelude.{◌≡◌, ◌≤◌, ℕ, Bool, true, false, if◌then◌else◌, List, map, Option, None, Some}
use Rattle.taps_socket.specs.declared.item.How.{How}
use Rattle.taps_socket.specs.declared.item.How.TheVariants.{Reached, Completed, Broke, Faulted}
use Rattle.taps_socket.specs.declared.item.Item.{Item}
use Rattle.taps_socket.specs.declared.item.Item.TheVariants as item
use Rattle.taps_socket.specs.RaceTrace as traces
use Rattle.taps_socket.specs.RaceSockets as sockets
use Rattle.taps_socket.specs.RaceSockets.{has}
use Rattle.taps_socket.specs.Winner as winner
use Rattle.taps_socket.specs.Standing.{Standing}
use Rattle.taps_socket.specs.LawfulRace.{Each, HasLeaf, IsUnfinishedRace}
use Rattle.taps_racer.specs.declared.attempt.State.{State}
use Rattle.taps_racer.specs.declared.attempt.State.TheVariants as state
use Rattle.taps_racer.specs.declared.attempt.Attempt.{Attempt}
use Rattle.taps_racer.specs.declared.attempt.Attempt.TheVariants as attempt
use Rattle.taps_racer.specs.Kept.{Kept}

-- what became of a socket, by whether it was closed, broke or completed
abbrev pub state_by : Bool → Bool → Bool → State
state_by closed broke completed = if closed then state.Closed
    else if broke then state.Broken else if completed then state.Completed else state.Pending

-- what the trace tells of a socket
abbrev pub state_of : List Item → ℕ → State
state_of trace s =
    state_by (has (sockets.closed trace) s) (has (sockets.broke trace) s) (has (sockets.completed trace) s)

-- what the trace tells of an attempt
abbrev pub attempt_in : List Item → Option ℕ → Attempt
attempt_in trace None = attempt.Refused
attempt_in trace (Some s) = attempt.Started s (state_of trace s)

-- a wait ends not before its moment, or by a socket that was pending
abbrev pub EndsRightly : Standing → ℕ → ℕ → How → Type 0
EndsRightly race until at Reached = until ≤ at
EndsRightly race until at (Completed socket) = has race.pending socket ≡ true
EndsRightly race until at (Broke socket cause) = has race.pending socket ≡ true
EndsRightly race until at Faulted = Unit {0}

-- an attempt has a socket number that the race has not had, a wait ends rightly, and a close names a socket that was
-- open
abbrev pub IsToldRightly : Item → Standing → Type 0
IsToldRightly (item.Started leaf target socket at) race = has race.started socket ≡ false
IsToldRightly (item.Waited until at how) race = EndsRightly race until at how
IsToldRightly (item.Closed socket) race = has race.still_open socket ≡ true
IsToldRightly _ race = Unit {0}

-- what the racer keeps is what the trace tells, whose attempts carry the leaves from first on, and which is told
-- rightly
pub record StandsFor (kept : Kept) (first : ℕ) (trace : List Item) : Type 0 where
  pub begun : kept.begun ≡ traces.begun trace
  pub last : kept.last ≡ traces.last_moment trace
  pub last_attempt : kept.last_attempt ≡ traces.last_attempt trace
  pub faulted : kept.faulted ≡ traces.has_fault trace
  pub ready : kept.ready ≡ winner.ready trace
  pub attempts : kept.attempts ≡ map (attempt_in trace) (traces.tries trace)
  pub in_order : Each (HasLeaf first) trace
  pub rightly : Each IsToldRightly trace

-- a racer that stands for a race which is lawful so far
pub record IsRun (kept : Kept) (first : ℕ) (trace : List Item) : Type 0 where
  pub stands : StandsFor kept first trace
  pub race : IsUnfinishedRace kept.rules first trace
