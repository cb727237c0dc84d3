-- How a session that listens was carried out over sockets (RFC 9622 sections 7.2, 9.2, 9.3 and 10).
use Rattle.std.specs.Prelude.{◌≡◌, ◌⊎◌, ℕ, true, List, ◌++◌, Result, Ok, Err}
use Rattle.taps_base.specs.Counts.{Rose}
use Rattle.taps_base.specs.declared.no_memory.NoMemory.{NoMemory}
use Rattle.taps_socket.specs.declared.item.Item.{Item}
use Rattle.taps_socket.specs.Calls.{Call, items_of}
use Rattle.taps_socket.specs.LiveSockets.{given, named}
use Rattle.taps_socket.specs.Net.{Net}
use Rattle.taps_socket.specs.Once.{IsOnce}
use Rattle.taps_socket.specs.RaceSockets.{has, closed}
use Rattle.taps_exchange.specs.Outcomes.{count_by}
use Rattle.taps_exchange.specs.Turns.{IsInTurn, IsExchange}
use Rattle.taps_listening.specs.declared.listened.ListenEnd.{ListenEnd}
use Rattle.taps_listening.specs.declared.listened.Listened.{Listened}
use Rattle.taps_listening.specs.declared.listened.ListenEnd.TheVariants as ends
use Rattle.taps_listening.specs.AnsweredStates.{AnsweredState}
use Rattle.taps_listening.specs.ListenRules.{ListenRules}
use Rattle.taps_listening.specs.Listening.{stopped, course_after, turn_listening, answered_all, closes_of, outcome_of}

-- each socket that was given since is closed, and none is closed twice
pub record ClosesAll (before after : List Item) : Type 0 where
  pub all : (s : ℕ) → has (given after) s ≡ true → (has (closed after) s ≡ true) ⊎ (has (given before) s ≡ true)
  pub once : IsOnce (closed before) → IsOnce (closed after)

-- Sockets went through the calls of a session with this end, in which the connections sent and heard these. One timed call
-- more was made where the outcome is Timed, and else none; a fault was counted where an accept was faulted; the traffic of
-- sockets that were there before stayed; and every socket is closed.
pub record IsListened {N : Type 0} (Becomes : N → List Call → N → Type 0) (before after : N) (net net' : Net)
    (r : ListenRules) (end : ListenEnd) (members : List AnsweredState) : Type 0 where
  pub calls : List Call
  pub becomes : Becomes before calls after
  pub exchange : IsExchange (turn_listening r) calls (outcome_of end)
  pub ended : (course_after r calls).phase ≡ stopped end
  pub members_are : answered_all r (course_after r calls).served ≡ members
  pub timed : net'.timed ≡ count_by (outcome_of end) net.timed
  pub fault : end ≡ ends.Faulted → Rose net.faults net'.faults
  pub others : (s : ℕ) → has (named net.trace) s ≡ true → net'.traffic s ≡ net.traffic s
  pub closes_all : ClosesAll net.trace net'.trace

-- Memory ran out: these are the first calls of a session, and then the closes of the sockets that were open.
pub record IsListenedShort {N : Type 0} (Becomes : N → List Call → N → Type 0) (before after : N) (net net' : Net)
    (r : ListenRules) : Type 0 where
  pub calls : List Call
  pub becomes : Becomes before (closes_of (course_after r calls).phase ++ calls) after
  pub in_turn : IsInTurn (turn_listening r) calls
  pub others : (s : ℕ) → has (named net.trace) s ≡ true → net'.traffic s ≡ net.traffic s
  pub closes_all : ClosesAll net.trace net'.trace

abbrev pub HasListened : {N : Type 0} → (N → List Call → N → Type 0) → N → N → Net → Net → ListenRules →
    Result Listened NoMemory → Type 0
HasListened Becomes before after net net' r (Ok l) =
    IsListened Becomes before after net net' r l.end l.members.items
HasListened Becomes before after net net' r (Err none) = IsListenedShort Becomes before after net net' r

-- So it is for every session: the calls in turn, and then the closes of the sockets that are open, leave none open that was
-- given since these items.
abbrev pub ClosesAllSockets : Type 0
ClosesAllSockets = (r : ListenRules) (before : List Item) (calls : List Call) → IsInTurn (turn_listening r) calls →
    (s : ℕ) → has (given (items_of (closes_of (course_after r calls).phase ++ calls) ++ before)) s ≡ true →
    (has (closed (items_of (closes_of (course_after r calls).phase ++ calls) ++ before)) s ≡ true)
    ⊎ (has (given before) s ≡ true)
