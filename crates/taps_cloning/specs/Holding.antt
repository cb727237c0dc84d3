-- How the session of a group was held behind its first race (RFC 9622 sections 7.4, 9 and 10).
use Rattle.std.specs.Prelude.{◌≡◌, ◌≤◌, ◌++◌, ℕ, List, map, Result, Ok, Err}
use Rattle.taps_base.specs.Counts.{Rose}
use Rattle.taps_base.specs.declared.no_memory.NoMemory.{NoMemory}
use Rattle.taps_socket.specs.Calls.{Call, items_of}
use Rattle.taps_socket.specs.Net.{Net}
use Rattle.taps_exchange.specs.Outcomes.{count_by}
use Rattle.taps_exchange.specs.Turns.{Place}
use Rattle.taps_group.specs.Closes.{close_items}
use Rattle.taps_group_exchange.specs.declared.outcome.GroupOutcome.{GroupOutcome}
use Rattle.taps_group_exchange.specs.declared.outcome.GroupOutcome.TheVariants as ends
use Rattle.taps_group_exchange.specs.declared.told.Told.{Told}
use Rattle.taps_group_exchange.specs.Cloning.{items_of_races, sockets_of_races}
use Rattle.taps_group_exchange.specs.GroupExchanges.{MemberTold, told_by, told_of}
use Rattle.taps_group_exchange.specs.GroupSessions.{GroupCourse, IsGroupSession, IsCutGroup, calls_of, places_after, sockets_by}
use Rattle.taps_group_exchange.specs.Members.{GroupTerms}
use Rattle.taps_cloning.specs.declared.held.HeldGroup.{HeldGroup}
use Rattle.taps_cloning.specs.Opening.{AreUnused}
use Rattle.taps_cloning.specs.Telling.{nothing}

-- of a member that exchanged nothing
abbrev pub told_none : Place → MemberTold
told_none p = nothing

-- what the members sent and heard, by place: in their exchange; and nothing, where an outcome ended the session before
abbrev pub told_with : GroupOutcome → List Call → List Place → List MemberTold
told_with (ends.Exchanged o) calls places = map (told_of calls) places
told_with (ends.CloneLimit limit) calls places = map told_none places
told_with ends.CloneAllFailed calls places = map told_none places
told_with ends.CloneTimeout calls places = map told_none places
told_with ends.SocketFault calls places = map told_none places

abbrev pub members_told : GroupTerms → ℕ → ℕ → GroupCourse → List MemberTold
members_told g first at c = told_with c.outcome c.exchange (places_after g first at c.clones)

-- one timed call more where the exchange was timed, and else none
abbrev pub count_with : GroupOutcome → ℕ → ℕ
count_with (ends.Exchanged o) n = count_by o n
count_with (ends.CloneLimit limit) n = n
count_with ends.CloneAllFailed n = n
count_with ends.CloneTimeout n = n
count_with ends.SocketFault n = n

-- Sockets went through the calls of a session of a group with this outcome, in which the members sent and heard this.
-- Its items were added; one timed call more was made where the exchange was timed, and else none; a fault was counted
-- where the wait of a clone was faulted; and the clones' sockets had no traffic before.
pub record IsHeldGroup {N : Type 0} (Becomes : N → List Call → N → Type 0) (before after : N) (net net' : Net)
    (g : GroupTerms) (first : ℕ) (o : GroupOutcome) (told : List Told) : Type 0 where
  pub course : GroupCourse
  pub becomes : Becomes before (calls_of first course) after
  pub session : IsGroupSession g first net.told course
  pub outcome : course.outcome ≡ o
  pub told_is : map told_by told ≡ members_told g first net.told course
  pub trace : net'.trace ≡ close_items (sockets_by first course.clones)
      ++ (items_of course.exchange ++ (items_of_races course.clones ++ net.trace))
  pub timed : net'.timed ≡ count_with o net.timed
  pub fault : o ≡ ends.SocketFault → Rose net.faults net'.faults
  pub counted : net.faults ≤ net'.faults
  pub unused : AreUnused net (sockets_of_races course.clones)

-- Memory ran out: these are the first calls of a session of a group, and then the closes of its members.
pub record IsCutHeld {N : Type 0} (Becomes : N → List Call → N → Type 0) (before after : N) (net : Net)
    (g : GroupTerms) (first : ℕ) : Type 0 where
  pub calls : List Call
  pub becomes : Becomes before calls after
  pub cut : IsCutGroup g first net.told calls

-- the session was held, or memory ran out
abbrev pub HasHeld : {N : Type 0} → (N → List Call → N → Type 0) → N → N → Net → Net → GroupTerms → ℕ →
    Result HeldGroup NoMemory → Type 0
HasHeld Becomes before after net net' g first (Ok held) =
    IsHeldGroup Becomes before after net net' g first held.outcome held.members.items
HasHeld Becomes before after net net' g first (Err none) = IsCutHeld Becomes before after net g first
