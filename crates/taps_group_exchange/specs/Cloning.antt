-- How the clones of a group are made: each by a race of one leaf (RFC 9622 section 7.4; the race is local).
use Rattle.std.proofs.Common.{zero, suc}
use Rattle.std.specs.Prelude.{◌≡◌, ◌≤◌, ◌<◌, ℕ, ◌+◌, List, [], ◌∷◌, ◌++◌, Option, Some, None}
use Rattle.taps_stack.specs.declared.target.Target.{Target}
use Rattle.taps_socket.specs.declared.item.Item.{Item}
use Rattle.taps_socket.specs.declared.race_answer.RaceAnswer.{RaceAnswer}
use Rattle.taps_socket.specs.declared.race_answer.RaceAnswer.TheVariants as answer
use Rattle.taps_socket.specs.Calls.{Call, AddEach}
use Rattle.taps_socket.specs.LawfulRace.{IsLawfulRace}
use Rattle.taps_group.specs.Clones.{clone_rules}
use Rattle.taps_group.specs.Properties.{most_members}
use Rattle.taps_group_exchange.specs.declared.outcome.GroupOutcome.{GroupOutcome}
use Rattle.taps_group_exchange.specs.declared.outcome.GroupOutcome.TheVariants as ends
use Rattle.taps_group_exchange.specs.Members.{GroupTerms}

-- the race of a clone: its calls, which each added one of these items, and its answer
pub record CloneRace : Type 0 where
  pub calls : List Call
  pub items : List Item
  pub answer : RaceAnswer

-- it is a lawful race of one leaf, under a number
pub record IsCloneRace (target : Target) (leaf timeout : ℕ) (r : CloneRace) : Type 0 where
  pub each : AddEach r.calls r.items
  pub lawful : IsLawfulRace (clone_rules timeout) leaf (target ∷ []) r.items r.answer

-- the races of clones, the oldest first: all calls, all items, and the sockets that they gave, by place
abbrev pub calls_of_races : List CloneRace → List Call
calls_of_races [] = []
calls_of_races (r ∷ races) = calls_of_races races ++ r.calls

abbrev pub items_of_races : List CloneRace → List Item
items_of_races [] = []
items_of_races (r ∷ races) = items_of_races races ++ r.items

abbrev pub socket_by : RaceAnswer → List ℕ
socket_by (answer.Ready leaf socket at) = socket ∷ []
socket_by answer.NoCandidate = []
socket_by answer.AllFailed = []
socket_by answer.Timeout = []
socket_by answer.Closed = []
socket_by answer.SocketFault = []

abbrev pub sockets_of_races : List CloneRace → List ℕ
sockets_of_races [] = []
sockets_of_races (r ∷ races) = socket_by r.answer ++ sockets_of_races races

-- a race that gave no socket ends the session
abbrev pub Failed : RaceAnswer → GroupOutcome → Type 0
Failed answer.AllFailed o = o ≡ ends.CloneAllFailed
Failed answer.Timeout o = o ≡ ends.CloneTimeout
Failed answer.SocketFault o = o ≡ ends.SocketFault
Failed (answer.Ready leaf socket at) o = ⊥
Failed answer.NoCandidate o = ⊥
Failed answer.Closed o = ⊥

-- a race gave a socket, and so on; or it failed, and ended the session as the last one
abbrev pub GoesOn : RaceAnswer → List CloneRace → Option GroupOutcome → Type 0 → Type 0
GoesOn (answer.Ready leaf socket at) races stopped Others = Others
GoesOn a races stopped Others = (races ≡ []) × ((o : GroupOutcome) × ((stopped ≡ Some o) × Failed a o))

-- So many clones are still to be made in a group of so many members, the next one under this leaf's number. These are
-- their races, and this outcome ends the session, if one does: the group has as many members as it may have, or a race
-- gave no socket.
abbrev pub AreCloned : GroupTerms → ℕ → ℕ → ℕ → List CloneRace → Option GroupOutcome → Type 0
AreCloned g leaf members zero races stopped = (races ≡ []) × (stopped ≡ None)
AreCloned g leaf members (suc left) [] stopped =
    (most_members g.props ≤ members) × (stopped ≡ Some (ends.CloneLimit (most_members g.props)))
AreCloned g leaf members (suc left) (r ∷ races) stopped =
    (members < most_members g.props) × (IsCloneRace g.target leaf g.timeout r
    × GoesOn r.answer races stopped (AreCloned g (leaf + 1) (members + 1) left races stopped))

-- the race gave a socket
abbrev pub GaveSocket : RaceAnswer → Type 0
GaveSocket (answer.Ready leaf socket at) = Unit {0}
GaveSocket answer.NoCandidate = ⊥
GaveSocket answer.AllFailed = ⊥
GaveSocket answer.Timeout = ⊥
GaveSocket answer.Closed = ⊥
GaveSocket answer.SocketFault = ⊥

-- each of these races gave its clone a socket, in a group of so many members
abbrev pub AreMade : GroupTerms → ℕ → ℕ → List CloneRace → Type 0
AreMade g leaf members [] = Unit {0}
AreMade g leaf members (r ∷ races) =
    (members < most_members g.props) × (IsCloneRace g.target leaf g.timeout r
    × (GaveSocket r.answer × AreMade g (leaf + 1) (members + 1) races))
