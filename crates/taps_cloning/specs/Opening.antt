-- How the clones of a group were made over sockets (RFC 9622 section 7.4; the race of a clone is local).
use Rattle.std.specs.Prelude.{◌≡◌, ◌≤◌, ◌<◌, ◌+◌, ◌*◌, ℕ, List, [], ◌∷◌, ◌++◌, length, Option, Some, Result, Ok, Err}
use Rattle.taps_base.specs.Counts.{Rose}
use Rattle.taps_base.specs.declared.no_memory.NoMemory.{NoMemory}
use Rattle.taps_chain.specs.ChainLaws.{AreFramers}
use Rattle.taps_chain.specs.Layers.{layers_of}
use Rattle.taps_framer.specs.Layers.{Layer}
use Rattle.taps_framer.specs.declared.framer.Framer as framer
use Rattle.taps_property.specs.declared.conn_state.ConnState.TheVariants.{Established}
use Rattle.taps_socket.specs.declared.item.Item.{Item}
use Rattle.taps_socket.specs.Calls.{Call}
use Rattle.taps_socket.specs.Net.{Net, IsUnused, PreservesTraffic}
use Rattle.taps_group.specs.Closes.{sockets_of}
use Rattle.taps_group.specs.declared.group.Group.{Group}
use Rattle.taps_group.specs.declared.member.Member.{Member}
use Rattle.taps_group_exchange.specs.declared.outcome.GroupOutcome.{GroupOutcome}
use Rattle.taps_group_exchange.specs.declared.outcome.GroupOutcome.TheVariants as ends
use Rattle.taps_group_exchange.specs.Cloning.{CloneRace, calls_of_races, items_of_races, sockets_of_races, AreCloned, AreMade}
use Rattle.taps_group_exchange.specs.GroupSessions.{sockets_by, IsUndone}
use Rattle.taps_group_exchange.specs.Members.{GroupTerms, own_priority}
use Rattle.taps_group_exchange.specs.Standing.{IsNew}
use Rattle.taps_group_exchange.specs.declared.addressed.Addressed.{Addressed}
use Rattle.taps_cloning.specs.declared.terms.Terms.{Terms}
use Rattle.taps_cloning.specs.GroupRules.{terms_of}

-- these sockets have no traffic
abbrev pub AreUnused : Net → List ℕ → Type 0
AreUnused net [] = Unit {0}
AreUnused net (s ∷ sockets) = IsUnused (net.traffic s) × AreUnused net sockets

-- The sockets went through the races of clones, of which each added five items at most. The traffic of all sockets
-- stayed, and the clones' have none; no timed call was made; and the count of faults did not fall.
pub record HasCloned {N : Type 0} (Becomes : N → List Call → N → Type 0) (before after : N) (net net' : Net)
    (races : List CloneRace) : Type 0 where
  pub becomes : Becomes before (calls_of_races races) after
  pub trace : net'.trace ≡ items_of_races races ++ net.trace
  pub preserved : PreservesTraffic net net'
  pub unused : AreUnused net (sockets_of_races races)
  pub spare : net.spare ≤ net'.spare + 5 * length races
  pub counted : net.faults ≤ net'.faults

-- the member at a place is new: of the target and the layers of its group, and with its own priority
pub record IsOpened {X : Type 0} {F : X → Type 0} (boxed : (x : X) → framer.Ghosts (F x)) (g : GroupTerms)
    (at : ℕ) (trace : List Item) (place : ℕ) (m : Member X F) : Type 0 where
  pub unused : IsNew boxed g.piece at trace m
  pub stack : m.connection.stack ≡ g.target.stack
  pub layers : layers_of boxed m.connection.chain ≡ g.layers
  pub priority : m.priority ≡ own_priority g place

abbrev pub AreOpened : {X : Type 0} {F : X → Type 0} → ((x : X) → framer.Ghosts (F x)) → GroupTerms → ℕ →
    List Item → ℕ → List (Member X F) → Type 0
AreOpened boxed g at trace place [] = Unit {0}
AreOpened boxed g at trace place (m ∷ members) =
    IsOpened boxed g at trace place m × AreOpened boxed g at trace (place + 1) members

-- A group goes by its terms. It has the first member, and a member over each socket that these races gave; all of them
-- are new, and no message was accepted.
pub record IsOpenedGroup {X : Type 0} {F : X → Type 0} (boxed : (x : X) → framer.Ghosts (F x)) (g : GroupTerms)
    (first : ℕ) (net : Net) (races : List CloneRace) (h : Group X F) : Type 0 where
  pub target : h.target ≡ g.target
  pub layers : layers_of boxed h.chain ≡ g.layers
  pub framers : AreFramers g.layers
  pub piece : h.piece ≡ g.piece
  pub props : h.props ≡ record g.props { conn_state = Established }
  pub none_accepted : h.order.items ≡ []
  pub sockets : sockets_of h.members.items ≡ sockets_by first races
  pub members : AreOpened boxed g net.told net.trace 0 h.members.items

-- so it is with some layers and some first member
pub record HasOpenedGroup {X : Type 0} {F : X → Type 0} (boxed : (x : X) → framer.Ghosts (F x)) (terms : Terms)
    (priorities : List ℕ) (messages : List Addressed) (net : Net) (races : List CloneRace) (h : Group X F) :
    Type 0 where
  pub layers : List Layer
  pub first : ℕ
  pub group : IsOpenedGroup boxed (terms_of terms layers priorities messages) first net races h

-- The clones were made, or an outcome ended the session at one of them. A fault was counted where a wait was faulted.
pub record HasOpenedAll {N : Type 0} {X : Type 0} {F : X → Type 0} (boxed : (x : X) → framer.Ghosts (F x))
    (Becomes : N → List Call → N → Type 0) (before after : N) (net net' : Net) (g : GroupTerms) (first : ℕ)
    (stopped : Option GroupOutcome) (h : Group X F) : Type 0 where
  pub races : List CloneRace
  pub cloned : AreCloned g g.leaf 1 g.clones races stopped
  pub few : length races ≤ g.clones
  pub raced : HasCloned Becomes before after net net' races
  pub group : IsOpenedGroup boxed g first net' races h
  pub fault : stopped ≡ Some ends.SocketFault → Rose net.faults net'.faults

-- Memory ran out at a clone: there was no race of it, or its socket was closed at once. The group has the clones that
-- were made.
pub record HasOpenedSome {N : Type 0} {X : Type 0} {F : X → Type 0} (Becomes : N → List Call → N → Type 0)
    (before after : N) (net net' : Net) (g : GroupTerms) (first : ℕ) (h : Group X F) : Type 0 where
  pub races : List CloneRace
  pub begun : List Call
  pub made : AreMade g g.leaf 1 races
  pub fewer : length races < g.clones
  pub undone : IsUndone g (g.leaf + length races) begun
  pub becomes : Becomes before (begun ++ calls_of_races races) after
  pub spare : net.spare ≤ net'.spare + (5 * length races + 6)
  pub sockets : sockets_of h.members.items ≡ sockets_by first races

-- the clones of a group were made as far as they may be, or as far as memory lasted
abbrev pub HasOpened : {N : Type 0} {X : Type 0} {F : X → Type 0} → ((x : X) → framer.Ghosts (F x)) →
    (N → List Call → N → Type 0) → N → N → Net → Net → GroupTerms → ℕ → Result (Option GroupOutcome) NoMemory →
    Group X F → Type 0
HasOpened boxed Becomes before after net net' g first (Ok stopped) h =
    HasOpenedAll boxed Becomes before after net net' g first stopped h
HasOpened boxed Becomes before after net net' g first (Err none) h =
    HasOpenedSome Becomes before after net net' g first h
