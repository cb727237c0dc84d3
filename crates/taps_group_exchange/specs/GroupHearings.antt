-- How the members of a group hear, by place (RFC 9622 section 9.3).
use Rattle.std.specs.Prelude.{◌≡◌, ◌≤◌, ◌+◌, ℕ, false, List, [], ◌∷◌, ◌++◌, length, slice_get, Option, Some, None, Result, Ok, Err}
use Rattle.taps_base.specs.declared.no_memory.NoMemory.{NoMemory}
use Rattle.taps_framer.specs.declared.framer.Framer as framer
use Rattle.taps_chain.specs.Layers.{layers_of}
use Rattle.taps_stack.specs.StackTable.{is_stream}
use Rattle.taps_socket.specs.Calls.{Call, items_of}
use Rattle.taps_socket.specs.Net.{Net}
use Rattle.taps_connection.specs.Outboxes.{all_out}
use Rattle.taps_connection.specs.Runs.{AllGo}
use Rattle.taps_connection.specs.Sources.{unread_of}
use Rattle.taps_connection.specs.Unread.{first_unread}
use Rattle.taps_exchange.specs.declared.outcome.Outcome.{Outcome}
use Rattle.taps_exchange.specs.Changes as exchange
use Rattle.taps_exchange.specs.Decodings.{enough, decoding_of}
use Rattle.taps_exchange.specs.Hearings.{HasHeard}
use Rattle.taps_exchange.specs.Members.{calls_on, pieces_read, has_ended, hearing_after}
use Rattle.taps_exchange.specs.Turns.{Place, stand_of, turn_of_group, IsInTurn, IsExchange}
use Rattle.taps_group.specs.Closes.{sockets_of}
use Rattle.taps_group.specs.declared.member.Member.{Member}
use Rattle.taps_group_exchange.specs.declared.hearing.Progress.{Progress}
use Rattle.taps_group_exchange.specs.declared.told.Told.{Told}
use Rattle.taps_group_exchange.specs.GroupExchanges.{told_by, told_of, sockets_in}
use Rattle.taps_group_exchange.specs.GroupSendings.{IsSilent, KeepsExpired}
use Rattle.taps_group_exchange.specs.Standing.{EachAt}

-- one member heard: calls on its own socket were made, and it keeps all but what it received and its time
pub record KeepsHearing {X : Type 0} {F : X → Type 0} (net net' : Net) (m n : Member X F) : Type 0 where
  pub changes : exchange.Changes m.connection.socket 1 net net'
  pub kept : n ≡ record m {
    connection = record m.connection { receiver = n.connection.receiver; sender = n.connection.sender };
  }
  pub sender : n.connection.sender ≡ record m.connection.sender { moment = n.connection.sender.moment }

-- a member asks for so many bytes at once, and has read none
abbrev pub AsksAtOnce : {X : Type 0} {F : X → Type 0} → ((x : X) → framer.Ghosts (F x)) → ℕ → Member X F → Type 0
AsksAtOnce boxed piece m = unread_of m.connection.receiver.source ≡
    first_unread m.connection.stack piece (length (layers_of boxed m.connection.chain))

-- the calls by which such a member heard are those that are asked for
abbrev pub HearsAs : {N : Type 0} {X : Type 0} {F : X → Type 0} → ((x : X) → framer.Ghosts (F x)) →
    (N → List Call → N → Type 0) → N → N → ℕ → ℕ → Result (Option Outcome) NoMemory → List (List ℕ) → Member X F →
    Type 0
HearsAs boxed Becomes before after until needs result heard m = (piece : ℕ) → AsksAtOnce boxed piece m →
    HasHeard Becomes (decoding_of (is_stream m.connection.stack) (layers_of boxed m.connection.chain))
    before after m.connection.socket piece until needs [] false result heard

-- of the first members so much is told, and of the rest this holds
abbrev pub Split : {M : Type 0} → (Place → Told → Type 0) → (Place → M → Type 0) → List Told → List Place → List M →
    Type 0
Split Done Rest [] places members = EachAt Rest places members
Split Done Rest (t ∷ told) [] members = ⊥
Split Done Rest (t ∷ told) (p ∷ places) [] = ⊥
Split Done Rest (t ∷ told) (p ∷ places) (m ∷ members) = Done p t × Split Done Rest told places members

-- all messages had their turn
abbrev pub AllOut : List Call → List Place → Type 0
AllOut calls [] = Unit {0}
AllOut calls (p ∷ places) = (stand_of calls p ≡ all_out) × AllOut calls places

-- what is told of a member is what it sent and heard
abbrev pub IsTold : List Call → Place → Told → Type 0
IsTold calls p t = told_by t ≡ told_of calls p

-- and that is as much as it needs
pub record HasHeardAll (calls : List Call) (p : Place) (t : Told) : Type 0 where
  pub told : IsTold calls p t
  pub heard : hearing_after p.member (calls_on p.member.socket calls) ≡ enough t.heard.items

-- nothing was read on a member's socket
pub record IsUnread {X : Type 0} {F : X → Type 0} (boxed : (x : X) → framer.Ghosts (F x)) (calls : List Call)
    (p : Place) (m : Member X F) : Type 0 where
  pub silent : IsSilent boxed calls p m
  pub pieces : pieces_read (calls_on p.member.socket calls) ≡ []
  pub still_open : has_ended (calls_on p.member.socket calls) ≡ false

-- so that it can hear
pub record CanHear {X : Type 0} {F : X → Type 0} (boxed : (x : X) → framer.Ghosts (F x)) (calls : List Call)
    (p : Place) (m : Member X F) : Type 0 where
  pub unread : IsUnread boxed calls p m
  pub socket : m.connection.socket ≡ p.member.socket
  pub at_once : AsksAtOnce boxed p.member.piece m

-- the members hear: so many did
pub record HearsOn {N : Type 0} {X : Type 0} {F : X → Type 0} (boxed : (x : X) → framer.Ghosts (F x))
    (Becomes : N → List Call → N → Type 0) (before now : N) (net net' : Net) (places : List Place) (told : List Told)
    (members : List (Member X F)) : Type 0 where
  pub calls : List Call
  pub becomes : Becomes before calls now
  pub in_turn : IsInTurn (turn_of_group places) calls
  pub go : AllGo calls
  pub out : AllOut calls places
  pub expired : EachAt (KeepsExpired calls) places members
  pub sockets : sockets_in places ≡ sockets_of members
  pub split : Split (HasHeardAll calls) (CanHear boxed calls) told places members
  pub few : length (items_of calls) ≤ length members + length told
  pub faults : net'.faults ≡ net.faults

-- the exchange is over, and so much is told
pub record IsOverBy {N : Type 0} {X : Type 0} {F : X → Type 0} (boxed : (x : X) → framer.Ghosts (F x))
    (Becomes : N → List Call → N → Type 0) (before now : N) (net net' : Net) (places : List Place) (o : Outcome)
    (told : List Told) (members : List (Member X F)) : Type 0 where
  pub calls : List Call
  pub becomes : Becomes before calls now
  pub exchange : IsExchange (turn_of_group places) calls o
  pub split : Split (IsTold calls) (IsUnread boxed calls) told places members
  pub few : length (items_of calls) ≤ length members + length members
  pub faults : net'.faults ≡ net.faults

-- the members hear, or the exchange is over
abbrev pub HearsOrOver : {N : Type 0} {X : Type 0} {F : X → Type 0} → ((x : X) → framer.Ghosts (F x)) →
    (N → List Call → N → Type 0) → N → N → Net → Net → List Place → Option Outcome → List Told →
    List (Member X F) → Type 0
HearsOrOver boxed Becomes before now net net' places None told members =
    HearsOn boxed Becomes before now net net' places told members
HearsOrOver boxed Becomes before now net net' places (Some o) told members =
    IsOverBy boxed Becomes before now net net' places o told members

-- memory ran out
pub record IsHearingCut {N : Type 0} (Becomes : N → List Call → N → Type 0) (before now : N) (net net' : Net)
    (places : List Place) : Type 0 where
  pub calls : List Call
  pub becomes : Becomes before calls now
  pub in_turn : IsInTurn (turn_of_group places) calls
  pub few : length (items_of calls) ≤ length places + length places
  pub faults : net'.faults ≡ net.faults

-- of the members from a place on so much holds
abbrev pub AllFrom : {M : Type 0} → (M → Type 0) → ℕ → List M → Type 0
AllFrom P from members = (place : ℕ) (m : _) → from ≤ place → slice_get members place ≡ Some m → P m

-- each member hears so many messages, up to a time
abbrev pub AllNeed : ℕ → ℕ → List Place → Type 0
AllNeed until needs [] = Unit {0}
AllNeed until needs (p ∷ places) =
    (p.member.until ≡ until) × ((p.member.needs ≡ needs) × AllNeed until needs places)

-- one member more is told
abbrev pub HasStepped : {N : Type 0} {X : Type 0} {F : X → Type 0} → ((x : X) → framer.Ghosts (F x)) →
    (N → List Call → N → Type 0) → N → N → Net → Net → List Place → List Told →
    Result (Option Outcome × Told) NoMemory → List (Member X F) → Type 0
HasStepped boxed Becomes first now net net' places told (Ok step) members =
    HearsOrOver boxed Becomes first now net net' places step.0 (told ++ step.1 ∷ []) members
HasStepped boxed Becomes first now net net' places told (Err none) members =
    IsHearingCut Becomes first now net net' places

-- all members are told
abbrev pub HasHeardOut : {N : Type 0} {X : Type 0} {F : X → Type 0} → ((x : X) → framer.Ghosts (F x)) →
    (N → List Call → N → Type 0) → N → N → Net → Net → List Place → Result Progress NoMemory →
    List (Member X F) → Type 0
HasHeardOut boxed Becomes first now net net' places (Ok progress) members =
    (length progress.told.items ≡ length members)
    × HearsOrOver boxed Becomes first now net net' places progress.stopped progress.told.items members
HasHeardOut boxed Becomes first now net net' places (Err none) members =
    IsHearingCut Becomes first now net net' places
