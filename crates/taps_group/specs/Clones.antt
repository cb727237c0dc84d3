-- What comes of cloning a connection of a group (RFC 9622 section 7.4; the race of a clone is local).
use Rattle.std.specs.Prelude.{◌≡◌, ◌≤◌, ◌<◌, ◌⊎◌, ℕ, false, List, [], ◌∷◌, ◌++◌, length, None, Result, Ok, Err}
use Rattle.taps_base.specs.declared.gap.Gap.TheVariants.{After}
use Rattle.taps_framer.specs.Layers.{Layer}
use Rattle.taps_framer.specs.declared.framer.Framer as framer
use Rattle.taps_chain.specs.Layers.{layers_of}
use Rattle.taps_property.specs.declared.connection_props.ConnectionProps.{ConnectionProps}
use Rattle.taps_stack.specs.declared.stack.Stack.{Stack}
use Rattle.taps_stack.specs.declared.target.Target.{Target}
use Rattle.taps_stack.specs.StackTable.{is_stream}
use Rattle.taps_socket.specs.declared.item.Item.{Item}
use Rattle.taps_socket.specs.declared.item.Item.TheVariants as item
use Rattle.taps_socket.specs.declared.race_answer.RaceAnswer.{RaceAnswer}
use Rattle.taps_socket.specs.declared.race_answer.RaceAnswer.TheVariants as answer
use Rattle.taps_socket.specs.Net.{Net, with_item, with_spare}
use Rattle.taps_socket.specs.Rules.{Rules}
use Rattle.taps_racer.specs.CarriedOut.{IsCarriedOut}
use Rattle.taps_connection.specs.Conditions.{IsHeld}
use Rattle.taps_connection.specs.Histories.{Represents}
use Rattle.taps_connection.specs.Inboxes.{IsSoundReceiver}
use Rattle.taps_connection.specs.Senders.{IsNewSender}
use Rattle.taps_connection.specs.Sound.{IsSound}
use Rattle.taps_connection.specs.Sources.{unread_of}
use Rattle.taps_connection.specs.Unread.{first_unread}
use Rattle.taps_group.specs.declared.member.Member.{Member}
use Rattle.taps_group.specs.declared.group.Group.{Group}
use Rattle.taps_group.specs.declared.clone.CloneError.{CloneError}
use Rattle.taps_group.specs.declared.clone.CloneError.TheVariants as error
use Rattle.taps_group.specs.Groups.{IsSameGroup}
use Rattle.taps_group.specs.Properties.{first_priority, most_members, with_priority}

-- the race of a clone has one leaf, and no cancel
abbrev pub clone_rules : ℕ → Rules
clone_rules timeout = record { gaps = After 0 ∷ []; timeout = timeout; cancel = None }

-- a race of one leaf was carried out over this target, under this number, and has this answer
pub record HasRaced (target : Target) (leaf timeout : ℕ) (before after : Net) (a : RaceAnswer) : Type 0 where
  pub race : List Item
  pub carried_out : IsCarriedOut (clone_rules timeout) leaf (target ∷ []) before after race a

-- it gave no socket: the attempt was refused or broke, or the time had passed, or a wait was faulted
abbrev pub IsFailure : RaceAnswer → Type 0
IsFailure answer.AllFailed = Unit {0}
IsFailure answer.Timeout = Unit {0}
IsFailure answer.SocketFault = Unit {0}
IsFailure (answer.Ready leaf socket at) = ⊥
IsFailure answer.NoCandidate = ⊥
IsFailure answer.Closed = ⊥

-- a new member over a socket that was given at a time, through these layers, with these properties but for its priority
pub record IsClone {X : Type 0} {F : X → Type 0} (boxed : (x : X) → framer.Ghosts (F x)) (socket at : ℕ)
    (stack : Stack) (fs : List Layer) (props : ConnectionProps) (piece : ℕ) (m : Member X F) : Type 0 where
  pub socket_is : m.connection.socket ≡ socket
  pub stack_is : m.connection.stack ≡ stack
  pub props_are : m.connection.props ≡ with_priority first_priority props
  pub priority : m.priority ≡ first_priority
  pub layers : layers_of boxed m.connection.chain ≡ fs
  pub sender : IsNewSender at m.connection.sender
  pub goes_on : m.connection.receiver.ended ≡ false
  pub unread : unread_of m.connection.receiver.source ≡ first_unread stack piece (length fs)
  pub represents : Represents fs false (unread_of m.connection.receiver.source) [] []
  pub none_accepted : m.orders.items ≡ []
  pub sending : IsSound (is_stream m.connection.stack) (layers_of boxed m.connection.chain) m.connection.sender
  pub receiving : IsSoundReceiver boxed m.connection.stack (layers_of boxed m.connection.chain) m.connection.receiver

-- over this socket a new member stands at the end of a group
pub record HasJoined {X : Type 0} {F : X → Type 0} (boxed : (x : X) → framer.Ghosts (F x)) (socket at : ℕ)
    (g : Group X F) (place : ℕ) (h : Group X F) : Type 0 where
  pub member : Member X F
  pub clone : IsClone boxed socket at g.target.stack (layers_of boxed g.chain) g.props g.piece member
  pub place_is : place ≡ length g.members.items
  pub members : h.members.items ≡ g.members.items ++ member ∷ []
  pub rest : h ≡ record g { members = h.members }

-- or there was no memory for it, and the socket was closed
abbrev pub IsJoined : {X : Type 0} {F : X → Type 0} → ((x : X) → framer.Ghosts (F x)) → ℕ → ℕ → Net → Net →
    Group X F → Result ℕ CloneError → Group X F → Type 0
IsJoined boxed socket at before after g (Ok place) h = HasJoined boxed socket at g place h × (after ≡ before)
IsJoined boxed socket at before after g (Err e) h =
    (e ≡ error.NoMemory) × IsSameGroup g h × (after ≡ with_item before (item.Closed socket) before.told)

-- the race gave a socket, over which a new member stands at the end of the group; its calls may be made
pub record Joins {X : Type 0} {F : X → Type 0} (boxed : (x : X) → framer.Ghosts (F x)) (leaf timeout : ℕ)
    (before after : Net) (g : Group X F) (place : ℕ) (h : Group X F) : Type 0 where
  pub socket : ℕ
  pub at : ℕ
  pub raced : HasRaced g.target leaf timeout before after (answer.Ready 0 socket at)
  pub joined : HasJoined boxed socket at g place h
  pub held : IsHeld after.trace socket (is_stream g.target.stack) false false

-- the race failed with this answer
pub record Fails {X : Type 0} {F : X → Type 0} (leaf timeout : ℕ) (before after : Net) (g : Group X F)
    (a : RaceAnswer) (h : Group X F) : Type 0 where
  pub failure : IsFailure a
  pub raced : HasRaced g.target leaf timeout before after a
  pub same : IsSameGroup g h

-- the race gave a socket, which was closed
pub record HasClosedAgain (target : Target) (leaf timeout : ℕ) (before after : Net) : Type 0 where
  pub raced_to : Net
  pub socket : ℕ
  pub at : ℕ
  pub raced : HasRaced target leaf timeout before raced_to (answer.Ready 0 socket at)
  pub closed : after ≡ with_item raced_to (item.Closed socket) raced_to.told

-- there was no race: nothing changed but spare, which did not fall
pub record HasNotRaced (before after : Net) : Type 0 where
  pub same : after ≡ with_spare before after.spare
  pub spare : before.spare ≤ after.spare

-- memory ran out: there was no race, or its socket was closed again
pub record FindsNoMemory {X : Type 0} {F : X → Type 0} (leaf timeout : ℕ) (before after : Net) (g h : Group X F) :
    Type 0 where
  pub same : IsSameGroup g h
  pub undone : HasNotRaced before after ⊎ HasClosedAgain g.target leaf timeout before after

-- what comes of a race, where there may be a member more
abbrev pub IsGrown : {X : Type 0} {F : X → Type 0} → ((x : X) → framer.Ghosts (F x)) → ℕ → ℕ → Net → Net →
    Group X F → Result ℕ CloneError → Group X F → Type 0
IsGrown boxed leaf timeout before after g (Ok place) h = Joins boxed leaf timeout before after g place h
IsGrown boxed leaf timeout before after g (Err (error.LimitReached limit)) h = ⊥
IsGrown boxed leaf timeout before after g (Err (error.Failed a)) h = Fails leaf timeout before after g a h
IsGrown boxed leaf timeout before after g (Err error.NoMemory) h = FindsNoMemory leaf timeout before after g h

-- the group has as many members as it may have: no call was made
pub record ReachesLimit {X : Type 0} {F : X → Type 0} (before after : Net) (g : Group X F) (limit : ℕ)
    (h : Group X F) : Type 0 where
  pub limit_is : limit ≡ most_members g.props
  pub reached : limit ≤ length g.members.items
  pub no_call : after ≡ before
  pub same : h ≡ g

-- Below the limit a clone is a new member, and every refusal leaves the group as it was and opens no socket: at the
-- limit there is no call; after a race that failed its own answer is told; and where memory runs out there was no race,
-- or its socket was closed again.
abbrev pub IsCloned : {X : Type 0} {F : X → Type 0} → ((x : X) → framer.Ghosts (F x)) → ℕ → ℕ → Net → Net →
    Group X F → Result ℕ CloneError → Group X F → Type 0
IsCloned boxed leaf timeout before after g (Ok place) h =
    (length g.members.items < most_members g.props) × Joins boxed leaf timeout before after g place h
IsCloned boxed leaf timeout before after g (Err (error.LimitReached limit)) h = ReachesLimit before after g limit h
IsCloned boxed leaf timeout before after g (Err (error.Failed a)) h =
    (length g.members.items < most_members g.props) × Fails leaf timeout before after g a h
IsCloned boxed leaf timeout before after g (Err error.NoMemory) h =
    (length g.members.items < most_members g.props) × FindsNoMemory leaf timeout before after g h
