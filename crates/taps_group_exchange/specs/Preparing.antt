-- A new group is made ready for its exchange: its priorities by place, and the messages of its members (RFC 9622
-- sections 8.1.2 and 9.2).
use Rattle.std.specs.Prelude.{◌≡◌, ◌≤◌, ◌⊎◌, ℕ, max, List, [], ◌∷◌, ◌++◌, slice_get, Some}
use Rattle.taps_framer.specs.declared.framer.Framer as framer
use Rattle.taps_chain.specs.Layers.{layers_of}
use Rattle.taps_message.specs.declared.message.Message.{Message}
use Rattle.taps_message.specs.Queues.{Queue, empty_queue, push_refusal, with_message}
use Rattle.taps_socket.specs.Net.{Net}
use Rattle.taps_connection.specs.declared.sender.Sender.{Sender}
use Rattle.taps_connection.specs.Senders.{IsNewSender}
use Rattle.taps_exchange.specs.Accepting.{unless_refused}
use Rattle.taps_group.specs.Closes.{IsOpen, sockets_of}
use Rattle.taps_group.specs.Places.{Changes}
use Rattle.taps_group.specs.declared.group.Group.{Group}
use Rattle.taps_group.specs.declared.member.Member.{Member}
use Rattle.taps_group_exchange.specs.declared.addressed.Addressed.{Addressed}
use Rattle.taps_group_exchange.specs.Handing.{queue_of, order_of, place_unless}
use Rattle.taps_group_exchange.specs.Members.{GroupTerms, own_priority, places_at}
use Rattle.taps_group_exchange.specs.Standing.{AllOf, AreStanding, IsNewGroup, MayTalk, count_shut}

-- the first members have these priorities, by place, and the others their own
abbrev pub with_priorities : {X : Type 0} {F : X → Type 0} → List ℕ → List (Member X F) → List (Member X F)
with_priorities [] members = members
with_priorities (priority ∷ priorities) [] = []
with_priorities (priority ∷ priorities) (m ∷ members) =
    record m { priority = priority } ∷ with_priorities priorities members

-- a group has these members and properties, and all else is as it was
pub record IsPrioritized {X : Type 0} {F : X → Type 0} (priorities : List ℕ) (g h : Group X F) : Type 0 where
  pub members : h.members.items ≡ with_priorities priorities g.members.items
  pub rest : h ≡ record g { members = h.members; props = h.props }

-- a member accepted nothing yet, up to a time
pub record IsUnused {X : Type 0} {F : X → Type 0} (at : ℕ) (m : Member X F) : Type 0 where
  pub since : ℕ
  pub sender : IsNewSender since m.connection.sender
  pub before : since ≤ at

-- what a member was told last: the time at which it was handed a message, or, where it holds none, what it was before
abbrev pub IsToldAt : ℕ → Queue → Sender → Sender → Type 0
IsToldAt at q s t = (t.moment ≡ at) ⊎ ((q ≡ empty_queue) × (t.moment ≡ s.moment))

-- a new member was handed messages, of which its queue holds the accepted ones, and all else of it is as it was
pub record IsHanded {X : Type 0} {F : X → Type 0} (at : ℕ) (q : Queue) (m n : Member X F) : Type 0 where
  pub queue : n.connection.sender.queue.queue ≡ q
  pub sender : n.connection.sender ≡ record m.connection.sender {
    queue = n.connection.sender.queue;
    moment = n.connection.sender.moment;
  }
  pub moment : IsToldAt at q m.connection.sender n.connection.sender
  pub kept : n.connection ≡ record m.connection { sender = n.connection.sender }
  pub priority : n.priority ≡ m.priority

-- a member was handed a message at a time: it holds it, or refused it
pub record TakesOn {X : Type 0} {F : X → Type 0} (message : Message) (at : ℕ) (m n : Member X F) : Type 0 where
  pub queue : n.connection.sender.queue.queue ≡
      unless_refused (push_refusal m.connection.sender.queue.queue message) m.connection.sender.queue.queue
      (with_message message at m.connection.sender.queue.queue)
  pub sender : n.connection.sender ≡ record m.connection.sender {
    queue = n.connection.sender.queue;
    moment = max m.connection.sender.moment at;
  }
  pub kept : n.connection ≡ record m.connection { sender = n.connection.sender }
  pub priority : n.priority ≡ m.priority

-- so it is of the one member of a group, which stands at the end of the order unless it refused
pub record HandsOn {X : Type 0} {F : X → Type 0} (a : Addressed) (at : ℕ) (g h : Group X F) : Type 0 where
  pub member : Changes (TakesOn a.message at) a.member g.members.items h.members.items
  pub order : h.order.items ≡ g.order.items
      ++ place_unless (push_refusal member.was.connection.sender.queue.queue a.message) a.member

-- so it is of each member, by place, and the group knows the order of what was accepted
pub record AreHanded {X : Type 0} {F : X → Type 0} (at : ℕ) (addressed : List Addressed) (g h : Group X F) :
    Type 0 where
  pub each : (place : ℕ) (n : Member X F) → slice_get h.members.items place ≡ Some n →
      (m : Member X F) × ((slice_get g.members.items place ≡ Some m) × IsHanded at (queue_of at addressed place) m n)
  pub order : h.order.items ≡ order_of at addressed

-- a member leads to the target of these terms, through their layers, and has its own priority
pub record IsMemberFor {X : Type 0} {F : X → Type 0} (boxed : (x : X) → framer.Ghosts (F x)) (g : GroupTerms)
    (place : ℕ) (m : Member X F) : Type 0 where
  pub stack : m.connection.stack ≡ g.target.stack
  pub layers : layers_of boxed m.connection.chain ≡ g.layers
  pub priority : m.priority ≡ own_priority g place

-- a new group goes by these terms, of which these are the priorities and the messages
pub record IsGroupFor {X : Type 0} {F : X → Type 0} (boxed : (x : X) → framer.Ghosts (F x)) (g : GroupTerms)
    (at : ℕ) (net : Net) (priorities : List ℕ) (messages : List Addressed) (group : Group X F) : Type 0 where
  pub fresh : IsNewGroup boxed at net group
  pub each : (place : ℕ) (m : Member X F) → slice_get group.members.items place ≡ Some m →
      IsMemberFor boxed g place m
  pub piece : group.piece ≡ g.piece
  pub priorities_are : priorities ≡ g.priorities
  pub messages_are : messages ≡ g.messages

-- a group may begin its exchange: its members stand as these terms say, and may make calls on their sockets
pub record IsReady {X : Type 0} {F : X → Type 0} (boxed : (x : X) → framer.Ghosts (F x)) (g : GroupTerms) (at : ℕ)
    (net : Net) (group : Group X F) : Type 0 where
  pub standing : AreStanding boxed [] (places_at g at (sockets_of group.members.items)) group.members.items
  pub opened : IsOpen net group.members.items
  pub talk : AllOf (MayTalk boxed net) group.members.items
  pub none_shut : count_shut group.members.items ≡ 0
