-- How a group accepts a message (RFC 9622 section 9.2).
use Rattle.std.specs.Prelude.{◌≡◌, ◌⊎◌, ℕ, List, [], ◌∷◌, ◌++◌, max, Result, Ok, Err}
use Rattle.taps_message.specs.declared.message.Message.{Message}
use Rattle.taps_message.specs.declared.queued.PushError.{PushError}
use Rattle.taps_message.specs.declared.queued.PushError.TheVariants.{NoMemory}
use Rattle.taps_message.specs.Queues.{IsPushed}
use Rattle.taps_group.specs.declared.member.Member.{Member}
use Rattle.taps_group.specs.declared.group.Group.{Group}
use Rattle.taps_group.specs.Places.{Changes}

-- a member has the same connection, priority and orders, but for room
pub record IsSameMember {X : Type 0} {F : X → Type 0} (m n : Member X F) : Type 0 where
  pub orders : n.orders.items ≡ m.orders.items
  pub kept : n ≡ record m { orders = n.orders }

-- one member accepted a message at a time, or refused it, as its connection does
pub record Accepts {X : Type 0} {F : X → Type 0} (message : Message) (at : ℕ)
    (result : Result (Unit {0}) (PushError × Message)) (m n : Member X F) : Type 0 where
  pub pushed : IsPushed m.connection.sender.queue message at result n.connection.sender.queue
  pub sender : n.connection.sender ≡ record m.connection.sender {
    queue = n.connection.sender.queue;
    moment = max m.connection.sender.moment at;
  }
  pub kept : n.connection ≡ record m.connection { sender = n.connection.sender }
  pub priority : n.priority ≡ m.priority

-- there was no memory for the order of the message, which is handed back
pub record HasNoRoom (message : Message) (refused : PushError × Message) : Type 0 where
  pub told : refused.0 ≡ NoMemory
  pub handed_back : refused.1 ≡ message

-- a member accepted a message and knows its order; or refused it; or had no room for the order
abbrev pub HasAccepted : {X : Type 0} {F : X → Type 0} → ℕ → Message → ℕ → Member X F →
    Result (Unit {0}) (PushError × Message) → Member X F → Type 0
HasAccepted order message at m (Ok done) n =
    Accepts message at (Ok done) m n × (n.orders.items ≡ m.orders.items ++ order ∷ [])
HasAccepted order message at m (Err refused) n =
    (HasNoRoom message refused × IsSameMember m n) ⊎
    (Accepts message at (Err refused) m n × (n.orders.items ≡ m.orders.items))

-- nothing but one member is different, and the list of places grew by these
pub record IsNoted {X : Type 0} {F : X → Type 0} (places : List ℕ) (g h : Group X F) : Type 0 where
  pub order : h.order.items ≡ g.order.items ++ places
  pub rest : h ≡ record g { members = h.members; order = h.order }

-- A message was accepted, and its member stands at the end of the list. One that is refused is handed back: by the
-- member, or since there is no memory for the list, and then nothing changed.
abbrev pub IsSent : {X : Type 0} {F : X → Type 0} → ℕ → Message → ℕ → Group X F →
    Result (Unit {0}) (PushError × Message) → Group X F → Type 0
IsSent member message at g (Ok done) h =
    Changes (Accepts message at (Ok done)) member g.members.items h.members.items × IsNoted (member ∷ []) g h
IsSent member message at g (Err refused) h =
    ((HasNoRoom message refused × Changes IsSameMember member g.members.items h.members.items) ⊎
    Changes (Accepts message at (Err refused)) member g.members.items h.members.items) × IsNoted [] g h
