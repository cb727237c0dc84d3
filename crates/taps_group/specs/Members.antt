-- The members of a group, by place.
use Rattle.std.specs.Prelude.{◌≡◌, ◌<◌, ℕ, List, slice_get, Some, length, map}
use Rattle.std.specs.List.{All}
use Rattle.taps_framer.specs.declared.framer.Framer as framer
use Rattle.taps_chain.specs.Layers.{layers_of}
use Rattle.taps_message.specs.declared.accepted.Accepted.{Accepted}
use Rattle.taps_stack.specs.StackTable.{is_stream}
use Rattle.taps_connection.specs.declared.sender.Begun.{Begun}
use Rattle.taps_connection.specs.declared.sender.Sender.{Sender}
use Rattle.taps_connection.specs.Inboxes.{IsSoundReceiver}
use Rattle.taps_connection.specs.Senders.{queued, waiting_number}
use Rattle.taps_connection.specs.Sound.{IsSound}
use Rattle.taps_group.specs.declared.member.Member.{Member}
use Rattle.taps_group.specs.Orders.{Standing, orders_of}

-- by what a member stands to send
abbrev pub standing_of : {X : Type 0} {F : X → Type 0} → Member X F → Standing
standing_of m = record { priority = m.priority; waiting = waiting_number m.connection.sender }

abbrev pub standings : {X : Type 0} {F : X → Type 0} → List (Member X F) → List Standing
standings members = map standing_of members

-- each message that is still to be sent has a number below that of the accepted ones
pub record HasNumbers (s : Sender) : Type 0 where
  pub queued_below : All (λ (a : Accepted). a.number < s.queue.queue.accepted) (queued s)
  pub begun_below : (b : Begun) → s.begun ≡ Some b → b.number < s.queue.queue.accepted

-- what always holds of a member: its connection is sound, and the group knows the order of each message that it
-- accepted
pub record IsSoundMember {X : Type 0} {F : X → Type 0} (boxed : (x : X) → framer.Ghosts (F x)) (order : List ℕ)
    (place : ℕ) (m : Member X F) : Type 0 where
  pub sending : IsSound (is_stream m.connection.stack) (layers_of boxed m.connection.chain) m.connection.sender
  pub receiving : IsSoundReceiver boxed m.connection.stack (layers_of boxed m.connection.chain) m.connection.receiver
  pub numbers : HasNumbers m.connection.sender
  pub orders : m.orders.items ≡ orders_of place order
  pub counted : length m.orders.items ≡ m.connection.sender.queue.queue.accepted

abbrev pub AreSound : {X : Type 0} {F : X → Type 0} → ((x : X) → framer.Ghosts (F x)) → List ℕ → List (Member X F) →
    Type 0
AreSound boxed order members = (place : ℕ) (m : Member _ _) → slice_get members place ≡ Some m →
    IsSoundMember boxed order place m
