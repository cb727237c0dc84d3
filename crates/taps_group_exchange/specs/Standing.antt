-- The members of a group in the middle of their exchange: what each of them keeps stands for the calls on its socket.
use Rattle.std.specs.Prelude.{◌≡◌, ◌⊎◌, ◌≤◌, ◌+◌, ℕ, Bool, true, false, List, [], ◌∷◌, length, slice_get, Option, Some, None}
use Rattle.taps_framer.specs.declared.framer.Framer as framer
use Rattle.taps_chain.specs.ChainLaws.{AreFramers}
use Rattle.taps_chain.specs.Layers.{layers_of}
use Rattle.taps_message.specs.declared.accepted.Accepted.{Accepted}
use Rattle.taps_stack.specs.StackTable.{is_stream}
use Rattle.taps_socket.specs.declared.item.Item.{Item}
use Rattle.taps_socket.specs.Calls.{Call, receives}
use Rattle.taps_socket.specs.Net.{Net}
use Rattle.taps_connection.specs.declared.sender.Begun.{Begun}
use Rattle.taps_connection.specs.declared.sender.Sender.{Sender}
use Rattle.taps_connection.specs.Conditions.{IsHeld}
use Rattle.taps_connection.specs.Encodings.{encoding_of}
use Rattle.taps_connection.specs.Inboxes.{IsSoundReceiver}
use Rattle.taps_connection.specs.Outboxes.{Outbox, all_out}
use Rattle.taps_connection.specs.Senders.{settled, queued, rest_of, IsNewSender}
use Rattle.taps_connection.specs.Sources.{unread_of}
use Rattle.taps_connection.specs.Unread.{first_unread, count_given}
use Rattle.taps_exchange.specs.Decodings.{decoding_of}
use Rattle.taps_exchange.specs.Exchanged.{member_over}
use Rattle.taps_exchange.specs.Members.{calls_on, outbox_after}
use Rattle.taps_exchange.specs.Turns.{Place}
use Rattle.taps_group.specs.Closes.{IsOpen}
use Rattle.taps_group.specs.Orders.{orders_of}
use Rattle.taps_group.specs.declared.group.Group.{Group}
use Rattle.taps_group.specs.declared.member.Member.{Member}
use Rattle.taps_group_exchange.specs.declared.addressed.Addressed.{Addressed}
use Rattle.taps_group_exchange.specs.Handing.{queue_of, order_of}

-- the member at a place in an exchange that begins at a time, with these messages for all
abbrev pub place_of : {X : Type 0} {F : X → Type 0} → ((x : X) → framer.Ghosts (F x)) → ℕ → ℕ → ℕ → ℕ →
    List Addressed → ℕ → Member X F → Place
place_of boxed at needs piece until messages place m = record {
  member = member_over m.connection.socket m.connection.stack (layers_of boxed m.connection.chain)
      (queue_of at messages place).queued at needs piece until;
  priority = m.priority;
  orders = orders_of place (order_of at messages);
}

abbrev pub places_of : {X : Type 0} {F : X → Type 0} → ((x : X) → framer.Ghosts (F x)) → ℕ → ℕ → ℕ → ℕ →
    List Addressed → ℕ → List (Member X F) → List Place
places_of boxed at needs piece until messages place [] = []
places_of boxed at needs piece until messages place (m ∷ members) =
    place_of boxed at needs piece until messages place m
    ∷ places_of boxed at needs piece until messages (place + 1) members

-- a connection is new: it accepted and read nothing, and asks for so many bytes at once; its socket is connected
pub record IsNew {X : Type 0} {F : X → Type 0} (boxed : (x : X) → framer.Ghosts (F x)) (piece at : ℕ)
    (trace : List Item) (m : Member X F) : Type 0 where
  pub since : ℕ
  pub sender : IsNewSender since m.connection.sender
  pub before : since ≤ at
  pub unread : unread_of m.connection.receiver.source ≡
      first_unread m.connection.stack piece (length (layers_of boxed m.connection.chain))
  pub goes_on : m.connection.receiver.ended ≡ false
  pub framers : AreFramers (layers_of boxed m.connection.chain)
  pub held : IsHeld trace m.connection.socket (is_stream m.connection.stack) false false

abbrev pub AreNew : {X : Type 0} {F : X → Type 0} → ((x : X) → framer.Ghosts (F x)) → ℕ → ℕ → List Item →
    List (Member X F) → Type 0
AreNew boxed piece at trace [] = Unit {0}
AreNew boxed piece at trace (m ∷ members) = IsNew boxed piece at trace m × AreNew boxed piece at trace members

-- so are all members of a group, which accepted no message, and can be closed
pub record IsNewGroup {X : Type 0} {F : X → Type 0} (boxed : (x : X) → framer.Ghosts (F x)) (at : ℕ) (net : Net)
    (g : Group X F) : Type 0 where
  pub each : AreNew boxed g.piece at net.trace g.members.items
  pub none_accepted : g.order.items ≡ []
  pub opened : IsOpen net g.members.items

-- two outboxes are the same, but for the time where all messages had their turn
pub record HasAllOut (a b : Outbox) : Type 0 where
  pub one : a.stand ≡ all_out
  pub other : b.stand ≡ all_out
  pub sent : a.sent ≡ b.sent
  pub expired : a.expired ≡ b.expired

abbrev pub IsAlike : Outbox → Outbox → Type 0
IsAlike a b = (a ≡ b) ⊎ HasAllOut a b

-- the numbers of messages, of which so many were accepted, by how many are behind each
abbrev pub ArePlaced : ℕ → List Accepted → Type 0
ArePlaced accepted [] = Unit {0}
ArePlaced accepted (m ∷ behind) = (m.number + (1 + length behind) ≡ accepted) × ArePlaced accepted behind

abbrev pub IsPlacedBefore : ℕ → Option Begun → List Accepted → Type 0
IsPlacedBefore accepted None messages = Unit {0}
IsPlacedBefore accepted (Some b) messages = b.number + (1 + length messages) ≡ accepted

-- so are the messages that are still to be sent
pub record HasPlaces (s : Sender) : Type 0 where
  pub queued_placed : ArePlaced s.queue.queue.accepted (queued s)
  pub begun_placed : IsPlacedBefore s.queue.queue.accepted s.begun (queued s)

-- what a member keeps stands for the calls on its socket: how its sending stands, and that it read nothing
pub record IsStanding {X : Type 0} {F : X → Type 0} (boxed : (x : X) → framer.Ghosts (F x))
    (calls : List Call) (p : Place) (m : Member X F) : Type 0 where
  pub socket : m.connection.socket ≡ p.member.socket
  pub encoding : encoding_of (is_stream m.connection.stack) (layers_of boxed m.connection.chain) ≡ p.member.encoding
  pub decoding : decoding_of (is_stream m.connection.stack) (layers_of boxed m.connection.chain) ≡ p.member.decoding
  pub priority : m.priority ≡ p.priority
  pub orders : m.orders.items ≡ p.orders
  pub counted : length p.member.messages ≡ m.connection.sender.queue.queue.accepted
  pub box : IsAlike (outbox_after p.member (calls_on p.member.socket calls))
      (settled p.member.encoding m.connection.sender)
  pub placed : HasPlaces m.connection.sender
  pub none_begun : m.connection.sender.begun ≡ None
  pub unread : unread_of m.connection.receiver.source ≡
      first_unread m.connection.stack p.member.piece (length (layers_of boxed m.connection.chain))

-- of each member at its place so much holds
abbrev pub EachAt : {M : Type 0} → (Place → M → Type 0) → List Place → List M → Type 0
EachAt Holds [] [] = Unit {0}
EachAt Holds [] (m ∷ members) = ⊥
EachAt Holds (p ∷ places) [] = ⊥
EachAt Holds (p ∷ places) (m ∷ members) = Holds p m × EachAt Holds places members

abbrev pub AreStanding : {X : Type 0} {F : X → Type 0} → ((x : X) → framer.Ghosts (F x)) → List Call →
    List Place → List (Member X F) → Type 0
AreStanding boxed calls places members = EachAt (IsStanding boxed calls) places members

-- so it is of all of a list
abbrev pub AllOf : {M : Type 0} → (M → Type 0) → List M → Type 0
AllOf P members = (place : ℕ) (m : _) → slice_get members place ≡ Some m → P m

-- a member may make calls on its socket, and heard nothing yet
pub record MayTalk {X : Type 0} {F : X → Type 0} (boxed : (x : X) → framer.Ghosts (F x)) (net : Net)
    (m : Member X F) : Type 0 where
  pub held : IsHeld net.trace m.connection.socket (is_stream m.connection.stack) m.connection.sender.shut
      m.connection.receiver.ended
  pub room : rest_of m.connection.sender ≤ (net.traffic m.connection.socket).room
  pub framers : AreFramers (layers_of boxed m.connection.chain)
  pub receiving : IsSoundReceiver boxed m.connection.stack (layers_of boxed m.connection.chain) m.connection.receiver
  pub none_given : count_given (unread_of m.connection.receiver.source) ≡ 0
  pub goes_on : m.connection.receiver.ended ≡ false

-- nothing was read by these calls
abbrev pub ReadsNone : List Call → Type 0
ReadsNone [] = Unit {0}
ReadsNone (receives socket most until came answer ∷ earlier) = ⊥
ReadsNone (_ ∷ earlier) = ReadsNone earlier

-- how many members' sending sides were ended
abbrev pub one_if : Bool → ℕ
one_if true = 1
one_if false = 0

abbrev pub count_shut : {X : Type 0} {F : X → Type 0} → List (Member X F) → ℕ
count_shut [] = 0
count_shut (m ∷ members) = one_if m.connection.sender.shut + count_shut members
