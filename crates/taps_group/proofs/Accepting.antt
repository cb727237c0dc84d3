-- A member that accepts a message, or refuses it, is sound.
use Rattle.std.proofs.Common.{◌≡◌, ◌⊎◌, inl, inr, ℕ, ◌+◌, ◌<◌, List, [], ◌∷◌, ◌++◌, length, slice_get, slice_set, Some, Ok, Err, refl, sym, ◌∙◌, ap, subst, arith, length-append}
use Rattle.taps_framer.specs.declared.framer.Framer as framer
use Rattle.taps_chain.specs.Layers.{layers_of}
use Rattle.taps_message.specs.declared.message.Message.{Message}
use Rattle.taps_message.specs.declared.queued.PushError.{PushError}
use Rattle.taps_message.specs.Queues.{SendQueueState}
use Rattle.taps_stack.specs.StackTable.{is_stream}
use Rattle.taps_connection.specs.declared.connection.Connection.{Connection}
use Rattle.taps_connection.specs.declared.sender.Sender.{Sender}
use Rattle.taps_connection.specs.declared.state.Established as state
use Rattle.taps_connection.specs.Inboxes.{IsSoundReceiver}
use Rattle.taps_connection.specs.Sound.{IsSound}
use Rattle.taps_group.specs.declared.group.Group.{Group}
use Rattle.taps_group.specs.declared.member.Member.{Member}
use Rattle.taps_group.specs.Accepting.{IsSameMember, Accepts, HasNoRoom, HasAccepted}
use Rattle.taps_group.specs.Groups.{IsSoundGroup}
use Rattle.taps_group.specs.Members.{HasNumbers, IsSoundMember}
use Rattle.taps_group.specs.Places.{Changes}
use Rattle.taps_group.proofs.Numbering.{accepted_numbers, same_queue}
use Rattle.taps_group.proofs.Places.{some_at, set_same}
use Rattle.taps_group.proofs.Soundness.{noted_orders, sound_changed, sound_noted}

accepted_member : {X : Type 0} {F : X → Type 0} (boxed : (x : X) → framer.Ghosts (F x)) (order : List ℕ) (place : ℕ) (message : Message) (at : ℕ) (done : Unit {0}) (m n : Member X F) →
    Accepts message at (Ok done) m n → n.orders.items ≡ m.orders.items ++ length order ∷ [] → IsSound (is_stream m.connection.stack) (layers_of boxed m.connection.chain) n.connection.sender → IsSoundMember boxed order place m → IsSoundMember boxed (order ++ place ∷ []) place n
accepted_member boxed order place message at done m n a noted sound h =
    let numbers = accepted_numbers m.connection.sender n.connection.sender message at (ap (λ (q : SendQueueState). q.queue) a.pushed.1) (ap (λ (s : Sender). s.begun) a.sender) h.numbers in
    let count = numbers.count in
    let size : length n.orders.items ≡ length m.orders.items + 1 = ap length noted ∙ length-append m.orders.items (length order ∷ []) in
    let was = h.counted in
    record {
      sending = subst (λ (k : Connection state.Established _ _). IsSound (is_stream k.stack) (layers_of boxed k.chain) k.sender) (sym a.kept) sound;
      receiving = subst (λ (k : Connection state.Established _ _). IsSoundReceiver boxed k.stack (layers_of boxed k.chain) k.receiver) (sym a.kept) h.receiving;
      numbers = numbers.numbers;
      orders = noted ∙ noted_orders order m.orders.items place h.orders;
      counted = omega arith;
    }

refused_member : {X : Type 0} {F : X → Type 0} (boxed : (x : X) → framer.Ghosts (F x)) (order : List ℕ) (place : ℕ) (message : Message) (at : ℕ) (refused : PushError × Message) (m n : Member X F) →
    Accepts message at (Err refused) m n → n.orders.items ≡ m.orders.items → IsSound (is_stream m.connection.stack) (layers_of boxed m.connection.chain) n.connection.sender → IsSoundMember boxed order place m → IsSoundMember boxed order place n
refused_member boxed order place message at refused m n a noted sound h =
    let numbers = same_queue m.connection.sender n.connection.sender (ap (λ (q : SendQueueState). q.queue) a.pushed.2) (ap (λ (s : Sender). s.begun) a.sender) h.numbers in
    record {
      sending = subst (λ (k : Connection state.Established _ _). IsSound (is_stream k.stack) (layers_of boxed k.chain) k.sender) (sym a.kept) sound;
      receiving = subst (λ (k : Connection state.Established _ _). IsSoundReceiver boxed k.stack (layers_of boxed k.chain) k.receiver) (sym a.kept) h.receiving;
      numbers = numbers.numbers;
      orders = noted ∙ h.orders;
      counted = ap length noted ∙ (h.counted ∙ sym numbers.count);
    }

same_member : {X : Type 0} {F : X → Type 0} (boxed : (x : X) → framer.Ghosts (F x)) (order : List ℕ) (place : ℕ) (m n : Member X F) → IsSameMember m n → IsSoundMember boxed order place m → IsSoundMember boxed order place n
same_member boxed order place m n s h =
    let connection = ap (λ (v : Member _ _). v.connection) s.kept in
    record {
      sending = subst (λ (k : Connection state.Established _ _). IsSound (is_stream k.stack) (layers_of boxed k.chain) k.sender) (sym connection) h.sending;
      receiving = subst (λ (k : Connection state.Established _ _). IsSoundReceiver boxed k.stack (layers_of boxed k.chain) k.receiver) (sym connection) h.receiving;
      numbers = subst (λ (k : Connection state.Established _ _). HasNumbers k.sender) (sym connection) h.numbers;
      orders = s.orders ∙ h.orders;
      counted = ap length s.orders ∙ (h.counted ∙ ap (λ (k : Connection state.Established _ _). k.sender.queue.queue.accepted) (sym connection));
    }

pub accepted_group : {X : Type 0} {F : X → Type 0} (boxed : (x : X) → framer.Ghosts (F x)) (g h : Group X F) (place order : ℕ) (message : Message) (at : ℕ) (done : Unit {0}) (m n : Member X F) →
    slice_get g.members.items place ≡ Some m → h.members.items ≡ slice_set g.members.items place n → h.order.items ≡ g.order.items ++ place ∷ [] → h.piece ≡ g.piece → order ≡ length g.order.items → HasAccepted order message at m (Ok done) n → IsSound (is_stream m.connection.stack) (layers_of boxed m.connection.chain) n.connection.sender → IsSoundGroup boxed g → IsSoundGroup boxed h
accepted_group boxed g h place order message at done m n there changed list piece is a sound s =
    sound_noted boxed g h place m n there changed list piece (λ one. accepted_member boxed g.order.items place message at done m n a.0 (a.1 ∙ ap (λ v. m.orders.items ++ v ∷ []) is) sound one) s

refused_either : {X : Type 0} {F : X → Type 0} (boxed : (x : X) → framer.Ghosts (F x)) (list : List ℕ) (place order : ℕ) (message : Message) (at : ℕ) (refused : PushError × Message) (m n : Member X F) →
    HasAccepted order message at m (Err refused) n → IsSound (is_stream m.connection.stack) (layers_of boxed m.connection.chain) n.connection.sender → IsSoundMember boxed list place m → IsSoundMember boxed list place n
refused_either boxed list place order message at refused m n (inl none) sound h = same_member boxed list place m n none.1 h
refused_either boxed list place order message at refused m n (inr a) sound h = refused_member boxed list place message at refused m n a.0 a.1 sound h

pub refused_group : {X : Type 0} {F : X → Type 0} (boxed : (x : X) → framer.Ghosts (F x)) (g h : Group X F) (place order : ℕ) (message : Message) (at : ℕ) (refused : PushError × Message) (m n : Member X F) →
    slice_get g.members.items place ≡ Some m → h.members.items ≡ slice_set g.members.items place n → h.order.items ≡ g.order.items → h.piece ≡ g.piece → HasAccepted order message at m (Err refused) n → IsSound (is_stream m.connection.stack) (layers_of boxed m.connection.chain) n.connection.sender → IsSoundGroup boxed g → IsSoundGroup boxed h
refused_group boxed g h place order message at refused m n there changed list piece a sound s =
    sound_changed boxed g h place m n there changed list piece (λ one. refused_either boxed g.order.items place order message at refused m n a sound one) s

-- which of the two refusals it was
pub refused_by : {X : Type 0} {F : X → Type 0} (members members' : List (Member X F)) (place order : ℕ) (message : Message) (at : ℕ) (refused : PushError × Message) (m n : Member X F) →
    slice_get members place ≡ Some m → members' ≡ slice_set members place n → HasAccepted order message at m (Err refused) n →
    (HasNoRoom message refused × Changes IsSameMember place members members') ⊎ Changes (Accepts message at (Err refused)) place members members'
refused_by members members' place order message at refused m n there changed (inl none) = inl (none.0, record { was = m; becomes = n; at = there; changed = changed; by = none.1 })
refused_by members members' place order message at refused m n there changed (inr a) = inr (record { was = m; becomes = n; at = there; changed = changed; by = a.0 })

-- no member changed
pub none_changed : {X : Type 0} {F : X → Type 0} (members : List (Member X F)) (place : ℕ) → place < length members → Changes IsSameMember place members members
none_changed members place within =
    let (m, there) = some_at members place within in
    record { was = m; becomes = m; at = there; changed = sym (set_same members place m there); by = record { orders = refl; kept = refl } }
