-- A member whose connection sends and receives on soundly is sound.
use Rattle.std.proofs.Common.{◌≡◌, ℕ, ◌<◌, Bool, List, [], ◌∷◌, Option, Some, None, refl, sym, ◌∙◌, ap, subst, arith}
use Rattle.std.proofs.lemmas.List.Elements.{All-head}
use Rattle.std.specs.List.{All}
use Rattle.taps_framer.specs.Layers.{Layer}
use Rattle.taps_framer.specs.declared.framer.Framer as framer
use Rattle.taps_chain.specs.Layers.{layers_of}
use Rattle.taps_message.specs.declared.accepted.Accepted.{Accepted}
use Rattle.taps_stack.specs.StackTable.{is_stream}
use Rattle.taps_connection.specs.declared.connection.Connection.{Connection}
use Rattle.taps_connection.specs.declared.state.Established as state
use Rattle.taps_connection.specs.declared.receiver.Receiver.{Receiver}
use Rattle.taps_connection.specs.declared.sender.Begun.{Begun}
use Rattle.taps_connection.specs.declared.sender.Sender.{Sender}
use Rattle.taps_connection.specs.Inboxes.{IsSoundReceiver}
use Rattle.taps_connection.specs.Senders.{queued, number_by}
use Rattle.taps_connection.specs.Sound.{IsSound}
use Rattle.taps_group.specs.declared.member.Member.{Member}
use Rattle.taps_group.specs.Firsts.{IsNumbered}
use Rattle.taps_group.specs.Members.{HasNumbers, IsSoundMember}
use Rattle.taps_group.proofs.Numbering.{KeepsNumbers, same_queue}

resound : {X : Type 0} {F : X → Type 0} (boxed : (x : X) → framer.Ghosts (F x)) (order : List ℕ) (place : ℕ) (m : Member X F) (s : Sender) (r : Receiver X F) →
    IsSoundMember boxed order place m → IsSound (is_stream m.connection.stack) (layers_of boxed m.connection.chain) s → IsSoundReceiver boxed m.connection.stack (layers_of boxed m.connection.chain) r → KeepsNumbers m.connection.sender s →
    IsSoundMember boxed order place (record m { connection = record m.connection { sender = s; receiver = r } })
resound boxed order place m s r h sending receiving keeps = record {
  sending = sending;
  receiving = receiving;
  numbers = keeps.numbers;
  orders = h.orders;
  counted = h.counted ∙ sym keeps.count;
}

pub resound_by : {X : Type 0} {F : X → Type 0} (boxed : (x : X) → framer.Ghosts (F x)) (order : List ℕ) (place : ℕ) (m : Member X F) (k : Connection state.Established X F) (s : Sender) (r : Receiver X F) →
    k ≡ record m.connection { sender = s; receiver = r } → IsSound (is_stream m.connection.stack) (layers_of boxed m.connection.chain) s → IsSoundReceiver boxed m.connection.stack (layers_of boxed m.connection.chain) r → KeepsNumbers m.connection.sender s → IsSoundMember boxed order place m →
    IsSoundMember boxed order place (record m { connection = k })
resound_by boxed order place m k s r kept sending receiving keeps h =
    subst (λ v. IsSoundMember boxed order place (record m { connection = v })) (sym kept) (resound boxed order place m s r h sending receiving keeps)

-- another moment is all that changed
moved : (stream : Bool) (fs : List Layer) (s : Sender) (moment : ℕ) → IsSound stream fs s → IsSound stream fs (record s { moment = moment })
moved stream fs s moment h = record {
  few = h.few;
  bounded = h.bounded;
  short = h.short;
  final_last = h.final_last;
  ready = h.ready;
  left = h.left;
  ending = h.ending;
  still_open = h.still_open;
  over = h.over;
}

pub moved_sound : (stream : Bool) (fs : List Layer) (s t : Sender) → t ≡ record s { moment = t.moment } → IsSound stream fs s → IsSound stream fs t
moved_sound stream fs s t is h = subst (IsSound stream fs) (sym is) (moved stream fs s t.moment h)

pub moved_numbers : (s t : Sender) → t ≡ record s { moment = t.moment } → HasNumbers s → KeepsNumbers s t
moved_numbers s t is h = same_queue s t (ap (λ (v : Sender). v.queue.queue) is) (ap (λ (v : Sender). v.begun) is) h

pub same_numbers : (s : Sender) → HasNumbers s → KeepsNumbers s s
same_numbers s h = record { numbers = h; count = refl }

-- the number of the message that is next is below that of the accepted ones
below_by : (b : Option Begun) (xs : List Accepted) (accepted n : ℕ) → ((m : Begun) → b ≡ Some m → m.number < accepted) → All (λ (a : Accepted). a.number < accepted) xs → number_by b xs ≡ Some n → n < accepted
below_by (Some m) xs accepted n begun all is = let e : m.number ≡ n = cc in let below : m.number < accepted = begun m refl in omega arith
below_by None [] accepted n begun all is = absurd (cc)
below_by None (x ∷ xs) accepted n begun all is = let e : x.number ≡ n = cc in let below : x.number < accepted = All-head (λ (a : Accepted). a.number < accepted) x xs all in omega arith

pub numbered : {X : Type 0} {F : X → Type 0} (boxed : (x : X) → framer.Ghosts (F x)) (order : List ℕ) (place : ℕ) (m : Member X F) → IsSoundMember boxed order place m → IsNumbered m
numbered boxed order place m h = record {
  within = λ n is. (
      let below : n < m.connection.sender.queue.queue.accepted = below_by m.connection.sender.begun (queued m.connection.sender) m.connection.sender.queue.queue.accepted n h.numbers.begun_below h.numbers.queued_below is in
      let count = h.counted in
      omega arith);
}

-- another priority is all that changed
pub prioritised : {X : Type 0} {F : X → Type 0} (boxed : (x : X) → framer.Ghosts (F x)) (order : List ℕ) (place : ℕ) (m : Member X F) (priority : ℕ) → IsSoundMember boxed order place m → IsSoundMember boxed order place (record m { priority = priority })
prioritised boxed order place m priority h = record {
  sending = h.sending;
  receiving = h.receiving;
  numbers = h.numbers;
  orders = h.orders;
  counted = h.counted;
}
