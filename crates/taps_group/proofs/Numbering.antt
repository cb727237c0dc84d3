-- Each message that is still to be sent has a number below that of the accepted ones.
use Rattle.std.proofs.Common.{◌≡◌, ℕ, ◌+◌, ◌<◌, Bool, true, false, List, [], ◌∷◌, if◌then◌else◌, Option, Some, None, refl, sym, ◌∙◌, ap, subst, arith}
use Rattle.std.specs.List.{All}
use Rattle.std.proofs.lemmas.List.Elements.{All-tail, All-push, All-weaker, All-head}
use Rattle.taps_message.specs.declared.accepted.Accepted.{Accepted}
use Rattle.taps_message.specs.declared.message.Message.{Message}
use Rattle.taps_message.specs.Expiry.{has_expired}
use Rattle.taps_message.specs.Queues.{Queue, with_message}
use Rattle.taps_socket.specs.Calls.{Call}
use Rattle.taps_connection.specs.declared.sender.Begun.{Begun}
use Rattle.taps_connection.specs.declared.sender.Sender.{Sender}
use Rattle.taps_connection.specs.declared.sender.Pushed.{Pushed}
use Rattle.taps_connection.specs.declared.sender.Pushed.TheVariants as pushed
use Rattle.taps_connection.specs.Encodings.{Encoding}
use Rattle.taps_connection.specs.Senders.{expires, goes, begun_of, turn_if, turn_in, turn_by, turn_of, queued, behind_by, queue_behind, IsPushed}
use Rattle.taps_group.specs.Members.{HasNumbers}

abbrev Below : ℕ → Accepted → Type 0
Below n a = a.number < n

abbrev AllBelow : Queue → Type 0
AllBelow q = All (Below q.accepted) q.queued

below_tail : (n : ℕ) (b : Option Begun) (xs : List Accepted) → All (Below n) xs → All (Below n) (behind_by b xs)
below_tail n (Some b) xs h = h
below_tail n None [] h = h
below_tail n None (x ∷ xs) h = All-tail (Below n) x xs h

behind : (s t : Sender) → t.queue.queue ≡ queue_behind s → HasNumbers s → AllBelow t.queue.queue
behind s t e h = subst AllBelow (sym e) (below_tail s.queue.queue.accepted s.begun (queued s) h.queued_below)

pick : (b : Bool) (o : Option ℕ) (number : ℕ) (m n : Begun) → (if b then expires number else turn_if o number m) ≡ goes n → m ≡ n
pick true o number m n h = absurd (cc)
pick false (Some layer) number m n h = absurd (cc)
pick false None number m n h = cc

turn_below_in : (e : Encoding) (moment sent n : ℕ) (xs : List Accepted) (message : Begun) → All (Below n) xs → turn_in e moment sent xs ≡ goes message → message.number < n
turn_below_in e moment sent n [] message h t = absurd (cc)
turn_below_in e moment sent n (m ∷ xs) message h t =
    let same : m.number ≡ message.number = ap (λ (b : Begun). b.number) (pick (has_expired m moment) (e.refusal sent m.message.body) m.number (begun_of e sent m) message t) in
    let first : m.number < n = All-head (Below n) m xs h in
    omega arith

turn_below_by : (e : Encoding) (s : Sender) (b : Option Begun) (message : Begun) → s.begun ≡ b → HasNumbers s → turn_by e s b ≡ goes message → message.number < s.queue.queue.accepted
turn_below_by e s (Some b) message is h t = let same : b ≡ message = cc in h.begun_below message (is ∙ ap Some same)
turn_below_by e s None message is h t = turn_below_in e s.moment s.sent s.queue.queue.accepted (queued s) message h.queued_below t

turn_below : (e : Encoding) (s : Sender) (message : Begun) → HasNumbers s → turn_of e s ≡ goes message → message.number < s.queue.queue.accepted
turn_below e s message h t = turn_below_by e s s.begun message refl h t

-- what is kept has numbers and the count that there was
pub record KeepsNumbers (s t : Sender) : Type 0 where
  pub numbers : HasNumbers t
  pub count : t.queue.queue.accepted ≡ s.queue.queue.accepted

none_begun : (s t : Sender) → t.queue.queue ≡ queue_behind s → t.begun ≡ None → HasNumbers s → KeepsNumbers s t
none_begun s t e none h = record {
  numbers = record { queued_below = behind s t e h; begun_below = λ b is. absurd (cc) };
  count = ap (λ (q : Queue). q.accepted) e;
}

some_begun : (e : Encoding) (s t : Sender) (message now : Begun) → turn_of e s ≡ goes message → t.begun ≡ Some now → now.number ≡ message.number → t.queue.queue ≡ queue_behind s → HasNumbers s → KeepsNumbers s t
some_begun e s t message now turn is same q h =
    let below = turn_below e s message h turn in
    let count : t.queue.queue.accepted ≡ s.queue.queue.accepted = ap (λ (q : Queue). q.accepted) q in
    record {
      numbers = record {
        queued_below = behind s t q h;
        begun_below = λ b begun. (let one : b ≡ now = cc in let n : b.number ≡ now.number = ap (λ (v : Begun). v.number) one in omega arith);
      };
      count = count;
    }

pub same_queue : (s t : Sender) → t.queue.queue ≡ s.queue.queue → t.begun ≡ s.begun → HasNumbers s → KeepsNumbers s t
same_queue s t q begun h = record {
  numbers = record {
    queued_below = subst AllBelow (sym q) h.queued_below;
    begun_below = λ b is. subst (λ n. b.number < n) (sym (ap (λ (q : Queue). q.accepted) q)) (h.begun_below b (sym begun ∙ is));
  };
  count = ap (λ (q : Queue). q.accepted) q;
}

pub driven_numbers : (e : Encoding) (socket until : ℕ) (s : Sender) (answer : Pushed) (calls : List Call) (t : Sender) → IsPushed e socket until s answer calls t → HasNumbers s → KeepsNumbers s t
driven_numbers e socket until s (pushed.Sent number) calls t p h = none_begun s t p.1.queue (ap (λ (v : Sender). v.begun) p.1.kept) h
driven_numbers e socket until s pushed.Empty calls t p h = same_queue s t p.2.queue (ap (λ (v : Sender). v.begun) p.2.kept) h
driven_numbers e socket until s (pushed.Expired number) calls t p h = none_begun s t p.3.queue (ap (λ (v : Sender). v.begun) p.3.kept ∙ p.3.begun) h
driven_numbers e socket until s (pushed.Timed at) calls t p h = some_begun e s t p.1.message _ p.1.turn (ap (λ (v : Sender). v.begun) p.1.kept) refl p.1.queue h
driven_numbers e socket until s (pushed.Failed cause) calls t p h = some_begun e s t p.1.message _ p.1.turn (ap (λ (v : Sender). v.begun) p.1.kept) refl p.1.queue h
driven_numbers e socket until s (pushed.NotSpeakable number layer) calls t p h = none_begun s t p.3.queue (ap (λ (v : Sender). v.begun) p.3.kept ∙ p.3.begun) h
driven_numbers e socket until s pushed.NoMemory calls t p h = same_queue s t p.1.queue (ap (λ (v : Sender). v.begun) p.1.kept) h

-- a message was accepted: there is one more
pub record AddsNumber (s t : Sender) : Type 0 where
  pub numbers : HasNumbers t
  pub count : t.queue.queue.accepted ≡ s.queue.queue.accepted + 1

pub accepted_numbers : (s t : Sender) (m : Message) (at : ℕ) → t.queue.queue ≡ with_message m at s.queue.queue → t.begun ≡ s.begun → HasNumbers s → AddsNumber s t
accepted_numbers s t m at q begun h =
    let n = s.queue.queue.accepted in
    let more : All (Below (n + 1)) (queued s) = All-weaker (Below n) (Below (n + 1)) (λ a below. omega arith) (queued s) h.queued_below in
    let all : AllBelow (with_message m at s.queue.queue) = All-push (Below (n + 1)) (queued s) (record { number = n; at = at; message = m }) more (omega arith) in
    let count : t.queue.queue.accepted ≡ n + 1 = ap (λ (q : Queue). q.accepted) q in
    record {
      numbers = record {
        queued_below = subst AllBelow (sym q) all;
        begun_below = λ b is. (let below : b.number < n = h.begun_below b (sym begun ∙ is) in omega arith);
      };
      count = count;
    }
