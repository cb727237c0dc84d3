-- A member's turn, by what it leaves of a group that sends.
use Rattle.std.proofs.Common.{◌≡◌, ℕ, zero, suc, ◌+◌, ◌-◌, false, List, [], ◌∷◌, ◌++◌, length, slice_get, slice_set, Option, Some, None, refl, sym, ap, ◌∙◌, subst, arith}
use Rattle.std.specs.Prelude.{◌==◌, slice_index_or}
use Rattle.std.specs.Option.{option_map}
use Rattle.std.proofs.lemmas.Option.{slice_get-map}
use Rattle.taps_framer.specs.declared.framer.Framer as framer
use Rattle.taps_message.specs.declared.accepted.Accepted.{Accepted}
use Rattle.taps_message.specs.Queues.{Queue}
use Rattle.taps_socket.specs.declared.item.Item.{Item}
use Rattle.taps_socket.specs.Calls.{Call, sends, receives, shuts, closes, begins, starts, waits, listens, accepts, request_of}
use Rattle.taps_socket.specs.Once.{IsOnce}
use Rattle.taps_socket.specs.Shows.{IsLawful, AreLawful}
use Rattle.taps_socket.specs.declared.answers.SendAnswer.TheVariants as send
use Rattle.taps_connection.specs.declared.sender.Sender.{Sender}
use Rattle.taps_connection.specs.Encodings.{Encoding}
use Rattle.taps_connection.specs.Outboxes.{Stand, begun, ending, refused, all_out, Outbox, after_calls, asks_out}
use Rattle.taps_connection.specs.Runs.{AllAsked}
use Rattle.taps_connection.specs.Senders.{settled, queued, behind_by, tail_of, number_by, waiting_number}
use Rattle.taps_exchange.specs.Members.{calls_on, outbox_after}
use Rattle.taps_exchange.specs.Turns.{Place, stand_of, waiting_at, order_before}
use Rattle.taps_group.specs.Closes.{sockets_of}
use Rattle.taps_group.specs.declared.member.Member.{Member}
use Rattle.taps_group.specs.declared.member.Waiting.{Waiting}
use Rattle.taps_group.specs.Members.{IsSoundMember, standing_of, standings}
use Rattle.taps_group.specs.Orders.{orders_of, waiting_in, waiting_of, ComesFirst}
use Rattle.taps_group_exchange.specs.Standing.{IsStanding, AreStanding, IsAlike, ArePlaced, IsPlacedBefore, HasPlaces, ReadsNone, one_if, count_shut}
use Rattle.taps_group_exchange.specs.Turning.{TakesSome, AllTakeSome}
use Rattle.taps_group_exchange.proofs.Driving.{AllOn, other_calls}
use Rattle.taps_group_exchange.proofs.Nexts.{Leads}
use Rattle.taps_group_exchange.proofs.Waits.{leads, raw_placed}
use Rattle.taps_group_exchange.proofs.Zips.{place_there}

-- a lawful send takes some bytes
takes_by : (c : Call) (trace : List Item) (told : ℕ) → IsLawful c trace told → TakesSome c
takes_by (sends s b u (send.Sent count at)) trace told h = h.answered.0.some
takes_by (sends s b u (send.Timed at)) trace told h = tt
takes_by (sends s b u (send.Failed cause)) trace told h = tt
takes_by (receives s most u came a) trace told h = tt
takes_by (shuts s) trace told h = tt
takes_by (closes s) trace told h = tt
takes_by (begins at) trace told h = tt
takes_by (starts l g a) trace told h = tt
takes_by (waits u a) trace told h = tt
takes_by (listens g a) trace told h = tt
takes_by (accepts l u a) trace told h = tt

pub takes_some : (trace : List Item) (told : ℕ) (calls : List Call) → AreLawful trace told calls → AllTakeSome calls
takes_some trace told [] h = tt
takes_some trace told (c ∷ calls) h = (takes_by c _ _ h.0, takes_some trace told calls h.1)

-- nothing is read by calls of an outbox
reads_not : (socket until : ℕ) (stand : Stand) (c : Call) (calls : List Call) → asks_out socket until stand ≡ Some (request_of c) → ReadsNone calls → ReadsNone (c ∷ calls)
reads_not socket until stand (receives s most u came a) calls h r = by stand h
  where
    by : (st : Stand) → asks_out socket until st ≡ Some (request_of (receives s most u came a)) → ⊥
    by (begun number ends rest behind) e = cc
    by (ending behind) e = cc
    by (refused number layer behind) e = cc
    by all_out e = cc
reads_not socket until stand (sends s b u a) calls h r = r
reads_not socket until stand (shuts s) calls h r = r
reads_not socket until stand (closes s) calls h r = r
reads_not socket until stand (begins at) calls h r = r
reads_not socket until stand (starts l g a) calls h r = r
reads_not socket until stand (waits u a) calls h r = r
reads_not socket until stand (listens g a) calls h r = r
reads_not socket until stand (accepts l u a) calls h r = r

pub reads_behind : (e : Encoding) (socket until : ℕ) (box : Outbox) (more calls : List Call) → AllAsked e socket until box more → ReadsNone calls → ReadsNone (more ++ calls)
reads_behind e socket until box [] calls a r = r
reads_behind e socket until box (c ∷ more) calls a r = reads_not socket until (after_calls e box more).stand c (more ++ calls) a.0 (reads_behind e socket until box more calls a.1 r)

-- the member that is named next
pub record Next {X : Type 0} {F : X → Type 0} (boxed : (x : X) → framer.Ghosts (F x)) (calls : List Call) (places : List Place) (k : ℕ) (m : Member X F) : Type 0 where
  pub p : Place
  pub there : slice_get places k ≡ Some p
  pub stands : IsStanding boxed calls p m
  pub leading : Leads calls (waiting_at p k (stand_of calls p) (tail_of (queued m.connection.sender))) 0 k places
  pub waits : (n : ℕ) × (waiting_number m.connection.sender ≡ Some n)

record IsRaw (orders : List ℕ) (place priority : ℕ) (o : Option ℕ) (raw : Waiting) : Type 0 where
  pub n : ℕ
  pub waits : o ≡ Some n
  pub is : raw ≡ record { place = place; priority = priority; order = slice_index_or orders n 0 }

raw_is : (orders : List ℕ) (place priority : ℕ) (o : Option ℕ) (raw : Waiting) → waiting_in orders place priority o ≡ Some raw → IsRaw orders place priority o raw
raw_is orders place priority None raw h = absurd (cc)
raw_is orders place priority (Some n) raw h =
    let made : Waiting = record { place = place; priority = priority; order = slice_index_or orders n 0 } in
    let same : made ≡ raw = cc in
    record { n = n; waits = refl; is = sym same }

same_some : {A : Type 0} (x y : A) (o : Option A) → o ≡ Some x → o ≡ Some y → x ≡ y
same_some x y o p q = cc

pub next_of : {X : Type 0} {F : X → Type 0} (boxed : (x : X) → framer.Ghosts (F x)) (calls : List Call) (places : List Place) (members : List (Member X F)) (order : List ℕ) (k : ℕ) (m : Member X F) →
    slice_get members k ≡ Some m → IsOnce (sockets_of members) → ((i : ℕ) (x : Member X F) → slice_get members i ≡ Some x → IsSoundMember boxed order i x) → ComesFirst order (standings members) k → AreStanding boxed calls places members → Next boxed calls places k m
next_of boxed calls places members order k m at once sound named standing =
    let found = place_there (IsStanding boxed calls) k m places members at standing in
    let p = found.0 in
    let st = found.1.1 in
    let own = sound k m at in
    let s = m.connection.sender in
    let there : slice_get (standings members) k ≡ Some (standing_of m) = slice_get-map standing_of members k ∙ ap (option_map standing_of) at in
    let is : named.standing ≡ standing_of m = same_some named.standing (standing_of m) (slice_get (standings members) k) named.at there in
    let raw = named.waiting in
    let r = raw_is (orders_of k order) k m.priority (waiting_number s) raw (subst (λ v. waiting_of order k v ≡ Some raw) is named.waits) in
    let accepted = s.queue.queue.accepted in
    let tail : number_by s.begun (queued s) ≡ Some r.n = r.waits in
    let behind : behind_by s.begun (queued s) ≡ tail_of (queued s) = ap (λ o. behind_by o (queued s)) st.none_begun in
    let placed = raw_placed accepted s.begun (queued s) r.n st.placed.queued_placed st.placed.begun_placed tail in
    let long : length (behind_by s.begun (queued s)) ≡ length (tail_of (queued s)) = ap (λ (l : List Accepted). length l) behind in
    let count = st.counted in
    let index : length p.member.messages - length (tail_of (queued s)) - 1 ≡ r.n = omega (arith, placed, long, count) in
    let orders : p.orders ≡ orders_of k order = sym st.orders ∙ own.orders in
    let size : length (orders_of k order) ≡ accepted = ap length (sym own.orders) ∙ own.counted in
    let raw_order : raw.order ≡ slice_index_or (orders_of k order) r.n 0 = ap (λ (v : Waiting). v.order) r.is in
    let ordered : order_before p (tail_of (queued s)) ≡ raw.order = ap (λ (l : List ℕ). slice_index_or l (length p.member.messages - length (tail_of (queued s)) - 1) 0) orders ∙ (ap (λ (i : ℕ). slice_index_or (orders_of k order) i 0) index ∙ sym raw_order) in
    record {
      p = p;
      there = found.1.0;
      stands = st;
      waits = (r.n, r.waits);
      leading = leads boxed calls order (waiting_at p k (stand_of calls p) (tail_of (queued s))) raw k r.n (sym st.priority ∙ sym (ap (λ (v : Waiting). v.priority) r.is)) ordered (omega (arith, placed, size)) raw_order
          0 k m places members (omega arith) refl at found.1.0 (sym st.socket) once standing
          (λ i x there. subst (λ v. IsSoundMember boxed order v x) (let e : i ≡ 0 + i = omega arith in e) (sound i x there))
          (λ i x v there h. named.first i (standing_of x) v (slice_get-map standing_of members i ∙ ap (option_map standing_of) there) (subst (λ u. waiting_of order u (standing_of x) ≡ Some v) (let e : 0 + i ≡ i = omega arith in e) h));
    }

-- how many sending sides are ended
pub count_set : {X : Type 0} {F : X → Type 0} (members : List (Member X F)) (k : ℕ) (m n : Member X F) → slice_get members k ≡ Some m → count_shut (slice_set members k n) + one_if m.connection.sender.shut ≡ count_shut members + one_if n.connection.sender.shut
count_set [] k m n at = absurd (cc)
count_set (x ∷ members) zero m n at =
    let same : one_if x.connection.sender.shut ≡ one_if m.connection.sender.shut = ap (λ (v : Member _ _). one_if v.connection.sender.shut) (let e : x ≡ m = cc in e) in
    omega (arith, same)
count_set (x ∷ members) (suc k) m n at = (let r = count_set members k m n at in omega (arith, r))

-- what stays of a member whose sending went on
pub stands_on : {X : Type 0} {F : X → Type 0} (boxed : (x : X) → framer.Ghosts (F x)) (calls later : List Call) (p : Place) (m n : Member X F) → n ≡ record m { connection = record m.connection { sender = n.connection.sender } } →
    IsAlike (outbox_after p.member (calls_on p.member.socket later)) (settled p.member.encoding n.connection.sender) → HasPlaces n.connection.sender → n.connection.sender.begun ≡ None → n.connection.sender.queue.queue.accepted ≡ m.connection.sender.queue.queue.accepted → IsStanding boxed calls p m → IsStanding boxed later p n
stands_on {X} {F} boxed calls later p m n kept box placed none accepted st =
    let t = n.connection.sender in
    let v : Member X F = record m { connection = record m.connection { sender = t } } in
    let there : IsStanding boxed later p v = record {
      socket = st.socket;
      encoding = st.encoding;
      decoding = st.decoding;
      priority = st.priority;
      orders = st.orders;
      counted = st.counted ∙ sym accepted;
      box = box;
      placed = placed;
      none_begun = none;
      unread = st.unread;
    } in
    subst (IsStanding boxed later p) (sym kept) there

-- what calls on another member's socket leave
pub stands_by : {X : Type 0} {F : X → Type 0} (boxed : (x : X) → framer.Ghosts (F x)) (s : ℕ) (calls more : List Call) (p : Place) (x : Member X F) → (s == x.connection.socket) ≡ false → AllOn s more → IsStanding boxed calls p x → IsStanding boxed (more ++ calls) p x
stands_by boxed s calls more p x other own st = record {
  socket = st.socket;
  encoding = st.encoding;
  decoding = st.decoding;
  priority = st.priority;
  orders = st.orders;
  counted = st.counted;
  box = subst (λ v. IsAlike (outbox_after p.member v) (settled p.member.encoding x.connection.sender)) (sym (other_calls s p.member.socket more calls (ap (λ (v : ℕ). s == v) (sym st.socket) ∙ other) own)) st.box;
  placed = st.placed;
  none_begun = st.none_begun;
  unread = st.unread;
}

-- the tail of messages is placed as they are
tail_placed : (accepted : ℕ) (xs : List Accepted) → ArePlaced accepted xs → ArePlaced accepted (tail_of xs)
tail_placed accepted [] h = h
tail_placed accepted (m ∷ xs) h = h.1

pub tail_places : (s t : Sender) → s.begun ≡ None → t.begun ≡ None → t.queue.queue ≡ record s.queue.queue { queued = behind_by s.begun (queued s) } → HasPlaces s → HasPlaces t
tail_places s t none now q h =
    let tail : queued t ≡ tail_of (queued s) = ap (λ (v : Queue). v.queued) q ∙ ap (λ o. behind_by o (queued s)) none in
    let count : t.queue.queue.accepted ≡ s.queue.queue.accepted = ap (λ (v : Queue). v.accepted) q in
    record {
      queued_placed = subst (λ a. ArePlaced a (queued t)) (sym count) (subst (ArePlaced s.queue.queue.accepted) (sym tail) (tail_placed s.queue.queue.accepted (queued s) h.queued_placed));
      begun_placed = subst (λ o. IsPlacedBefore t.queue.queue.accepted o (queued t)) (sym now) tt;
    }
