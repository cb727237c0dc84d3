-- The member that the group names next leads, by what its sockets were asked so far.
use Rattle.std.proofs.Common.{◌≡◌, ◌⊎◌, inl, inr, ℕ, zero, suc, ◌+◌, ◌-◌, ◌<◌, ◌≤◌, Bool, true, false, ◌||◌, ◌&&◌, if◌then◌else◌, List, [], ◌∷◌, map, length, slice_get, Option, Some, None, refl, sym, ap, ◌∙◌, subst, arith, drop}
use Rattle.std.specs.Prelude.{◌==◌, nat_lt, slice_index_or}
use Rattle.std.proofs.lemmas.Bool.Decides.{nat_tests}
use Rattle.std.proofs.lemmas.Option.{slice_get-get_or}
use Rattle.taps_framer.specs.declared.framer.Framer as framer
use Rattle.taps_message.specs.declared.accepted.Accepted.{Accepted}
use Rattle.taps_message.specs.Expiry.{has_expired}
use Rattle.taps_socket.specs.Calls.{Call}
use Rattle.taps_socket.specs.Once.{IsOnce}
use Rattle.taps_socket.specs.RaceSockets.{has}
use Rattle.taps_connection.specs.declared.sender.Begun.{Begun}
use Rattle.taps_connection.specs.declared.sender.Sender.{Sender}
use Rattle.taps_connection.specs.Encodings.{Encoding}
use Rattle.taps_connection.specs.Outboxes.{Stand, begun, ending, refused, all_out, Outbox, or_else, take_turn, turn_by, with_rest}
use Rattle.taps_connection.specs.Senders.{settled, settled_by, idle, queued, behind_by, tail_of, number_by, waiting_number}
use Rattle.taps_exchange.specs.Turns.{Place, stand_of, waiting_by, waiting_at, order_before}
use Rattle.taps_exchange.specs.Turns as turns
use Rattle.taps_group.specs.declared.member.Member.{Member}
use Rattle.taps_group.specs.declared.member.Waiting.{Waiting}
use Rattle.taps_group.specs.Members.{IsSoundMember, standing_of}
use Rattle.taps_group.specs.Orders.{is_before, orders_of, waiting_in, waiting_of}
use Rattle.taps_group_exchange.specs.Standing.{IsStanding, EachAt, IsAlike, ArePlaced, IsPlacedBefore}
use Rattle.taps_group_exchange.proofs.Nexts.{IsAfter, Yields, AllYield, Leads}
use Rattle.taps_group_exchange.proofs.OrderPlaces.{apart, rise}
use Rattle.taps_group_exchange.proofs.Zips.{neither, not_here, other_way}

pub alike_stand : (a b : Outbox) → IsAlike a b → a.stand ≡ b.stand
alike_stand a b (inl e) = ap (λ (v : Outbox). v.stand) e
alike_stand a b (inr h) = h.one ∙ sym h.other

-- the message whose turn it is has at most so many behind it
abbrev HasTail : ℕ → Stand → Type 0
HasTail n (begun number ends rest behind) = length behind ≤ n
HasTail n (ending behind) = length behind ≤ n
HasTail n (refused number layer behind) = length behind ≤ n
HasTail n all_out = Unit {0}

tail_more : (n k : ℕ) (stand : Stand) → n ≤ k → HasTail n stand → HasTail k stand
tail_more n k (begun number ends rest behind) le h = omega arith
tail_more n k (ending behind) le h = omega arith
tail_more n k (refused number layer behind) le h = omega arith
tail_more n k all_out le h = tt

tail_with : (next box : Outbox) (number : ℕ) (ends : Bool) (bytes : List ℕ) (behind : List Accepted) → HasTail (length behind) next.stand → HasTail (length behind) (with_rest next box number ends bytes behind).stand
tail_with next box number true [] behind h = omega arith
tail_with next box number false [] behind h = h
tail_with next box number ends (b ∷ rest) behind h = omega arith

tail_by : (o : Option ℕ) (box : Outbox) (number : ℕ) (behind : List Accepted) (opened : Outbox) → HasTail (length behind) opened.stand → HasTail (length behind) (turn_by o box number behind opened).stand
tail_by (Some layer) box number behind opened h = omega arith
tail_by None box number behind opened h = h

tail_if : (q : Bool) (n : ℕ) (a b : Outbox) → HasTail n a.stand → HasTail n b.stand → HasTail n (if q then a else b).stand
tail_if true n a b h k = h
tail_if false n a b h k = k

abbrev none_begun : ℕ → Option ℕ → ℕ → Outbox
none_begun n x at = record { stand = all_out; sent = n; expired = x; moment = at }

fewer : (l : List Accepted) → length (tail_of l) ≤ length l
fewer [] = omega arith
fewer (y ∷ l) = omega arith

tail_turn : (e : Encoding) (at n : ℕ) (x : Option ℕ) (xs : List Accepted) → HasTail (length (tail_of xs)) (take_turn e at n x xs).stand
tail_turn e at n x [] = tt
tail_turn e at n x (m ∷ xs) =
    let shorter = fewer xs in
    let opened = with_rest (take_turn e at (n + 1) x xs) (none_begun n x at) m.number (e.ends m.message.props.is_final) (e.bytes n m.message.body) xs in
    tail_if (has_expired m at) (length xs) (take_turn e at n (Some (or_else x m.number)) xs) (turn_by (e.refusal n m.message.body) (none_begun n x at) m.number xs opened)
    (tail_more (length (tail_of xs)) (length xs) _ shorter (tail_turn e at n (Some (or_else x m.number)) xs))
    (tail_by (e.refusal n m.message.body) (none_begun n x at) m.number xs opened
    (tail_with (take_turn e at (n + 1) x xs) (none_begun n x at) m.number (e.ends m.message.props.is_final) (e.bytes n m.message.body) xs (tail_more (length (tail_of xs)) (length xs) _ shorter (tail_turn e at (n + 1) x xs))))

tail_settled : (e : Encoding) (s : Sender) (o : Option Begun) → HasTail (length (behind_by o (queued s))) (settled_by e s o).stand
tail_settled e s None = tail_turn e s.moment s.sent s.expired (queued s)
tail_settled e s (Some b) =
    tail_with (take_turn e s.moment (s.sent + 1) s.expired (queued s)) (record (idle s) { moment = s.moment }) b.number b.ends (drop b.taken b.bytes) (queued s) (tail_more (length (tail_of (queued s))) (length (queued s)) _ (fewer (queued s)) (tail_turn e s.moment (s.sent + 1) s.expired (queued s)))

-- the number that waits, by how many messages are behind it
pub raw_placed : (accepted : ℕ) (o : Option Begun) (xs : List Accepted) (n : ℕ) → ArePlaced accepted xs → IsPlacedBefore accepted o xs → number_by o xs ≡ Some n → n + (1 + length (behind_by o xs)) ≡ accepted
raw_placed accepted (Some b) xs n placed before is = (let same : b.number ≡ n = cc in omega (arith, before, same))
raw_placed accepted None [] n placed before is = absurd (let none : Option ℕ = None in let z : none ≡ Some n = is in cc)
raw_placed accepted None (m ∷ xs) n placed before is = (let same : m.number ≡ n = cc in let p = placed.0 in omega (arith, p, same))

-- with none that waits all are out
pub none_out : (e : Encoding) (s : Sender) (o : Option Begun) (xs : List Accepted) → queued s ≡ xs → number_by o xs ≡ None → (settled_by e s o).stand ≡ all_out
none_out e s (Some b) xs q is = absurd (cc)
none_out e s None [] q is = ap (λ (l : List Accepted). (take_turn e s.moment s.sent s.expired l).stand) q
none_out e s None (m ∷ xs) q is = absurd (cc)

pub alike_expired : (a b : Outbox) → IsAlike a b → a.expired ≡ b.expired
alike_expired a b (inl e) = ap (λ (v : Outbox). v.expired) e
alike_expired a b (inr h) = h.expired

pub none_expired : (e : Encoding) (s : Sender) (o : Option Begun) (xs : List Accepted) → queued s ≡ xs → number_by o xs ≡ None → (settled_by e s o).expired ≡ s.expired
none_expired e s (Some b) xs q is = absurd (cc)
none_expired e s None [] q is = ap (λ (l : List Accepted). (take_turn e s.moment s.sent s.expired l).expired) q
none_expired e s None (m ∷ xs) q is = absurd (cc)

split : (x z : ℕ) → x ≤ z → (x < z) ⊎ (x ≡ z)
split x z h = grind arith

strict : (x z y : ℕ) → x ≤ z → (z ≡ x → ⊥) → z ≤ y → x < y
strict x z y ge ne le = by (split x z ge)
  where
    by : (x < z) ⊎ (x ≡ z) → x < y
    by (inl l) = omega arith
    by (inr e) = absurd (ne (sym e))

later_by : (a b x y z : ℕ) → (nat_lt b a || ((b == a) && nat_lt z x)) ≡ false → x < y → (nat_lt a b || ((a == b) && nat_lt x y)) ≡ true
later_by a b x y z h l = grind (arith, nat_tests)

sooner_by : (a b x y z : ℕ) → (nat_lt b a || ((b == a) && nat_lt z x)) ≡ false → z < x → (nat_lt a b || ((a == b) && nat_lt x y)) ≡ true
sooner_by a b x y z h l = grind (arith, nat_tests)

below : (x z : ℕ) → (z < x) ⊎ (x ≤ z)
below x z = grind arith

after_by : (a b x y z : ℕ) → (nat_lt b a || ((b == a) && nat_lt z x)) ≡ false → (z ≡ x → ⊥) → z ≤ y → (nat_lt a b || ((a == b) && nat_lt x y)) ≡ true
after_by a b x y z h apart le = by (below x z)
  where
    by : (z < x) ⊎ (x ≤ z) → (nat_lt a b || ((a == b) && nat_lt x y)) ≡ true
    by (inl l) = sooner_by a b x y z h l
    by (inr ge) = later_by a b x y z h (strict x z y ge apart le)

same_some : {A : Type 0} (x y : A) → Some x ≡ Some y → x ≡ y
same_some x y e = cc

read_at : (xs : List ℕ) (i : ℕ) → i < length xs → slice_get xs i ≡ Some (slice_index_or xs i 0)
read_at xs i h = slice_get-get_or xs i 0 h

-- of one member, a message with fewer behind it has the greater order
not_before : (order : List ℕ) (j n m : ℕ) → n ≤ m → m < length (orders_of j order) → slice_index_or (orders_of j order) n 0 ≤ slice_index_or (orders_of j order) m 0
not_before order j n m le within = by (split n m le)
  where
    by : (n < m) ⊎ (n ≡ m) → slice_index_or (orders_of j order) n 0 ≤ slice_index_or (orders_of j order) m 0
    by (inl l) = (let r = rise order j n m (slice_index_or (orders_of j order) n 0) (slice_index_or (orders_of j order) m 0) l (read_at (orders_of j order) n (omega (arith, l, within))) (read_at (orders_of j order) m within) in omega (arith, r))
    by (inr e) = (let same = ap (λ (v : ℕ). slice_index_or (orders_of j order) v 0) e in omega (arith, same))

-- what the group's order names of the message before so many
module _ {X : Type 0} {F : X → Type 0} (boxed : (x : X) → framer.Ghosts (F x)) (calls : List Call) (order : List ℕ) where
  -- of two members, one comes first: then the other comes after it, by how its sending stands
  module _ (w : turns.Waiting) (raw : Waiting) (k n : ℕ) (priority : w.place.priority ≡ raw.priority) (ordered : w.order ≡ raw.order) (within : n < length (orders_of k order)) (is : raw.order ≡ slice_index_or (orders_of k order) n 0) where
    module _ (j : ℕ) (p : Place) (x : Member X F) (differs : k ≡ j → ⊥) (st : IsStanding boxed calls p x) (sound : IsSoundMember boxed order j x) (first : (v : Waiting) → waiting_of order j (standing_of x) ≡ Some v → is_before v raw ≡ false) where
      own_size : length (orders_of j order) ≡ x.connection.sender.queue.queue.accepted
      own_size = ap length (sym sound.orders) ∙ sound.counted

      later : (i : ℕ) (t : List Accepted) → waiting_number x.connection.sender ≡ Some i → i + (1 + length (behind_by x.connection.sender.begun (queued x.connection.sender))) ≡ x.connection.sender.queue.queue.accepted → length t ≤ length (behind_by x.connection.sender.begun (queued x.connection.sender)) →
          (nat_lt w.place.priority p.priority || ((w.place.priority == p.priority) && nat_lt w.order (order_before p t))) ≡ true
      later i t number place short =
          let count = st.counted in
          let size = own_size in
          let os = orders_of j order in
          let idx : ℕ = length p.member.messages - length t - 1 in
          let le : i ≤ idx = omega (arith, place, short, count) in
          let inside : idx < length os = omega (arith, place, short, count, size) in
          let z : ℕ = slice_index_or os i 0 in
          let y : ℕ = slice_index_or os idx 0 in
          let mono : z ≤ y = not_before order j i idx le inside in
          let raw_j : Waiting = record { place = j; priority = x.priority; order = z } in
          let ne : z ≡ raw.order → ⊥ = λ same. differs (sym (apart order j k i n z raw.order (read_at os i (omega (arith, le, inside))) (read_at (orders_of k order) n within ∙ ap Some (sym is)) same)) in
          let core : (nat_lt raw.priority x.priority || ((raw.priority == x.priority) && nat_lt raw.order y)) ≡ true = after_by raw.priority x.priority raw.order y z (first raw_j (ap (λ o. waiting_in os j x.priority o) number)) ne mono in
          let same_y : order_before p t ≡ y = ap (λ (l : List ℕ). slice_index_or l idx 0) (sym st.orders ∙ sound.orders) in
          ap (λ a. nat_lt a p.priority || ((a == p.priority) && nat_lt w.order (order_before p t))) priority
          ∙ (ap (λ b. nat_lt raw.priority b || ((raw.priority == b) && nat_lt w.order (order_before p t))) (sym st.priority)
          ∙ (ap (λ o. nat_lt raw.priority x.priority || ((raw.priority == x.priority) && nat_lt o (order_before p t))) ordered
          ∙ (ap (λ o. nat_lt raw.priority x.priority || ((raw.priority == x.priority) && nat_lt raw.order o)) same_y ∙ core)))

      stand_is : stand_of calls p ≡ (settled p.member.encoding x.connection.sender).stand
      stand_is = alike_stand _ _ st.box

      tail_is : HasTail (length (behind_by x.connection.sender.begun (queued x.connection.sender))) (stand_of calls p)
      tail_is = subst (HasTail (length (behind_by x.connection.sender.begun (queued x.connection.sender)))) (sym stand_is) (tail_settled p.member.encoding x.connection.sender x.connection.sender.begun)

      after_stand : (i : ℕ) (stand : Stand) → waiting_number x.connection.sender ≡ Some i → i + (1 + length (behind_by x.connection.sender.begun (queued x.connection.sender))) ≡ x.connection.sender.queue.queue.accepted → HasTail (length (behind_by x.connection.sender.begun (queued x.connection.sender))) stand → IsAfter w (waiting_by p j stand)
      after_stand i (begun number ends rest t) e place short = later i t e place short
      after_stand i (ending t) e place short = later i t e place short
      after_stand i (refused number layer t) e place short = later i t e place short
      after_stand i all_out e place short = tt

      waits_after : (o : Option ℕ) → waiting_number x.connection.sender ≡ o → IsAfter w (waiting_by p j (stand_of calls p))
      waits_after None e =
          let out : stand_of calls p ≡ all_out = stand_is ∙ none_out p.member.encoding x.connection.sender x.connection.sender.begun (queued x.connection.sender) refl e in
          subst (λ st. IsAfter w (waiting_by p j st)) (sym out) tt
      waits_after (Some i) e = after_stand i (stand_of calls p) e (raw_placed x.connection.sender.queue.queue.accepted x.connection.sender.begun (queued x.connection.sender) i st.placed.queued_placed st.placed.begun_placed e) tail_is

    -- so do all others
    yields : (j s : ℕ) (p : Place) (x : Member X F) → w.place.member.socket ≡ s → (s == x.connection.socket) ≡ false → (k ≡ j → ⊥) → IsStanding boxed calls p x → IsSoundMember boxed order j x → ((v : Waiting) → waiting_of order j (standing_of x) ≡ Some v → is_before v raw ≡ false) → Yields calls w j p
    yields j s p x own other differs st sound first = record {
      apart = ap (λ (v : ℕ). v == p.member.socket) own ∙ (ap (λ (v : ℕ). s == v) (sym st.socket) ∙ other);
      after = waits_after j p x differs st sound first (waiting_number x.connection.sender) refl;
    }

    all_yield : (j s : ℕ) (places : List Place) (members : List (Member X F)) → w.place.member.socket ≡ s → has (map (λ (m : Member X F). m.connection.socket) members) s ≡ false → k < j → EachAt (IsStanding boxed calls) places members → ((i : ℕ) (x : Member X F) → slice_get members i ≡ Some x → IsSoundMember boxed order (j + i) x) → ((i : ℕ) (x : Member X F) (v : Waiting) → slice_get members i ≡ Some x → waiting_of order (j + i) (standing_of x) ≡ Some v → is_before v raw ≡ false) → AllYield calls w j places
    all_yield j s [] [] own others less z sound first = tt
    all_yield j s [] (x ∷ members) own others less z sound first = absurd z
    all_yield j s (p ∷ places) [] own others less z sound first = absurd z
    all_yield j s (p ∷ places) (x ∷ members) own others less z sound first =
        let here : j + zero ≡ j = omega arith in
        let d = neither (x.connection.socket == s) (has (map (λ (m : Member X F). m.connection.socket) members) s) others in (
          yields j s p x own (other_way x.connection.socket s d.0) (λ e. omega (arith, e, less)) z.0 (subst (λ v. IsSoundMember boxed order v x) here (sound zero x refl)) (λ v at. first zero x v refl (subst (λ u. waiting_of order u (standing_of x) ≡ Some v) (sym here) at)),
          all_yield (j + 1) s places members own d.1 (omega (arith, less)) z.1
              (λ i y at. subst (λ v. IsSoundMember boxed order v y) (let e : j + suc i ≡ j + 1 + i = omega arith in e) (sound (suc i) y at))
              (λ i y v at h. first (suc i) y v at (subst (λ u. waiting_of order u (standing_of y) ≡ Some v) (let e : j + 1 + i ≡ j + suc i = omega arith in e) h)),
        )

    pub leads : (j i : ℕ) (m : Member X F) (places : List Place) (members : List (Member X F)) → k ≡ j + i → w.number ≡ k → slice_get members i ≡ Some m → slice_get places i ≡ Some w.place → w.place.member.socket ≡ m.connection.socket → IsOnce (map (λ (x : Member X F). x.connection.socket) members) → EachAt (IsStanding boxed calls) places members →
        ((i : ℕ) (x : Member X F) → slice_get members i ≡ Some x → IsSoundMember boxed order (j + i) x) → ((i : ℕ) (x : Member X F) (v : Waiting) → slice_get members i ≡ Some x → waiting_of order (j + i) (standing_of x) ≡ Some v → is_before v raw ≡ false) → Leads calls w j i places
    leads j i m [] [] at number there place own once z sound first = absurd (let none : Option (Member X F) = None in let q : none ≡ Some m = there in cc)
    leads j i m [] (x ∷ members) at number there place own once z sound first = absurd z
    leads j i m (p ∷ places) [] at number there place own once z sound first = absurd z
    leads j zero m (p ∷ places) (x ∷ members) at number there place own once z sound first =
        let same : x ≡ m = same_some x m there in (
          same_some p w.place place,
          (
            omega (arith, at, number),
            all_yield (j + 1) m.connection.socket places members own (subst (λ (v : Member X F). has (map (λ (x : Member X F). x.connection.socket) members) v.connection.socket ≡ false) same once.0) (omega (arith, at)) z.1
                (λ i y at. subst (λ v. IsSoundMember boxed order v y) (let e : j + suc i ≡ j + 1 + i = omega arith in e) (sound (suc i) y at))
                (λ i y v at h. first (suc i) y v at (subst (λ u. waiting_of order u (standing_of y) ≡ Some v) (let e : j + 1 + i ≡ j + suc i = omega arith in e) h)),
          ),
        )
    leads j (suc i) m (p ∷ places) (x ∷ members) at number there place own once z sound first =
        let here : j + zero ≡ j = omega arith in (
          yields j m.connection.socket p x own (not_here (λ (y : Member X F). y.connection.socket) members i x.connection.socket m once.0 there) (λ e. omega (arith, e, at)) z.0 (subst (λ v. IsSoundMember boxed order v x) here (sound zero x refl)) (λ v h. first zero x v refl (subst (λ u. waiting_of order u (standing_of x) ≡ Some v) (sym here) h)),
          leads (j + 1) i m places members (omega (arith, at)) number there place own once.1 z.1
              (λ i y at. subst (λ v. IsSoundMember boxed order v y) (let e : j + suc i ≡ j + 1 + i = omega arith in e) (sound (suc i) y at))
              (λ i y v at h. first (suc i) y v at (subst (λ u. waiting_of order u (standing_of y) ≡ Some v) (let e : j + 1 + i ≡ j + suc i = omega arith in e) h)),
        )
