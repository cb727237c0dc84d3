-- How many messages were sent, by the calls and by what a member keeps.
use Rattle.std.proofs.Common.{◌≡◌, inl, inr, ℕ, zero, suc, ◌+◌, ◌<◌, ◌≤◌, ◌^◌, Bool, true, false, if◌then◌else◌, List, [], ◌∷◌, length, slice_get, Option, Some, None, refl, sym, ap, ◌∙◌, subst, arith, drop, length-drop}
use Rattle.taps_framer.specs.declared.framer.Framer as framer
use Rattle.taps_chain.specs.ChainLaws.{AreFramers}
use Rattle.taps_chain.specs.Layers.{layers_of}
use Rattle.taps_message.specs.declared.accepted.Accepted.{Accepted}
use Rattle.taps_message.specs.Expiry.{has_expired}
use Rattle.taps_stack.specs.StackTable.{is_stream}
use Rattle.taps_socket.specs.Calls.{Call}
use Rattle.taps_socket.specs.declared.answers.SendAnswer.{SendAnswer}
use Rattle.taps_connection.specs.declared.sender.Begun.{Begun}
use Rattle.taps_connection.specs.declared.sender.Sender.{Sender}
use Rattle.taps_connection.specs.Encodings.{Encoding}
use Rattle.taps_connection.specs.Outboxes.{all_out, Outbox, or_else, take_turn, turn_by, with_rest}
use Rattle.taps_connection.specs.Senders.{settled, settled_by, idle, queued, IsStopped}
use Rattle.taps_connection.specs.Sound.{IsSound}
use Rattle.taps_exchange.specs.Members.{calls_on, outbox_after}
use Rattle.taps_exchange.specs.Turns.{Place}
use Rattle.taps_group.specs.declared.member.Member.{Member}
use Rattle.taps_group_exchange.specs.GroupExchanges.{count_sent, sent_by}
use Rattle.taps_group_exchange.specs.Standing.{IsStanding, IsAlike, one_if, count_shut}
use Rattle.taps_group_exchange.proofs.RealEncodings.{EndsEmptyAt, ends_empty}

abbrev none_begun : ℕ → Option ℕ → ℕ → Outbox
none_begun n x at = record { stand = all_out; sent = n; expired = x; moment = at }

true_not : {A : Type 0} → false ≡ true → A
true_not h = absurd (cc)

count_with : (next box : Outbox) (number : ℕ) (ends : Bool) (bytes : List ℕ) (behind : List Accepted) → (bytes ≡ [] → ends ≡ true) → count_sent (with_rest next box number ends bytes behind) ≡ box.sent
count_with next box number true [] behind h = omega arith
count_with next box number false [] behind h = true_not (h refl)
count_with next box number ends (b ∷ rest) behind h = refl

count_by : (o : Option ℕ) (box : Outbox) (number : ℕ) (behind : List Accepted) (opened : Outbox) → (o ≡ None → count_sent opened ≡ box.sent) → count_sent (turn_by o box number behind opened) ≡ box.sent
count_by (Some layer) box number behind opened h = refl
count_by None box number behind opened h = h refl

count_if : (q : Bool) (n : ℕ) (a b : Outbox) → count_sent a ≡ n → count_sent b ≡ n → count_sent (if q then a else b) ≡ n
count_if true n a b h k = h
count_if false n a b h k = k

pub count_turn : (e : Encoding) (at n : ℕ) (x : Option ℕ) (xs : List Accepted) → EndsEmptyAt e n → count_sent (take_turn e at n x xs) ≡ n
count_turn e at n x [] has = refl
count_turn e at n x (m ∷ xs) has =
    let opened = with_rest (take_turn e at (n + 1) x xs) (none_begun n x at) m.number (e.ends m.message.props.is_final) (e.bytes n m.message.body) xs in
    count_if (has_expired m at) n (take_turn e at n (Some (or_else x m.number)) xs) (turn_by (e.refusal n m.message.body) (none_begun n x at) m.number xs opened) (count_turn e at n (Some (or_else x m.number)) xs has)
    (count_by (e.refusal n m.message.body) (none_begun n x at) m.number xs opened (λ none. count_with (take_turn e at (n + 1) x xs) (none_begun n x at) m.number (e.ends m.message.props.is_final) (e.bytes n m.message.body) xs (λ empty. has m.message.body m.message.props.is_final none empty)))

pub count_alike : (a b : Outbox) → IsAlike a b → count_sent a ≡ count_sent b
count_alike a b (inl e) = ap count_sent e
count_alike a b (inr h) = ap (λ v. sent_by v a.sent) h.one ∙ (h.sent ∙ ap (λ v. sent_by v b.sent) (sym h.other))

-- a member whose sending stands for its calls
pub count_standing : {X : Type 0} {F : X → Type 0} (boxed : (x : X) → framer.Ghosts (F x)) (calls : List Call) (p : Place) (m : Member X F) → IsStanding boxed calls p m → AreFramers (layers_of boxed m.connection.chain) → IsSound (is_stream m.connection.stack) (layers_of boxed m.connection.chain) m.connection.sender →
    count_sent (outbox_after p.member (calls_on p.member.socket calls)) ≡ m.connection.sender.sent
count_standing boxed calls p m st framers sound =
    let s = m.connection.sender in
    let f = sound.few in
    let g = sound.bounded in
    let small : s.sent < 2 ^ 64 = omega (arith, f, g) in
    let has : EndsEmptyAt p.member.encoding s.sent = subst (λ e. EndsEmptyAt e s.sent) st.encoding (ends_empty (is_stream m.connection.stack) (layers_of boxed m.connection.chain) s.sent small framers) in
    count_alike _ _ st.box ∙ (ap (λ o. count_sent (settled_by p.member.encoding s o)) st.none_begun ∙ count_turn p.member.encoding s.moment s.sent s.expired (queued s) has)

one_few : (b : Bool) → one_if b ≤ 1
one_few true = omega arith
one_few false = omega arith

pub count_few : {X : Type 0} {F : X → Type 0} (members : List (Member X F)) → count_shut members ≤ length members
count_few [] = omega arith
count_few (x ∷ members) = (let r = count_few members in let one = one_few x.connection.sender.shut in omega (arith, r, one))

-- an open side is not among those that were ended
pub count_room : {X : Type 0} {F : X → Type 0} (members : List (Member X F)) (k : ℕ) (m : Member X F) → slice_get members k ≡ Some m → m.connection.sender.shut ≡ false → count_shut members + 1 ≤ length members
count_room [] k m at unshut = absurd (let none : Option (Member _ _) = None in let z : none ≡ Some m = at in cc)
count_room (x ∷ members) zero m at unshut =
    let none : one_if x.connection.sender.shut ≡ 0 = ap (λ (v : Member _ _). one_if v.connection.sender.shut) (let e : x ≡ m = cc in e) ∙ ap one_if unshut in
    let most = count_few members in
    omega (arith, none, most)
count_room (x ∷ members) (suc k) m at unshut =
    let r = count_room members k m at unshut in
    let one = one_few x.connection.sender.shut in
    omega (arith, r, one)

-- a member with a begun message
rest_count : (next : Outbox) (t : Sender) (moment number : ℕ) (ends : Bool) (rest : List ℕ) (behind : List Accepted) → 0 < length rest → count_sent (with_rest next (record (idle t) { moment = moment }) number ends rest behind) ≡ t.sent
rest_count next t moment number ends [] behind h = absurd (omega (arith, h))
rest_count next t moment number ends (x ∷ rest) behind h = refl

pub count_begun : (e : Encoding) (socket until : ℕ) (s : Sender) (answer : SendAnswer) (calls : List Call) (t : Sender) → IsStopped e socket until s answer calls t → count_sent (settled e t) ≡ t.sent
count_begun e socket until s answer calls t h =
    let b : Begun = record h.message { taken = h.taken } in
    let is : t.begun ≡ Some b = ap (λ (v : Sender). v.begun) h.kept in
    let left = h.left in
    let cut = length-drop h.taken h.message.bytes in
    ap (λ o. count_sent (settled_by e t o)) is ∙ rest_count (take_turn e t.moment (t.sent + 1) t.expired (queued t)) t t.moment b.number b.ends (drop b.taken b.bytes) (queued t) (omega (arith, left, cut))
