-- The calls of one turn are those of one message: before each of them that message is begun, or its stream is to be ended.
use Rattle.std.proofs.Common.{◌≡◌, ◌⊎◌, inl, inr, ℕ, ◌+◌, ◌<◌, ◌≤◌, Bool, true, false, max, if◌then◌else◌, List, [], ◌∷◌, ◌++◌, length, drop, Option, Some, None, refl, sym, ap, ◌∙◌, subst, arith, length-drop, length-append}
use Rattle.taps_message.specs.declared.accepted.Accepted.{Accepted}
use Rattle.taps_message.specs.Expiry.{has_expired}
use Rattle.taps_socket.specs.declared.answers.SendAnswer.TheVariants as send
use Rattle.taps_socket.specs.declared.answers.RecvAnswer.TheVariants as recv
use Rattle.taps_socket.specs.Calls.{Call, sends, receives, shuts, closes, begins, starts, waits, listens, accepts, Request, to_send, to_shut, request_of}
use Rattle.taps_connection.specs.Encodings.{Encoding}
use Rattle.taps_connection.specs.Outboxes.{Stand, begun, ending, refused, all_out, Outbox, or_else, take_turn, turn_by, with_rest, after_taken, after_shut, after_call, after_calls, asks_out}
use Rattle.taps_connection.specs.Runs.{AllAsked, is_stopped, AllGo}
use Rattle.taps_group_exchange.specs.Turning.{IsOfMessage, AllOfMessage, TakesSome, AllTakeSome}

-- what the next messages' turn makes of so many sent ones: a message was sent at once; or nothing is asked; or one of them
-- is begun whole
data Opens (e : Encoding) (n : ℕ) (xs : List Accepted) (b : Outbox) : Type 0 where
  later : n + 1 ≤ b.sent → Opens e n xs b
  quiet : ((socket until : ℕ) → asks_out socket until b.stand ≡ None) → Opens e n xs b
  full : (number : ℕ) (ends : Bool) (rest : List ℕ) (behind pre : List Accepted) (m : Accepted) → b.sent ≡ n → b.stand ≡ begun number ends rest behind → xs ≡ pre ++ m ∷ behind → rest ≡ e.bytes n m.message.body → 0 < length rest → Opens e n xs b

opens_behind : (e : Encoding) (n : ℕ) (m : Accepted) (xs : List Accepted) (b : Outbox) → Opens e n xs b → Opens e n (m ∷ xs) b
opens_behind e n m xs b (later h) = later h
opens_behind e n m xs b (quiet h) = quiet h
opens_behind e n m xs b (full number ends rest behind pre x s st split bytes some) = full number ends rest behind (m ∷ pre) x s st (ap (λ v. m ∷ v) split) bytes some

-- how the sending stands where nothing was begun
abbrev none_begun : ℕ → Option ℕ → ℕ → Outbox
none_begun n x at = record { stand = all_out; sent = n; expired = x; moment = at }

-- sent messages stay sent
grows_with : (next box : Outbox) (number : ℕ) (ends : Bool) (bytes : List ℕ) (behind : List Accepted) → box.sent + 1 ≤ next.sent → box.sent ≤ (with_rest next box number ends bytes behind).sent
grows_with next box number true [] behind h = omega arith
grows_with next box number false [] behind h = omega arith
grows_with next box number ends (b ∷ rest) behind h = omega arith

grows_by : (o : Option ℕ) (box : Outbox) (number : ℕ) (behind : List Accepted) (opened : Outbox) → box.sent ≤ opened.sent → box.sent ≤ (turn_by o box number behind opened).sent
grows_by (Some layer) box number behind opened h = omega arith
grows_by None box number behind opened h = h

grows_if : (q : Bool) (n : ℕ) (a b : Outbox) → n ≤ a.sent → n ≤ b.sent → n ≤ (if q then a else b).sent
grows_if true n a b h k = h
grows_if false n a b h k = k

pub grows : (e : Encoding) (at n : ℕ) (x : Option ℕ) (xs : List Accepted) → n ≤ (take_turn e at n x xs).sent
grows e at n x [] = omega arith
grows e at n x (m ∷ xs) =
    let opened = with_rest (take_turn e at (n + 1) x xs) (none_begun n x at) m.number (e.ends m.message.props.is_final) (e.bytes n m.message.body) xs in
    grows_if (has_expired m at) n (take_turn e at n (Some (or_else x m.number)) xs) (turn_by (e.refusal n m.message.body) (none_begun n x at) m.number xs opened) (grows e at n (Some (or_else x m.number)) xs)
    (grows_by (e.refusal n m.message.body) (none_begun n x at) m.number xs opened
    (grows_with (take_turn e at (n + 1) x xs) (none_begun n x at) m.number (e.ends m.message.props.is_final) (e.bytes n m.message.body) xs (grows e at (n + 1) x xs)))

opens_with : (e : Encoding) (n : ℕ) (m : Accepted) (xs : List Accepted) (next box : Outbox) (ends : Bool) (bytes : List ℕ) → box.sent ≡ n → n + 1 ≤ next.sent → bytes ≡ e.bytes n m.message.body → Opens e n (m ∷ xs) (with_rest next box m.number ends bytes xs)
opens_with e n m xs next box true [] s g is = later (omega (arith, s))
opens_with e n m xs next box false [] s g is = later g
opens_with e n m xs next box ends (b ∷ rest) s g is = full m.number ends (b ∷ rest) xs [] m s refl refl is (omega arith)

opens_by : (e : Encoding) (n : ℕ) (m : Accepted) (xs : List Accepted) (o : Option ℕ) (box opened : Outbox) → Opens e n (m ∷ xs) opened → Opens e n (m ∷ xs) (turn_by o box m.number xs opened)
opens_by e n m xs (Some layer) box opened h = quiet (λ socket until. refl)
opens_by e n m xs None box opened h = h

opens_if : (e : Encoding) (n : ℕ) (xs : List Accepted) (q : Bool) (a b : Outbox) → Opens e n xs a → Opens e n xs b → Opens e n xs (if q then a else b)
opens_if e n xs true a b h k = h
opens_if e n xs false a b h k = k

opens : (e : Encoding) (at n : ℕ) (x : Option ℕ) (xs : List Accepted) → Opens e n xs (take_turn e at n x xs)
opens e at n x [] = quiet (λ socket until. refl)
opens e at n x (m ∷ xs) =
    let opened = with_rest (take_turn e at (n + 1) x xs) (none_begun n x at) m.number (e.ends m.message.props.is_final) (e.bytes n m.message.body) xs in
    let passed = take_turn e at n (Some (or_else x m.number)) xs in
    opens_if e n (m ∷ xs) (has_expired m at) passed (turn_by (e.refusal n m.message.body) (none_begun n x at) m.number xs opened) (opens_behind e n m xs passed (opens e at n (Some (or_else x m.number)) xs))
    (opens_by e n m xs (e.refusal n m.message.body) (none_begun n x at) opened
    (opens_with e n m xs (take_turn e at (n + 1) x xs) (none_begun n x at) (e.ends m.message.props.is_final) (e.bytes n m.message.body) refl (grows e at (n + 1) x xs) refl))

-- no message has no bytes behind so many sent ones
abbrev pub HasBytesAt : Encoding → ℕ → Type 0
HasBytesAt e n = (body : List ℕ) → e.refusal n body ≡ None → 0 < length (e.bytes n body)

exact_with : (next box : Outbox) (number : ℕ) (ends : Bool) (bytes : List ℕ) (behind : List Accepted) → 0 < length bytes → (with_rest next box number ends bytes behind).sent ≡ box.sent
exact_with next box number ends [] behind h = absurd (omega (arith, h))
exact_with next box number ends (b ∷ rest) behind h = refl

exact_by : (o : Option ℕ) (box : Outbox) (number : ℕ) (behind : List Accepted) (opened : Outbox) → (o ≡ None → opened.sent ≡ box.sent) → (turn_by o box number behind opened).sent ≡ box.sent
exact_by (Some layer) box number behind opened h = refl
exact_by None box number behind opened h = h refl

exact_if : (q : Bool) (n : ℕ) (a b : Outbox) → a.sent ≡ n → b.sent ≡ n → (if q then a else b).sent ≡ n
exact_if true n a b h k = h
exact_if false n a b h k = k

pub exact : (e : Encoding) (at n : ℕ) (x : Option ℕ) (xs : List Accepted) → HasBytesAt e n → (take_turn e at n x xs).sent ≡ n
exact e at n x [] has = refl
exact e at n x (m ∷ xs) has =
    let opened = with_rest (take_turn e at (n + 1) x xs) (none_begun n x at) m.number (e.ends m.message.props.is_final) (e.bytes n m.message.body) xs in
    exact_if (has_expired m at) n (take_turn e at n (Some (or_else x m.number)) xs) (turn_by (e.refusal n m.message.body) (none_begun n x at) m.number xs opened) (exact e at n (Some (or_else x m.number)) xs has)
    (exact_by (e.refusal n m.message.body) (none_begun n x at) m.number xs opened (λ none. exact_with (take_turn e at (n + 1) x xs) (none_begun n x at) m.number (e.ends m.message.props.is_final) (e.bytes n m.message.body) xs (has m.message.body none)))

-- two fronts of one list with the same tail end alike
same_last : (p q : List Accepted) (x y : Accepted) (tail : List Accepted) → p ++ x ∷ tail ≡ q ++ y ∷ tail → x ≡ y
same_last [] [] x y tail e = cc
same_last [] (z ∷ q) x y tail e =
    let size : length (x ∷ tail) ≡ length (z ∷ (q ++ y ∷ tail)) = ap (λ (l : List Accepted). length l) e in
    let more = length-append q (y ∷ tail) in
    absurd (omega arith)
same_last (z ∷ p) [] x y tail e =
    let size : length (z ∷ (p ++ x ∷ tail)) ≡ length (y ∷ tail) = ap (λ (l : List Accepted). length l) e in
    let more = length-append p (x ∷ tail) in
    absurd (omega arith)
same_last (z ∷ p) (w ∷ q) x y tail e =
    let rest : p ++ x ∷ tail ≡ q ++ y ∷ tail = cc in
    same_last p q x y tail rest

-- a message of the next ones was sent in part
pub record IsPart (e : Encoding) (n : ℕ) (all : List Accepted) (b : Outbox) : Type 0 where
  pub number : ℕ
  pub ends : Bool
  pub rest : List ℕ
  pub behind : List Accepted
  pub pre : List Accepted
  pub m : Accepted
  pub sent : b.sent ≡ n
  pub stand : b.stand ≡ begun number ends rest behind
  pub split : all ≡ pre ++ m ∷ behind
  pub shorter : length rest < length (e.bytes n m.message.body)

-- of a message, with these behind it and so many sent before: it is begun; its stream is to be ended; the next ones had
-- their turn; or one of them was sent on
pub data Phase (e : Encoding) (n number : ℕ) (behind : List Accepted) (b : Outbox) : Type 0 where
  first : (ends : Bool) (rest : List ℕ) → b.sent ≡ n → b.stand ≡ begun number ends rest behind → Phase e n number behind b
  closing : b.sent ≡ n + 1 → b.stand ≡ ending behind → Phase e n number behind b
  fresh : (at : ℕ) (x : Option ℕ) → b ≡ take_turn e at (n + 1) x behind → Phase e n number behind b
  part : IsPart e (n + 1) behind b → Phase e n number behind b
  late : n + 2 ≤ b.sent → Phase e n number behind b

-- bytes of a begun message are taken
data Takes (e : Encoding) (b : Outbox) (number : ℕ) (ends : Bool) (rest : List ℕ) (behind : List Accepted) (count at : ℕ) (c : Outbox) : Type 0 where
  keeps : c.sent ≡ b.sent → c.stand ≡ begun number ends (drop count rest) behind → Takes e b number ends rest behind count at c
  is_ended : c.sent ≡ b.sent + 1 → c.stand ≡ ending behind → Takes e b number ends rest behind count at c
  goes_next : c ≡ take_turn e at (b.sent + 1) b.expired behind → Takes e b number ends rest behind count at c

takes_with : (e : Encoding) (b : Outbox) (number : ℕ) (ends : Bool) (rest left : List ℕ) (behind : List Accepted) (count at : ℕ) → left ≡ drop count rest → Takes e b number ends rest behind count at (with_rest (take_turn e at (b.sent + 1) b.expired behind) (record b { moment = at }) number ends left behind)
takes_with e b number true rest [] behind count at is = is_ended refl refl
takes_with e b number false rest [] behind count at is = goes_next refl
takes_with e b number ends rest (y ∷ left) behind count at is = keeps refl (ap (λ v. begun number ends v behind) is)

takes : (e : Encoding) (b : Outbox) (number : ℕ) (ends : Bool) (rest : List ℕ) (behind : List Accepted) (count at : ℕ) → b.stand ≡ begun number ends rest behind → Takes e b number ends rest behind count at (after_taken e b count at b.stand)
takes e b number ends rest behind count at is =
    subst (λ v. Takes e b number ends rest behind count at (after_taken e b count at v)) (sym is) (takes_with e b number ends rest (drop count rest) behind count at refl)

-- a call that is asked for by a begun message
data Sending (e : Encoding) (b : Outbox) (c : Call) : Type 0 where
  taken : (count at : ℕ) → 1 ≤ count → after_call e b c ≡ after_taken e b count at b.stand → Sending e b c
  stopped : is_stopped c ≡ true → Sending e b c

wrong_request : (socket until : ℕ) (rest : List ℕ) (r : Request) → Some (to_send socket rest until) ≡ Some r → r ≡ to_send socket rest until
wrong_request socket until rest r e = cc

sending_by : (e : Encoding) (b : Outbox) (c : Call) (socket until : ℕ) (rest : List ℕ) → request_of c ≡ to_send socket rest until → TakesSome c → Sending e b c
sending_by e b (sends s bytes u (send.Sent count at)) socket until rest r some = taken count (max b.moment at) some refl
sending_by e b (sends s bytes u (send.Timed at)) socket until rest r some = stopped refl
sending_by e b (sends s bytes u (send.Failed cause)) socket until rest r some = stopped refl
sending_by e b (receives s most u came answer) socket until rest r some = absurd (let z = r in cc)
sending_by e b (shuts s) socket until rest r some = absurd (let z = r in cc)
sending_by e b (closes s) socket until rest r some = absurd (let z = r in cc)
sending_by e b (begins at) socket until rest r some = absurd (let z = r in cc)
sending_by e b (starts l g a) socket until rest r some = absurd (let z = r in cc)
sending_by e b (waits u a) socket until rest r some = absurd (let z = r in cc)
sending_by e b (listens g a) socket until rest r some = absurd (let z = r in cc)
sending_by e b (accepts l u a) socket until rest r some = absurd (let z = r in cc)

sending : (e : Encoding) (b : Outbox) (c : Call) (socket until number : ℕ) (ends : Bool) (rest : List ℕ) (behind : List Accepted) → b.stand ≡ begun number ends rest behind → asks_out socket until b.stand ≡ Some (request_of c) → TakesSome c → Sending e b c
sending e b c socket until number ends rest behind is asked some =
    let a : Some (to_send socket rest until) ≡ Some (request_of c) = ap (asks_out socket until) (sym is) ∙ asked in
    sending_by e b c socket until rest (wrong_request socket until rest (request_of c) a) some

-- sent messages stay sent
up_taken : (e : Encoding) (b : Outbox) (count at : ℕ) (stand : Stand) → b.sent ≤ (after_taken e b count at stand).sent
up_taken e b count at (begun number ends rest behind) = grows_with _ (record b { moment = at }) number ends (drop count rest) behind (grows e at (b.sent + 1) b.expired behind)
up_taken e b count at (ending behind) = omega arith
up_taken e b count at (refused number layer behind) = omega arith
up_taken e b count at all_out = omega arith

up_shut : (e : Encoding) (b : Outbox) (stand : Stand) → b.sent ≤ (after_shut e b stand).sent
up_shut e b (begun number ends rest behind) = omega arith
up_shut e b (ending behind) = grows e b.moment b.sent b.expired behind
up_shut e b (refused number layer behind) = omega arith
up_shut e b all_out = omega arith

up : (e : Encoding) (b : Outbox) (c : Call) → b.sent ≤ (after_call e b c).sent
up e b (sends s bytes u (send.Sent count at)) = up_taken e b count (max b.moment at) b.stand
up e b (sends s bytes u (send.Timed at)) = omega arith
up e b (sends s bytes u (send.Failed cause)) = omega arith
up e b (receives s most u came (recv.Got count at)) = omega arith
up e b (receives s most u came recv.End) = omega arith
up e b (receives s most u came (recv.Timed at)) = omega arith
up e b (receives s most u came (recv.Failed cause)) = omega arith
up e b (shuts s) = up_shut e b b.stand
up e b (closes s) = omega arith
up e b (begins at) = omega arith
up e b (starts l g a) = omega arith
up e b (waits u a) = omega arith
up e b (listens g a) = omega arith
up e b (accepts l u a) = omega arith

-- more than that message was sent, or the next one in part
abbrev IsGone : Encoding → ℕ → List Accepted → Outbox → Type 0
IsGone e n all b = IsPart e (n + 1) all b ⊎ (n + 2 ≤ b.sent)

-- a message of the next ones is sent on
sent_on : (e : Encoding) (n : ℕ) (all pre : List Accepted) (b c : Outbox) (number : ℕ) (ends : Bool) (rest : List ℕ) (behind : List Accepted) (m : Accepted) (count at : ℕ) → b.sent ≡ n + 1 → all ≡ pre ++ m ∷ behind → 1 ≤ count → length rest ≤ length (e.bytes (n + 1) m.message.body) → 0 < length (e.bytes (n + 1) m.message.body) → Takes e b number ends rest behind count at c → IsGone e n all c
sent_on e n all pre b c number ends rest behind m count at s split one long has (keeps more stand) =
    let cut = length-drop count rest in
    inl (record { number = number; ends = ends; rest = drop count rest; behind = behind; pre = pre; m = m; sent = more ∙ s; stand = stand; split = split; shorter = omega (arith, cut, one, long, has) })
sent_on e n all pre b c number ends rest behind m count at s split one long has (is_ended more stand) = inr (omega (arith, more, s))
sent_on e n all pre b c number ends rest behind m count at s split one long has (goes_next is) =
    let g = grows e at (b.sent + 1) b.expired behind in
    let same : c.sent ≡ (take_turn e at (b.sent + 1) b.expired behind).sent = ap (λ (v : Outbox). v.sent) is in
    inr (omega (arith, g, same, s))

stopped_not : {A : Type 0} (c : Call) → is_stopped c ≡ true → is_stopped c ≡ false → A
stopped_not c a b = (let z : true ≡ false = sym a ∙ b in absurd (cc))

module _ (e : Encoding) (socket until n number : ℕ) (behind : List Accepted) where
  part_on : (b : Outbox) (c : Call) → IsPart e (n + 1) behind b → asks_out socket until b.stand ≡ Some (request_of c) → is_stopped c ≡ false → TakesSome c → IsGone e n behind (after_call e b c)
  part_on b c p asked go some = by (sending e b c socket until p.number p.ends p.rest p.behind p.stand asked some)
    where
      by : Sending e b c → IsGone e n behind (after_call e b c)
      by (taken count at one is) = (let sh = p.shorter in
          subst (IsGone e n behind) (sym is) (sent_on e n behind p.pre b _ p.number p.ends p.rest p.behind p.m count at p.sent p.split one (omega (arith, sh)) (omega (arith, sh)) (takes e b p.number p.ends p.rest p.behind count at p.stand)))
      by (stopped h) = stopped_not c h go

  gone_on : (b : Outbox) (c : Call) → IsGone e n behind b → asks_out socket until b.stand ≡ Some (request_of c) → is_stopped c ≡ false → TakesSome c → IsGone e n behind (after_call e b c)
  gone_on b c (inl p) asked go some = part_on b c p asked go some
  gone_on b c (inr h) asked go some = (let u = up e b c in inr (omega (arith, u, h)))

  opened_on : (b : Outbox) (c : Call) → Opens e (n + 1) behind b → asks_out socket until b.stand ≡ Some (request_of c) → is_stopped c ≡ false → TakesSome c → IsGone e n behind (after_call e b c)
  opened_on b c (later h) asked go some = (let u = up e b c in inr (omega (arith, u, h)))
  opened_on b c (quiet h) asked go some = (let q = h socket until in let none : Option Request = None in let z : none ≡ Some (request_of c) = sym q ∙ asked in absurd (cc))
  opened_on b c (full k ends rest tail pre m s stand split bytes has) asked go some = by (sending e b c socket until k ends rest tail stand asked some)
    where
      by : Sending e b c → IsGone e n behind (after_call e b c)
      by (taken count at one is) = (let size : length rest ≡ length (e.bytes (n + 1) m.message.body) = ap (λ (l : List ℕ). length l) bytes in
          subst (IsGone e n behind) (sym is) (sent_on e n behind pre b _ k ends rest tail m count at s split one (omega (arith, size)) (omega (arith, size, has)) (takes e b k ends rest tail count at stand)))
      by (stopped h) = stopped_not c h go

  first_taken : (b c : Outbox) (ends : Bool) (rest : List ℕ) (count at : ℕ) → b.sent ≡ n → Takes e b number ends rest behind count at c → Phase e n number behind c
  first_taken b c ends rest count at s (keeps more stand) = first ends (drop count rest) (more ∙ s) stand
  first_taken b c ends rest count at s (is_ended more stand) = closing (omega (arith, more, s)) stand
  first_taken b c ends rest count at s (goes_next is) = fresh at b.expired (is ∙ ap (λ (v : ℕ). take_turn e at (v + 1) b.expired behind) s)

  first_on : (b : Outbox) (c : Call) (ends : Bool) (rest : List ℕ) → b.sent ≡ n → b.stand ≡ begun number ends rest behind → asks_out socket until b.stand ≡ Some (request_of c) → is_stopped c ≡ false → TakesSome c → Phase e n number behind (after_call e b c)
  first_on b c ends rest s stand asked go some = by (sending e b c socket until number ends rest behind stand asked some)
    where
      by : Sending e b c → Phase e n number behind (after_call e b c)
      by (taken count at one is) = subst (Phase e n number behind) (sym is) (first_taken b _ ends rest count at s (takes e b number ends rest behind count at stand))
      by (stopped h) = stopped_not c h go

  shut_by : (b : Outbox) (c : Call) (s : ℕ) → request_of c ≡ to_shut s → after_call e b c ≡ after_shut e b b.stand
  shut_by b (shuts t) s r = refl
  shut_by b (sends t bytes u a) s r = absurd (cc)
  shut_by b (receives t most u came a) s r = absurd (cc)
  shut_by b (closes t) s r = absurd (cc)
  shut_by b (begins at) s r = absurd (cc)
  shut_by b (starts l g a) s r = absurd (cc)
  shut_by b (waits u a) s r = absurd (cc)
  shut_by b (listens g a) s r = absurd (cc)
  shut_by b (accepts l u a) s r = absurd (cc)

  closing_on : (b : Outbox) (c : Call) → b.sent ≡ n + 1 → b.stand ≡ ending behind → asks_out socket until b.stand ≡ Some (request_of c) → Phase e n number behind (after_call e b c)
  closing_on b c s stand asked =
      let a : Some (to_shut socket) ≡ Some (request_of c) = ap (asks_out socket until) (sym stand) ∙ asked in
      let r : request_of c ≡ to_shut socket = cc in
      fresh b.moment b.expired (shut_by b c socket r ∙ (ap (after_shut e b) stand ∙ ap (λ (v : ℕ). take_turn e b.moment v b.expired behind) s))

  -- of so many calls each is of the message, or behind them more than that was sent
  abbrev Reaches : Outbox → List Call → Type 0
  Reaches box calls = (AllOfMessage e behind box calls × Phase e n number behind (after_calls e box calls)) ⊎ IsGone e n behind (after_calls e box calls)

  reach_phase : (box : Outbox) (c : Call) (calls : List Call) → AllOfMessage e behind box calls → Phase e n number behind (after_calls e box calls) → asks_out socket until (after_calls e box calls).stand ≡ Some (request_of c) → is_stopped c ≡ false → TakesSome c → Reaches box (c ∷ calls)
  reach_phase box c calls all (first ends rest s stand) asked go some =
      inl ((subst (IsOfMessage behind) (sym stand) refl, all), first_on (after_calls e box calls) c ends rest s stand asked go some)
  reach_phase box c calls all (closing s stand) asked go some =
      inl ((subst (IsOfMessage behind) (sym stand) refl, all), closing_on (after_calls e box calls) c s stand asked)
  reach_phase box c calls all (fresh at x is) asked go some =
      inr (opened_on (after_calls e box calls) c (subst (Opens e (n + 1) behind) (sym is) (opens e at (n + 1) x behind)) asked go some)
  reach_phase box c calls all (part p) asked go some = inr (part_on (after_calls e box calls) c p asked go some)
  reach_phase box c calls all (late h) asked go some = inr (gone_on (after_calls e box calls) c (inr h) asked go some)

  reaches : (box : Outbox) (calls : List Call) → Phase e n number behind box → AllAsked e socket until box calls → AllGo calls → AllTakeSome calls → Reaches box calls
  reaches box [] start asked go some = inl (tt, start)
  reaches box (c ∷ calls) start asked go some = by (reaches box calls start asked.1 go.1 some.1)
    where
      by : Reaches box calls → Reaches box (c ∷ calls)
      by (inl h) = reach_phase box c calls h.0 h.1 asked.0 go.0 some.0
      by (inr h) = inr (gone_on (after_calls e box calls) c h asked.0 go.0 some.0)

  part_not : (b : Outbox) → IsPart e (n + 1) behind b → b.sent ≡ n + 1 → Opens e (n + 1) behind b → ⊥
  part_not b p s (later h) = omega (arith, s, h)
  part_not b p s (quiet h) = (let q = ap (asks_out socket until) (sym p.stand) ∙ h socket until in let none : Option Request = None in let z : Some (to_send socket p.rest until) ≡ none = q in cc)
  part_not b p s (full k ends rest tail pre m t stand split bytes has) =
      let same : begun p.number p.ends p.rest p.behind ≡ begun k ends rest tail = sym p.stand ∙ stand in
      let tails : p.behind ≡ tail = cc in
      let rests : p.rest ≡ rest = cc in
      let both : p.pre ++ p.m ∷ tail ≡ pre ++ m ∷ tail = ap (λ v. p.pre ++ p.m ∷ v) (sym tails) ∙ (sym p.split ∙ split) in
      let one : p.m ≡ m = same_last p.pre pre p.m m tail both in
      let size : length p.rest ≡ length (e.bytes (n + 1) p.m.message.body) = ap (λ (l : List ℕ). length l) (rests ∙ bytes) ∙ ap (λ (v : Accepted). length (e.bytes (n + 1) v.message.body)) (sym one) in
      let shorter = p.shorter in
      omega (arith, size, shorter)

  -- where the next messages have their turn then, all calls were of that message
  pub one_message : (box : Outbox) (calls : List Call) (at : ℕ) (x : Option ℕ) → Phase e n number behind box → AllAsked e socket until box calls → AllGo calls → AllTakeSome calls → HasBytesAt e (n + 1) →
      after_calls e box calls ≡ take_turn e at (n + 1) x behind → AllOfMessage e behind box calls
  one_message box calls at x start asked go some has last = by (reaches box calls start asked go some)
    where
      count : (after_calls e box calls).sent ≡ n + 1
      count = ap (λ (v : Outbox). v.sent) last ∙ exact e at (n + 1) x behind has

      by : Reaches box calls → AllOfMessage e behind box calls
      by (inl h) = h.0
      by (inr (inl p)) = absurd (part_not (after_calls e box calls) p count (subst (Opens e (n + 1) behind) (sym last) (opens e at (n + 1) x behind)))
      by (inr (inr h)) = absurd (omega (arith, h, count))

  gone_more : (b : Outbox) → IsGone e n behind b → n + 1 ≤ b.sent
  gone_more b (inl p) = (let s = p.sent in omega (arith, s))
  gone_more b (inr h) = omega (arith, h)

  phase_first : (b : Outbox) → Phase e n number behind b → b.sent ≤ n → IsOfMessage behind b.stand
  phase_first b (first ends rest s stand) h = subst (IsOfMessage behind) (sym stand) refl
  phase_first b (closing s stand) h = absurd (omega (arith, s, h))
  phase_first b (fresh at x is) h = (let g = grows e at (n + 1) x behind in let same : b.sent ≡ (take_turn e at (n + 1) x behind).sent = ap (λ (v : Outbox). v.sent) is in absurd (omega (arith, g, same, h)))
  phase_first b (part p) h = (let s = p.sent in absurd (omega (arith, s, h)))
  phase_first b (late s) h = absurd (omega (arith, s, h))

  -- where no message more was sent, too
  pub one_begun : (box : Outbox) (c : Call) (calls : List Call) → Phase e n number behind box → AllAsked e socket until box (c ∷ calls) → AllGo calls → AllTakeSome calls →
      (after_calls e box (c ∷ calls)).sent ≡ n → AllOfMessage e behind box (c ∷ calls)
  one_begun box c calls start asked go some count = by (reaches box calls start asked.1 go some)
    where
      few : (after_calls e box calls).sent ≤ n
      few = (let u = up e (after_calls e box calls) c in omega (arith, u, count))

      by : Reaches box calls → AllOfMessage e behind box (c ∷ calls)
      by (inl h) = (phase_first (after_calls e box calls) h.1 few, h.0)
      by (inr h) = (let m = gone_more (after_calls e box calls) h in absurd (omega (arith, m, few)))
