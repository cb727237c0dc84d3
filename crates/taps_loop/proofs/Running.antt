-- The calls by which one message goes out are in turn, and what comes behind them.
use Rattle.std.proofs.Common.{◌≡◌, ℕ, suc, ◌+◌, ◌<◌, ◌≤◌, Bool, true, false, List, [], ◌∷◌, ◌++◌, length, drop, Option, Some, None, refl, sym, ap, subst, ◌∙◌, arith, length-drop}
use Rattle.std.specs.Prelude.{max, nat_lt, nat_le, if◌then◌else◌}
use Rattle.std.proofs.lemmas.Bool.{ltb-true, ltb-false}
use Rattle.taps_message.specs.declared.accepted.Accepted.{Accepted}
use Rattle.taps_message.specs.Expiry.{has_expired}
use Rattle.taps_socket.specs.declared.answers.SendAnswer.{SendAnswer}
use Rattle.taps_socket.specs.declared.answers.SendAnswer.TheVariants as send
use Rattle.taps_socket.specs.Calls.{Call, begins, starts, waits, closes, listens, accepts, sends, shuts, receives, Request, to_send, to_shut, request_of}
use Rattle.taps_connection.specs.Encodings.{Encoding}
use Rattle.taps_connection.specs.Outboxes as outboxes
use Rattle.taps_connection.specs.Outboxes.{Stand, begun, ending, refused, all_out, Outbox, or_else, with_rest, turn_by, take_turn, after_taken, after_send, after_call, after_calls, asks_out}
use Rattle.taps_connection.specs.Runs.{is_stopped, AllAsked}
use Rattle.taps_exchange.specs.declared.outcome.Outcome.TheVariants as outcome
use Rattle.taps_exchange.specs.Members.{calls_on}
use Rattle.taps_exchange.specs.Sendings.{OthersGo}
use Rattle.taps_exchange.specs.Turns.{asks, over, IsInTurn}
use Rattle.taps_exchange.proofs.Behind.{after_behind}
use Rattle.taps_loop.specs.Loops.{Ends, sending, one_if, queued_behind, waiting, turn_then, turn_behind, turn_by as turn_after, turn_loop}
use Rattle.taps_loop.specs.Sends.{HasGone}
use Rattle.taps_loop.proofs.Own.{run_here}

abbrev pub first_box : Ends → Outbox
first_box x = take_turn x.from.encoding x.from.accepted 0 None x.from.messages

abbrev pub outbox_of : Ends → List Call → Outbox
outbox_of x own = after_calls x.from.encoding (first_box x) own

-- how a message stands that is alone, and that has others behind it: it is begun, or its side is to be ended, or it is out
abbrev pub IsAlike : ℕ → Bool → List Accepted → Stand → Stand → Type 0
IsAlike number ends behind (begun n e rest others) real =
    (0 < length rest) × (begun n e rest others ≡ begun number ends rest []) × (real ≡ begun number ends rest behind)
IsAlike number ends behind (ending others) real = (others ≡ []) × (ends ≡ true) × (real ≡ ending behind)
IsAlike number ends behind (refused n layer others) real = ⊥
IsAlike number ends behind all_out real = Unit {0}

pub rest_alike : (alone next a b : Outbox) (number : ℕ) (ends : Bool) (rest : List ℕ) (behind : List Accepted) → alone.stand ≡ all_out →
    IsAlike number ends behind (with_rest alone a number ends rest []).stand (with_rest next b number ends rest behind).stand
rest_alike alone next a b number true [] behind h = (refl, refl, refl)
rest_alike alone next a b number false [] behind h = subst (λ v. IsAlike number false behind v next.stand) (sym h) tt
rest_alike alone next a b number ends (x ∷ rest) behind h = (omega arith, refl, refl)

-- one call more
taken_alike : (e : Encoding) (a b : Outbox) (number : ℕ) (ends : Bool) (rest : List ℕ) (behind : List Accepted) (count m m' : ℕ) →
    IsAlike number ends behind (after_taken e a count m (begun number ends rest [])).stand (after_taken e b count m' (begun number ends rest behind)).stand
taken_alike e a b number ends rest behind count m m' =
    rest_alike (take_turn e m (a.sent + 1) a.expired []) (take_turn e m' (b.sent + 1) b.expired behind) (record a { moment = m }) (record b { moment = m' }) number ends (drop count rest) behind refl

sent_alike : (e : Encoding) (a b : Outbox) (number : ℕ) (ends : Bool) (rest : List ℕ) (behind : List Accepted) (answer : SendAnswer) → 0 < length rest → a.stand ≡ begun number ends rest [] → b.stand ≡ begun number ends rest behind →
    IsAlike number ends behind (after_send e a answer).stand (after_send e b answer).stand
sent_alike e a b number ends rest behind (send.Sent count at) some h k =
    subst (λ v. IsAlike number ends behind (after_taken e a count (max a.moment at) v).stand (after_taken e b count (max b.moment at) b.stand).stand) (sym h)
    (subst (λ v. IsAlike number ends behind (after_taken e a count (max a.moment at) (begun number ends rest [])).stand (after_taken e b count (max b.moment at) v).stand) (sym k)
    (taken_alike e a b number ends rest behind count (max a.moment at) (max b.moment at)))
sent_alike e a b number ends rest behind (send.Timed at) some h k =
    subst (λ v. IsAlike number ends behind v b.stand) (sym h) (some, refl, k)
sent_alike e a b number ends rest behind (send.Failed cause) some h k =
    subst (λ v. IsAlike number ends behind v b.stand) (sym h) (some, refl, k)

-- the call that is asked while a message is begun
pub record IsSendCall (socket : ℕ) (rest : List ℕ) (until : ℕ) (c : Call) : Type 0 where
  pub answer : SendAnswer
  pub is : c ≡ sends socket rest until answer

pub send_call : (socket : ℕ) (rest : List ℕ) (until : ℕ) (c : Call) → Some (to_send socket rest until) ≡ Some (request_of c) → IsSendCall socket rest until c
send_call socket rest until (begins at) e = cc
send_call socket rest until (starts leaf target answer) e = cc
send_call socket rest until (waits u answer) e = cc
send_call socket rest until (closes s) e = cc
send_call socket rest until (listens target answer) e = cc
send_call socket rest until (accepts listener u answer) e = cc
send_call socket rest until (shuts s) e = cc
send_call socket rest until (receives s most u came answer) e = cc
send_call socket rest until (sends s bytes u answer) e =
    let same : to_send s bytes u ≡ to_send socket rest until = cc in
    let one : s ≡ socket = cc in
    let two : bytes ≡ rest = cc in
    let three : u ≡ until = cc in
    record { answer = answer; is = ap (λ v. sends v bytes u answer) one ∙ (ap (λ v. sends socket v u answer) two ∙ ap (λ v. sends socket rest v answer) three) }

pub shut_call : (socket : ℕ) (c : Call) → Some (to_shut socket) ≡ Some (request_of c) → c ≡ shuts socket
shut_call socket (begins at) e = cc
shut_call socket (starts leaf target answer) e = cc
shut_call socket (waits u answer) e = cc
shut_call socket (closes s) e = cc
shut_call socket (listens target answer) e = cc
shut_call socket (accepts listener u answer) e = cc
shut_call socket (shuts s) e = (let one : s ≡ socket = cc in ap shuts one)
shut_call socket (receives s most u came answer) e = cc
shut_call socket (sends s bytes u answer) e = cc

call_by : (e : Encoding) (socket until : ℕ) (a b : Outbox) (number : ℕ) (ends : Bool) (behind : List Accepted) (c : Call) (st : Stand) → a.stand ≡ st → IsAlike number ends behind st b.stand → asks_out socket until st ≡ Some (request_of c) →
    IsAlike number ends behind (after_call e a c).stand (after_call e b c).stand
call_by e socket until a b number ends behind c (begun n en rest others) is k asked =
    let call = send_call socket rest until c asked in
    subst (λ v. IsAlike number ends behind (after_call e a v).stand (after_call e b v).stand) (sym call.is)
    (sent_alike e a b number ends rest behind call.answer k.0 (is ∙ k.1) k.2)
call_by e socket until a b number ends behind c (ending others) is k asked =
    subst (λ v. IsAlike number ends behind (after_call e a v).stand (after_call e b v).stand) (sym (shut_call socket c asked))
    (subst (λ v. IsAlike number ends behind (outboxes.after_shut e a v).stand (outboxes.after_shut e b b.stand).stand) (sym (is ∙ ap ending k.0)) tt)
call_by e socket until a b number ends behind c (refused n layer others) is k asked = absurd k
call_by e socket until a b number ends behind c all_out is k asked = cc

-- while the message alone asks for a call, it stands alike
pub all_alike : (e : Encoding) (socket until : ℕ) (a b : Outbox) (number : ℕ) (ends : Bool) (behind : List Accepted) (calls : List Call) → IsAlike number ends behind a.stand b.stand → AllAsked e socket until a calls →
    IsAlike number ends behind (after_calls e a calls).stand (after_calls e b calls).stand
all_alike e socket until a b number ends behind [] k asked = k
all_alike e socket until a b number ends behind (c ∷ calls) k asked =
    call_by e socket until (after_calls e a calls) (after_calls e b calls) number ends behind c (after_calls e a calls).stand refl
    (all_alike e socket until a b number ends behind calls k asked.1) asked.0

-- what is left of a message goes out next
left_next : (socket until : ℕ) (next b : Outbox) (number : ℕ) (ends : Bool) (rest : List ℕ) (behind : List Accepted) (r : Request) → 0 < length rest →
    asks_out socket until (with_rest next b number ends rest behind).stand ≡ Some r → asks (to_send socket rest until) ≡ asks r
left_next socket until next b number ends [] behind r some e = absurd (omega (arith, some))
left_next socket until next b number ends (y ∷ rest) behind r some e = cc

nothing_next : (socket until : ℕ) (alone : Outbox) (r : Request) → alone.stand ≡ all_out → asks_out socket until alone.stand ≡ Some r → ⊥
nothing_next socket until alone r h e = (let z : asks_out socket until all_out ≡ Some r = subst (λ v. asks_out socket until v ≡ Some r) h e in cc)

-- nothing is left of it, and yet the message alone asks: its side is to be ended
side_next : (x : Ends) (until : ℕ) (alone next a b : Outbox) (number : ℕ) (ends : Bool) (rest : List ℕ) (behind : List Accepted) (calls : List Call) (r : Request) → alone.stand ≡ all_out →
    asks_out x.from.socket until (with_rest alone a number ends [] []).stand ≡ Some r → asks_out x.from.socket until (with_rest next b number ends [] behind).stand ≡ Some r →
    turn_behind x (begun number ends rest behind) calls ≡ asks r
side_next x until alone next a b number true rest behind calls r h p q = cc
side_next x until alone next a b number false rest behind calls r h p q = absurd (nothing_next x.from.socket until alone r h p)

pub none_left : (count : ℕ) (rest : List ℕ) → nat_lt count (length rest) ≡ false → drop count rest ≡ []
none_left count rest e = empty (drop count rest) (let l = length-drop count rest in let few : length rest ≤ count = not_less count (length rest) e in omega (arith, l, few))
  where
    empty : (r : List ℕ) → length r ≡ 0 → r ≡ []
    empty [] e = refl
    empty (y ∷ r) e = absurd (omega (arith, e))

    not_less : (a b : ℕ) → nat_lt a b ≡ false → b ≤ a
    not_less a b e = ltb-false a b e

pub some_left : (count : ℕ) (rest : List ℕ) → nat_lt count (length rest) ≡ true → 0 < length (drop count rest)
some_left count rest e = (let l = length-drop count rest in let few : count < length rest = ltb-true count (length rest) e in omega (arith, l, few))

sent_next : (x : Ends) (e : Encoding) (until : ℕ) (a b : Outbox) (number : ℕ) (ends : Bool) (rest : List ℕ) (behind : List Accepted) (count m m' : ℕ) (t : Bool) (calls : List Call) (r : Request) → nat_lt count (length rest) ≡ t →
    asks_out x.from.socket until (after_taken e a count m (begun number ends rest [])).stand ≡ Some r → asks_out x.from.socket until (after_taken e b count m' (begun number ends rest behind)).stand ≡ Some r →
    (if t then asks (to_send x.from.socket (drop count rest) until) else turn_behind x (begun number ends rest behind) calls) ≡ asks r
sent_next x e until a b number ends rest behind count m m' true calls r test p q =
    left_next x.from.socket until (take_turn e m' (b.sent + 1) b.expired behind) (record b { moment = m' }) number ends (drop count rest) behind r (some_left count rest test) q
sent_next x e until a b number ends rest behind count m m' false calls r test p q =
    let none = none_left count rest test in
    side_next x until (take_turn e m (a.sent + 1) a.expired []) (take_turn e m' (b.sent + 1) b.expired behind) (record a { moment = m }) (record b { moment = m' }) number ends rest behind calls r refl
    (subst (λ (v : List ℕ). asks_out x.from.socket until (with_rest (take_turn e m (a.sent + 1) a.expired []) (record a { moment = m }) number ends v []).stand ≡ Some r) none p)
    (subst (λ (v : List ℕ). asks_out x.from.socket until (with_rest (take_turn e m' (b.sent + 1) b.expired behind) (record b { moment = m' }) number ends v behind).stand ≡ Some r) none q)

-- what comes behind an answer to a send that went on
answered_next : (x : Ends) (e : Encoding) (until : ℕ) (a b : Outbox) (number : ℕ) (ends : Bool) (rest : List ℕ) (behind : List Accepted) (answer : SendAnswer) (older : List Call) (r : Request) →
    is_stopped (sends x.from.socket rest until answer) ≡ false → a.stand ≡ begun number ends rest [] → b.stand ≡ begun number ends rest behind → (sending x older).stand ≡ b.stand →
    asks_out x.from.socket until (after_send e a answer).stand ≡ Some r → asks_out x.from.socket until (after_send e b answer).stand ≡ Some r →
    turn_after x (sends x.from.socket rest until answer) older ≡ asks r
answered_next x e until a b number ends rest behind (send.Sent count at) older r go h k same p q =
    let m = max a.moment at in
    let m' = max b.moment at in
    let calls = sends x.from.socket rest until (send.Sent count at) ∷ older in
    let now : (sending x older).stand ≡ begun number ends rest behind = same ∙ k in
    ap (λ v. if nat_lt count (length rest) then asks (to_send x.from.socket (drop count rest) until) else turn_behind x v calls) now
    ∙ sent_next x e until a b number ends rest behind count m m' (nat_lt count (length rest)) calls r refl
    (subst (λ v. asks_out x.from.socket until (after_taken e a count m v).stand ≡ Some r) h p)
    (subst (λ v. asks_out x.from.socket until (after_taken e b count m' v).stand ≡ Some r) k q)
answered_next x e until a b number ends rest behind (send.Timed at) older r go h k same p q = cc
answered_next x e until a b number ends rest behind (send.Failed cause) older r go h k same p q = cc

next_by : (x : Ends) (e : Encoding) (until : ℕ) (a b : Outbox) (number : ℕ) (ends : Bool) (behind : List Accepted) (c : Call) (older : List Call) (st : Stand) (r : Request) → a.stand ≡ st → IsAlike number ends behind st b.stand →
    asks_out x.from.socket until st ≡ Some (request_of c) → is_stopped c ≡ false → (sending x older).stand ≡ b.stand →
    asks_out x.from.socket until (after_call e a c).stand ≡ Some r → asks_out x.from.socket until (after_call e b c).stand ≡ Some r →
    turn_after x c older ≡ asks r
next_by x e until a b number ends behind c older (begun n en rest others) r is k asked go same p q =
    let call = send_call x.from.socket rest until c asked in
    subst (λ v. turn_after x v older ≡ asks r) (sym call.is)
    (answered_next x e until a b number ends rest behind call.answer older r (subst (λ v. is_stopped v ≡ false) call.is go) (is ∙ k.1) k.2 same
    (subst (λ v. asks_out x.from.socket until (after_call e a v).stand ≡ Some r) call.is p) (subst (λ v. asks_out x.from.socket until (after_call e b v).stand ≡ Some r) call.is q))
next_by x e until a b number ends behind c older (ending others) r is k asked go same p q =
    let shut = shut_call x.from.socket c asked in
    let here : asks_out x.from.socket until (outboxes.after_shut e a a.stand).stand ≡ Some r = subst (λ v. asks_out x.from.socket until (after_call e a v).stand ≡ Some r) shut p in
    let none : asks_out x.from.socket until (outboxes.after_shut e a (ending [])).stand ≡ Some r = subst (λ v. asks_out x.from.socket until (outboxes.after_shut e a v).stand ≡ Some r) (is ∙ ap ending k.0) here in
    cc
next_by x e until a b number ends behind c older (refused n layer others) r is k asked go same p q = absurd k
next_by x e until a b number ends behind c older all_out r is k asked go same p q = cc

-- of what a message that is alone stands alike to, no more messages are behind than before
abbrev pub count_behind : Stand → ℕ
count_behind (begun number ends rest behind) = 1 + length behind
count_behind (ending behind) = 1 + length behind
count_behind (refused number layer behind) = 1 + length behind
count_behind all_out = 0

few_rest : (next box : Outbox) (number : ℕ) (ends : Bool) (rest : List ℕ) (behind : List Accepted) → count_behind next.stand ≤ length behind → count_behind (with_rest next box number ends rest behind).stand ≤ suc (length behind)
few_rest next box number true [] behind h = omega arith
few_rest next box number false [] behind h = omega (arith, h)
few_rest next box number ends (y ∷ rest) behind h = omega arith

few_refused : (r : Option ℕ) (box opened : Outbox) (number : ℕ) (behind : List Accepted) → count_behind opened.stand ≤ suc (length behind) → count_behind (turn_by r box number behind opened).stand ≤ suc (length behind)
few_refused (Some layer) box opened number behind h = omega arith
few_refused None box opened number behind h = h

few_expired : (b : Bool) (passed opened : Outbox) (n : ℕ) → count_behind passed.stand ≤ n → count_behind opened.stand ≤ suc n → count_behind (if b then passed else opened).stand ≤ suc n
few_expired true passed opened n h k = omega (arith, h)
few_expired false passed opened n h k = k

pub few_behind : (e : Encoding) (at sent : ℕ) (expired : Option ℕ) (messages : List Accepted) → count_behind (take_turn e at sent expired messages).stand ≤ length messages
few_behind e at sent expired [] = omega arith
few_behind e at sent expired (m ∷ behind) =
    let box : Outbox = record { stand = all_out; sent = sent; expired = expired; moment = at } in
    let next : Outbox = take_turn e at (sent + 1) expired behind in
    let opened : Outbox = with_rest next box m.number (e.ends m.message.props.is_final) (e.bytes sent m.message.body) behind in
    few_expired (has_expired m at) (take_turn e at sent (Some (or_else expired m.number)) behind) (turn_by (e.refusal sent m.message.body) box m.number behind opened) (length behind)
    (few_behind e at sent (Some (or_else expired m.number)) behind)
    (few_refused (e.refusal sent m.message.body) box opened m.number behind
    (few_rest next box m.number (e.ends m.message.props.is_final) (e.bytes sent m.message.body) behind (few_behind e at (sent + 1) expired behind)))

-- so that the message is out, where its turn left what stands behind it
pub is_out : (number : ℕ) (ends : Bool) (behind : List Accepted) (alone real : Stand) → IsAlike number ends behind alone real → count_behind real ≤ length behind → alone ≡ all_out
is_out number ends behind (begun n e rest others) real k h = absurd (let z = ap count_behind k.2 in omega (arith, z, h))
is_out number ends behind (ending others) real k h = absurd (let z = ap count_behind k.2 in omega (arith, z, h))
is_out number ends behind (refused n layer others) real k h = absurd k
is_out number ends behind all_out real k h = refl

-- the newest call took all that was left
whole_by : (x : Ends) (until : ℕ) (next a : Outbox) (number : ℕ) (ends : Bool) (rest others behind : List ℕ) (queue : List Accepted) (count at : ℕ) (older : List Call) (t : Bool) → nat_lt count (length rest) ≡ t → drop count rest ≡ others →
    (with_rest next a number ends others []).stand ≡ all_out → (sending x older).stand ≡ begun number ends rest queue → HasGone x (sends x.from.socket rest until (send.Sent count at) ∷ older) (one_if queue)
whole_by x until next a number ends rest [] behind queue count at older true test left out now = absurd (let some = some_left count rest test in let none = ap (λ (l : List ℕ). length l) left in omega (arith, some, none))
whole_by x until next a number true rest [] behind queue count at older false test left out now = cc
whole_by x until next a number false rest [] behind queue count at older false test left out now =
    let calls = sends x.from.socket rest until (send.Sent count at) ∷ older in
    let waits : waiting x calls ≡ one_if queue = ap (λ b. if b then 1 else one_if (queued_behind (sending x older).stand)) test ∙ ap (λ v. one_if (queued_behind v)) now in
    record {
      turn = ap (λ b. if b then asks (to_send x.from.socket (drop count rest) until) else turn_behind x (sending x older).stand calls) test
          ∙ (ap (λ v. turn_behind x v calls) now ∙ ap (λ v. turn_then x v calls) waits);
      waits = waits;
      newest = refl;
    }
whole_by x until next a number ends rest (y ∷ others) behind queue count at older t test left out now = cc

gone_answered : (x : Ends) (e : Encoding) (until : ℕ) (a : Outbox) (number : ℕ) (ends : Bool) (rest : List ℕ) (behind : List Accepted) (answer : SendAnswer) (older : List Call) →
    a.stand ≡ begun number ends rest [] → (sending x older).stand ≡ begun number ends rest behind → (after_send e a answer).stand ≡ all_out → HasGone x (sends x.from.socket rest until answer ∷ older) (one_if behind)
gone_answered x e until a number ends rest behind (send.Sent count at) older h now out =
    let m = max a.moment at in
    whole_by x until (take_turn e m (a.sent + 1) a.expired []) (record a { moment = m }) number ends rest (drop count rest) [] behind count at older (nat_lt count (length rest)) refl refl
    (subst (λ v. (after_taken e a count m v).stand ≡ all_out) h out) now
gone_answered x e until a number ends rest behind (send.Timed at) older h now out = cc
gone_answered x e until a number ends rest behind (send.Failed cause) older h now out = cc

gone_by : (x : Ends) (e : Encoding) (until : ℕ) (a b : Outbox) (number : ℕ) (ends : Bool) (behind : List Accepted) (c : Call) (older : List Call) (st : Stand) → a.stand ≡ st → IsAlike number ends behind st b.stand →
    asks_out x.from.socket until st ≡ Some (request_of c) → (sending x older).stand ≡ b.stand → (after_call e a c).stand ≡ all_out → HasGone x (c ∷ older) (one_if behind)
gone_by x e until a b number ends behind c older (begun n en rest others) is k asked same out =
    let call = send_call x.from.socket rest until c asked in
    subst (λ v. HasGone x (v ∷ older) (one_if behind)) (sym call.is)
    (gone_answered x e until a number ends rest behind call.answer older (is ∙ k.1) (same ∙ k.2) (subst (λ v. (after_call e a v).stand ≡ all_out) call.is out))
gone_by x e until a b number ends behind c older (ending others) is k asked same out =
    let waits : waiting x (shuts x.from.socket ∷ older) ≡ one_if behind = ap (λ v. one_if (queued_behind v)) (same ∙ k.2) in
    subst (λ v. HasGone x (v ∷ older) (one_if behind)) (sym (shut_call x.from.socket c asked))
    (record { turn = ap (λ v. turn_then x v (shuts x.from.socket ∷ older)) waits; waits = waits; newest = refl })
gone_by x e until a b number ends behind c older (refused n layer others) is k asked same out = absurd k
gone_by x e until a b number ends behind c older all_out is k asked same out = cc

-- the turn of the sending end
module _ (x : Ends) (calls : List Call) (until number : ℕ) (ends : Bool) (behind : List Accepted) (alone : Outbox) (alike : IsAlike number ends behind alone.stand (sending x calls).stand) where
  abbrev Asked : List Call → Type 0
  Asked more = AllAsked x.from.encoding x.from.socket until (sending x calls) more

  abbrev AskedAlone : List Call → Type 0
  AskedAlone more = AllAsked x.from.encoding x.from.socket until alone more

  pub box_after : (more : List Call) → Asked more → sending x (more ++ calls) ≡ after_calls x.from.encoding (sending x calls) more
  box_after more a = ap (outbox_of x) (run_here x.from.encoding x.from.socket until (sending x calls) more calls a) ∙ after_behind x.from.encoding (first_box x) more (calls_on x.from.socket calls)

  older_alike : (more : List Call) → AskedAlone more → IsAlike number ends behind (after_calls x.from.encoding alone more).stand (after_calls x.from.encoding (sending x calls) more).stand
  older_alike more o = all_alike x.from.encoding x.from.socket until alone (sending x calls) number ends behind more alike o

  pub in_turn_run : ((r : Request) → asks_out x.from.socket until (sending x calls).stand ≡ Some r → turn_loop x calls ≡ asks r) → IsInTurn (turn_loop x) calls →
      (more : List Call) → Asked more → AskedAlone more → OthersGo more → IsInTurn (turn_loop x) (more ++ calls)
  in_turn_run first before [] a o g = before
  in_turn_run first before (c ∷ []) a o g = (first (request_of c) a.0, before)
  in_turn_run first before (c ∷ d ∷ more) a o g = (
    next_by x x.from.encoding until (after_calls x.from.encoding alone more) (after_calls x.from.encoding (sending x calls) more) number ends behind d (more ++ calls) (after_calls x.from.encoding alone more).stand (request_of c) refl
        (older_alike more o.1.1) o.1.0 g.0 (ap (λ (v : Outbox). v.stand) (box_after more a.1.1)) o.0 a.0,
    in_turn_run first before (d ∷ more) a.1 o.1 g.1,
  )

  -- all of the message was taken
  pub gone : (more : List Call) → Asked more → AskedAlone more → (alone.stand ≡ all_out → ⊥) → count_behind (after_calls x.from.encoding (sending x calls) more).stand ≤ length behind → HasGone x (more ++ calls) (one_if behind)
  gone [] a o some few = absurd (some (is_out number ends behind alone.stand (sending x calls).stand alike few))
  gone (c ∷ more) a o some few =
      gone_by x x.from.encoding until (after_calls x.from.encoding alone more) (after_calls x.from.encoding (sending x calls) more) number ends behind c (more ++ calls) (after_calls x.from.encoding alone more).stand refl
      (older_alike more o.1) o.0 (ap (λ (v : Outbox). v.stand) (box_after more a.1))
      (is_out number ends behind (after_calls x.from.encoding alone (c ∷ more)).stand (after_calls x.from.encoding (sending x calls) (c ∷ more)).stand (older_alike (c ∷ more) o) few)

-- a call was timed, before the deadline or not
pub timed_on : (x : Ends) (socket : ℕ) (bytes : List ℕ) (until at : ℕ) (older : List Call) → nat_le x.from.until at ≡ false → HasGone x (sends socket bytes until (send.Timed at) ∷ older) 1
timed_on x socket bytes until at older early =
    record {
      turn = ap (λ b. if b then over outcome.Timed else turn_then x 1 (sends socket bytes until (send.Timed at) ∷ older)) early;
      waits = refl;
      newest = refl;
    }

pub timed_over : (x : Ends) (socket : ℕ) (bytes : List ℕ) (until at : ℕ) (older : List Call) → nat_le x.from.until at ≡ true → turn_loop x (sends socket bytes until (send.Timed at) ∷ older) ≡ over outcome.Timed
timed_over x socket bytes until at older late = ap (λ b. if b then over outcome.Timed else turn_then x 1 (sends socket bytes until (send.Timed at) ∷ older)) late
