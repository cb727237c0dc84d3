-- How the sending of an exchange may stand: of a begun message some bytes are left, and where the side is to be ended,
-- that comes next.
use Rattle.std.proofs.Common.{◌≡◌, ◌≢◌, ℕ, suc, ◌+◌, ◌<◌, ◌≤◌, ◌^◌, Bool, true, false, List, [], ◌∷◌, ◌++◌, length, drop, Option, Some, None, refl, sym, ap, subst, ◌∙◌, arith, length-append}
use Rattle.std.specs.Prelude.{map, max, nat_lt, if◌then◌else◌}
use Rattle.std.proofs.lemmas.List.{length-map}
use Rattle.taps_message.specs.declared.accepted.Accepted.{Accepted}
use Rattle.taps_message.specs.Expiry.{has_expired}
use Rattle.taps_socket.specs.declared.answers.SendAnswer.{SendAnswer}
use Rattle.taps_socket.specs.declared.answers.SendAnswer.TheVariants as send
use Rattle.taps_socket.specs.Calls.{Call, begins, starts, waits, closes, listens, accepts, sends, shuts, receives, to_send, to_shut, to_receive, request_of}
use Rattle.taps_connection.specs.Encodings.{Encoding}
use Rattle.taps_connection.specs.Outboxes.{Stand, begun, ending, refused, all_out, Outbox, or_else, with_rest, turn_by as stand_by, take_turn, after_taken, after_shut}
use Rattle.taps_exchange.specs.Members.{calls_on}
use Rattle.taps_exchange.specs.Turns.{Turn, asks, IsInTurn}
use Rattle.taps_exchange.specs.Written.{Turned, was_sent, was_expired, message_of, bodies_of, AreLeft}
use Rattle.taps_loop.specs.Loops.{Ends, sending, turn_behind, turn_by, turn_loop}
use Rattle.taps_loop.proofs.Running.{none_left, some_left}
use Rattle.taps_loop.proofs.Asking.{IsBegunWith, IsEndingSide, IsAsked, box_sent, box_shut, box_received, loop_asks}
use Rattle.taps_loop.proofs.LoopWritten.{IsWrittenSoFar, loop_written}

-- each message has bytes, up to a number of sent ones
abbrev pub AllHaveBytes : Encoding → Type 0
AllHaveBytes e = (sent : ℕ) (body : List ℕ) → sent < 2 ^ 64 → e.refusal sent body ≡ None → 1 ≤ length (e.bytes sent body)

-- some bytes of a begun message are left, and the side is not to be ended; or that comes next
abbrev pub StandsWell : Turn → ℕ → Stand → Type 0
StandsWell turn socket (begun number ends rest behind) = 0 < length rest
StandsWell turn socket (ending behind) = turn ≡ asks (to_shut socket)
StandsWell turn socket (refused number layer behind) = Unit {0}
StandsWell turn socket all_out = Unit {0}

abbrev IsOpen : Stand → Type 0
IsOpen (begun number ends rest behind) = 0 < length rest
IsOpen (ending behind) = ⊥
IsOpen (refused number layer behind) = Unit {0}
IsOpen all_out = Unit {0}

open_well : (turn : Turn) (socket : ℕ) (stand : Stand) → IsOpen stand → StandsWell turn socket stand
open_well turn socket (begun number ends rest behind) h = h
open_well turn socket (ending behind) h = absurd h
open_well turn socket (refused number layer behind) h = tt
open_well turn socket all_out h = tt

-- the next messages have their turn
rest_open : (next box : Outbox) (number : ℕ) (ends : Bool) (rest : List ℕ) (behind : List Accepted) → 0 < length rest → IsOpen (with_rest next box number ends rest behind).stand
rest_open next box number ends [] behind some = absurd (omega (arith, some))
rest_open next box number ends (b ∷ rest) behind some = some

opened_open : (r : Option ℕ) (box opened : Outbox) (number : ℕ) (behind : List Accepted) → (r ≡ None → IsOpen opened.stand) → IsOpen (stand_by r box number behind opened).stand
opened_open (Some layer) box opened number behind h = tt
opened_open None box opened number behind h = h refl

by_test : (b : Bool) (p q : Outbox) → IsOpen p.stand → IsOpen q.stand → IsOpen (if b then p else q).stand
by_test true p q h g = h
by_test false p q h g = g

turn_open : (e : Encoding) → AllHaveBytes e → (at sent : ℕ) (expired : Option ℕ) (messages : List Accepted) → sent + length messages < 2 ^ 64 → IsOpen (take_turn e at sent expired messages).stand
turn_open e some at sent expired [] few = tt
turn_open e some at sent expired (m ∷ behind) few =
    let box : Outbox = record { stand = all_out; sent = sent; expired = expired; moment = at } in
    let next : Outbox = take_turn e at (sent + 1) expired behind in
    let opened : Outbox = with_rest next box m.number (e.ends m.message.props.is_final) (e.bytes sent m.message.body) behind in
    by_test (has_expired m at) (take_turn e at sent (Some (or_else expired m.number)) behind) (stand_by (e.refusal sent m.message.body) box m.number behind opened)
    (turn_open e some at sent (Some (or_else expired m.number)) behind (omega arith))
    (opened_open (e.refusal sent m.message.body) box opened m.number behind
    (λ r. rest_open next box m.number (e.ends m.message.props.is_final) (e.bytes sent m.message.body) behind
    (let b = some sent m.message.body (omega arith) r in omega arith)))

-- no more messages were sent than had their turn
few_bodies : (turned : List Turned) → length (bodies_of turned) ≤ length turned
few_bodies [] = omega arith
few_bodies (was_sent m ∷ turned) = (let h = few_bodies turned in omega arith)
few_bodies (was_expired m ∷ turned) = (let h = few_bodies turned in omega arith)

pub few_sent : (messages left : List Accepted) (turned : List Turned) → messages ≡ map message_of turned ++ left → length (bodies_of turned) + length left ≤ length messages
few_sent messages left turned split =
    let all : length messages ≡ length (map message_of turned) + length left = ap (λ (v : List Accepted). length v) split ∙ length-append (map message_of turned) left in
    let same : length (map message_of turned) ≡ length turned = length-map turned message_of in
    let few = few_bodies turned in
    omega arith

module _ (x : Ends) (older : List Call) (some : AllHaveBytes x.from.encoding) (few : length x.from.messages < 2 ^ 32) (w : IsWrittenSoFar x (calls_on x.from.socket older)) where
  abbrev box : Outbox
  box = sending x older

  left_behind : (stand : Stand) (number : ℕ) (ends : Bool) (rest : List ℕ) (behind : List Accepted) → box.stand ≡ begun number ends rest behind → (box.sent + 1) + length behind < 2 ^ 64
  left_behind stand number ends rest behind is =
      let h = w.passed.written in
      let l : AreLeft x.from.encoding box.sent (begun number ends rest behind) h.front h.left = subst (λ v. AreLeft x.from.encoding box.sent v h.front h.left) is h.are_left in
      let left : length h.left ≡ suc (length behind) = ap (λ (v : List Accepted). length v) l.1.0 in
      let count : box.sent ≡ length (bodies_of h.turned) = h.count in
      let all = few_sent x.from.messages h.left h.turned h.split in
      omega arith

  left_ending : (behind : List Accepted) → box.stand ≡ ending behind → box.sent + length behind < 2 ^ 64
  left_ending behind is =
      let h = w.passed.written in
      let l : AreLeft x.from.encoding box.sent (ending behind) h.front h.left = subst (λ v. AreLeft x.from.encoding box.sent v h.front h.left) is h.are_left in
      let left : length h.left ≡ length behind = ap (λ (v : List Accepted). length v) l.1 in
      let count : box.sent ≡ length (bodies_of h.turned) = h.count in
      let all = few_sent x.from.messages h.left h.turned h.split in
      omega arith

  -- behind a send of which bytes were taken
  module _ (bytes : List ℕ) (until count at : ℕ) (b : IsBegunWith box.stand bytes) where
    abbrev calls : List Call
    calls = sends x.from.socket bytes until (send.Sent count at) ∷ older

    abbrev moment : ℕ
    moment = max box.moment at

    abbrev next : Outbox
    next = take_turn x.from.encoding moment (box.sent + 1) box.expired b.behind

    abbrev taken : Bool → Stand
    taken ends = (with_rest next (record box { moment = moment }) b.number ends (drop count bytes) b.behind).stand

    next_open : IsOpen next.stand
    next_open = turn_open x.from.encoding some moment (box.sent + 1) box.expired b.behind (left_behind box.stand b.number b.ends bytes b.behind b.stands)

    behind_well : (ends : Bool) (rest : List ℕ) → rest ≡ [] → (ends ≡ true → turn_by x (sends x.from.socket bytes until (send.Sent count at)) older ≡ asks (to_shut x.from.socket)) →
        StandsWell (turn_by x (sends x.from.socket bytes until (send.Sent count at)) older) x.from.socket (with_rest next (record box { moment = moment }) b.number ends rest b.behind).stand
    behind_well true [] e shut = shut refl
    behind_well false [] e shut = open_well _ x.from.socket next.stand next_open
    behind_well ends (y ∷ rest) e shut = cc

    side_next : (ends : Bool) → b.ends ≡ ends → nat_lt count (length bytes) ≡ false → ends ≡ true → turn_by x (sends x.from.socket bytes until (send.Sent count at)) older ≡ asks (to_shut x.from.socket)
    side_next true is test e =
        ap (λ v. if v then asks (to_send x.from.socket (drop count bytes) until) else turn_behind x box.stand calls) test
        ∙ (ap (λ v. turn_behind x v calls) b.stands ∙ ap (λ v. turn_behind x (begun b.number v bytes b.behind) calls) is)
    side_next false is test e = cc

    taken_well : (test : Bool) → nat_lt count (length bytes) ≡ test → StandsWell (turn_by x (sends x.from.socket bytes until (send.Sent count at)) older) x.from.socket (taken b.ends)
    taken_well true test = open_well _ x.from.socket (taken b.ends) (rest_open next (record box { moment = moment }) b.number b.ends (drop count bytes) b.behind (some_left count bytes test))
    taken_well false test = behind_well b.ends (drop count bytes) (none_left count bytes test) (side_next b.ends refl test)

    sent_well : StandsWell (turn_by x (sends x.from.socket bytes until (send.Sent count at)) older) x.from.socket (sending x calls).stand
    sent_well =
        let now : (sending x calls).stand ≡ taken b.ends =
        ap (λ (v : Outbox). v.stand) (box_sent x x.from.socket bytes until (send.Sent count at) older refl) ∙ ap (λ v. (after_taken x.from.encoding box count moment v).stand) b.stands in
        subst (StandsWell (turn_by x (sends x.from.socket bytes until (send.Sent count at)) older) x.from.socket) (sym now) (taken_well (nat_lt count (length bytes)) refl)

  -- behind another one, where the message stays begun
  same_well : (turn turn' : Turn) (stand : Stand) (bytes : List ℕ) → IsBegunWith stand bytes → StandsWell turn x.from.socket stand → StandsWell turn' x.from.socket stand
  same_well turn turn' stand bytes b h = subst (StandsWell turn' x.from.socket) (sym b.stands) (subst (StandsWell turn x.from.socket) b.stands h)

  send_well : (bytes : List ℕ) (until : ℕ) (answer : SendAnswer) → IsBegunWith box.stand bytes → StandsWell (turn_loop x older) x.from.socket box.stand →
      StandsWell (turn_by x (sends x.from.socket bytes until answer) older) x.from.socket (sending x (sends x.from.socket bytes until answer ∷ older)).stand
  send_well bytes until (send.Sent count at) b h = sent_well bytes until count at b
  send_well bytes until (send.Timed at) b h =
      subst (λ (v : Outbox). StandsWell (turn_by x (sends x.from.socket bytes until (send.Timed at)) older) x.from.socket v.stand) (sym (box_sent x x.from.socket bytes until (send.Timed at) older refl))
      (same_well (turn_loop x older) _ box.stand bytes b h)
  send_well bytes until (send.Failed cause) b h =
      subst (λ (v : Outbox). StandsWell (turn_by x (sends x.from.socket bytes until (send.Failed cause)) older) x.from.socket v.stand) (sym (box_sent x x.from.socket bytes until (send.Failed cause) older refl))
      (same_well (turn_loop x older) _ box.stand bytes b h)

  shut_well : (s : ℕ) → s ≡ x.from.socket → IsEndingSide box.stand → StandsWell (turn_by x (shuts s) older) x.from.socket (sending x (shuts s ∷ older)).stand
  shut_well s own b =
      let now : (sending x (shuts s ∷ older)).stand ≡ (take_turn x.from.encoding box.moment box.sent box.expired b.behind).stand =
      ap (λ (v : Outbox). v.stand) (box_shut x s older own) ∙ ap (λ v. (after_shut x.from.encoding box v).stand) b.stands in
      subst (StandsWell (turn_by x (shuts s) older) x.from.socket) (sym now)
      (open_well _ x.from.socket _ (turn_open x.from.encoding some box.moment box.sent box.expired b.behind (left_ending b.behind b.stands)))

  -- a receive does not come where the side is to be ended
  received_well : (turn : Turn) (s most until : ℕ) (stand : Stand) → turn_loop x older ≡ asks (to_receive s most until) → StandsWell (turn_loop x older) x.from.socket stand → StandsWell turn x.from.socket stand
  received_well turn s most until (begun number ends rest behind) e h = h
  received_well turn s most until (ending behind) e h = (let z : asks (to_receive s most until) ≡ asks (to_shut x.from.socket) = sym e ∙ h in cc)
  received_well turn s most until (refused number layer behind) e h = tt
  received_well turn s most until all_out e h = tt

  call_well : (call : Call) → x.to.socket ≢ x.from.socket → turn_loop x older ≡ asks (request_of call) → IsAsked x box.stand (request_of call) → StandsWell (turn_loop x older) x.from.socket box.stand →
      StandsWell (turn_by x call older) x.from.socket (sending x (call ∷ older)).stand
  call_well (begins at) apart e k h = absurd k
  call_well (starts leaf target answer) apart e k h = absurd k
  call_well (waits until answer) apart e k h = absurd k
  call_well (closes socket) apart e k h = absurd k
  call_well (listens target answer) apart e k h = absurd k
  call_well (accepts listener until answer) apart e k h = absurd k
  call_well (sends s bytes until answer) apart e k h =
      let P : ℕ → Type 0 = λ v. StandsWell (turn_by x (sends v bytes until answer) older) x.from.socket (sending x (sends v bytes until answer ∷ older)).stand in
      subst P (sym k.0) (send_well bytes until answer k.1 h)
  call_well (shuts s) apart e k h = shut_well s k.0 k.1
  call_well (receives s most until came answer) apart e k h =
      subst (λ (v : Outbox). StandsWell (turn_by x (receives s most until came answer) older) x.from.socket v.stand) (sym (box_received x s most until came answer older apart k))
      (received_well _ s most until box.stand e h)

pub stands_well : (x : Ends) (calls : List Call) → AllHaveBytes x.from.encoding → length x.from.messages < 2 ^ 32 → x.to.socket ≢ x.from.socket → IsInTurn (turn_loop x) calls →
    StandsWell (turn_loop x calls) x.from.socket (sending x calls).stand
stands_well x [] some few apart turn = open_well _ x.from.socket _ (turn_open x.from.encoding some x.from.accepted 0 None x.from.messages (omega arith))
stands_well x (call ∷ calls) some few apart turn =
    call_well x calls some few (loop_written x calls apart turn.1) call apart turn.0 (loop_asks x calls (request_of call) turn.1 turn.0) (stands_well x calls some few apart turn.1)
