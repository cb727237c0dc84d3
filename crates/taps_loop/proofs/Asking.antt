-- What each turn of the two ends asks of which socket.
use Rattle.std.proofs.Common.{◌≡◌, ◌≢◌, ℕ, ◌+◌, ◌<◌, Bool, true, false, ◌==◌, List, [], ◌∷◌, length, drop, refl, sym, ap, subst, ◌∙◌, arith}
use Rattle.std.specs.Prelude.{max, nat_lt, nat_le, if◌then◌else◌}
use Rattle.taps_message.specs.declared.accepted.Accepted.{Accepted}
use Rattle.taps_socket.specs.declared.answers.SendAnswer.{SendAnswer}
use Rattle.taps_socket.specs.declared.answers.SendAnswer.TheVariants as send
use Rattle.taps_socket.specs.declared.answers.RecvAnswer.{RecvAnswer}
use Rattle.taps_socket.specs.declared.answers.RecvAnswer.TheVariants as recv
use Rattle.taps_socket.specs.Calls.{Call, begins, starts, waits, closes, listens, accepts, sends, shuts, receives, Request, to_send, to_shut, to_receive, request_of}
use Rattle.taps_connection.specs.Outboxes.{Stand, begun, ending, refused, all_out, Outbox, with_rest, take_turn, after_taken, after_send, after_call}
use Rattle.taps_exchange.specs.declared.outcome.Outcome.{Outcome}
use Rattle.taps_exchange.specs.declared.outcome.Outcome.TheVariants as outcome
use Rattle.taps_exchange.specs.Decodings.{Hearing, enough, lacks, breaks}
use Rattle.taps_exchange.specs.Members.{calls_on, outbox_after}
use Rattle.taps_exchange.specs.Turns.{Turn, asks, over, turn_in, turn_out, done_or, IsInTurn}
use Rattle.taps_loop.specs.Loops.{Ends, sending, waiting, peer_ended, hearing, at_once, soon, until_by, turn_sending, turn_then, unless_cut, turn_next, turn_behind, turn_by, turn_loop}
use Rattle.taps_loop.proofs.Own.{here, elsewhere, same_number, other_number}
use Rattle.taps_loop.proofs.Running.{none_left, some_left}

-- a message with this rest is begun
pub record IsBegunWith (stand : Stand) (rest : List ℕ) : Type 0 where
  pub number : ℕ
  pub ends : Bool
  pub behind : List Accepted
  pub stands : stand ≡ begun number ends rest behind

-- the sending side is to be ended
pub record IsEndingSide (stand : Stand) : Type 0 where
  pub behind : List Accepted
  pub stands : stand ≡ ending behind

-- the initiating end sends what its outbox asks for, or ends its side; the accepted end receives
abbrev pub IsAsked : Ends → Stand → Request → Type 0
IsAsked x stand (to_send s bytes until) = (s ≡ x.from.socket) × IsBegunWith stand bytes
IsAsked x stand (to_shut s) = (s ≡ x.from.socket) × IsEndingSide stand
IsAsked x stand (to_receive s most until) = s ≡ x.to.socket
IsAsked x stand _ = ⊥

-- calls on the initiating end's socket, and on another
pub sends_here : (x : Ends) (s : ℕ) (bytes : List ℕ) (until : ℕ) (answer : SendAnswer) (calls : List Call) → s ≡ x.from.socket →
    calls_on x.from.socket (sends s bytes until answer ∷ calls) ≡ sends s bytes until answer ∷ calls_on x.from.socket calls
sends_here x s bytes until answer calls own =
    here x.from.socket (sends s bytes until answer) calls (subst (λ v. (v == x.from.socket) ≡ true) (sym own) (same_number x.from.socket))

pub shuts_here : (x : Ends) (s : ℕ) (calls : List Call) → s ≡ x.from.socket → calls_on x.from.socket (shuts s ∷ calls) ≡ shuts s ∷ calls_on x.from.socket calls
shuts_here x s calls own = here x.from.socket (shuts s) calls (subst (λ v. (v == x.from.socket) ≡ true) (sym own) (same_number x.from.socket))

pub receives_elsewhere : (x : Ends) (s most until : ℕ) (came : List ℕ) (answer : RecvAnswer) (calls : List Call) → x.to.socket ≢ x.from.socket → s ≡ x.to.socket →
    calls_on x.from.socket (receives s most until came answer ∷ calls) ≡ calls_on x.from.socket calls
receives_elsewhere x s most until came answer calls apart own =
    elsewhere x.from.socket (receives s most until came answer) calls (subst (λ v. (v == x.from.socket) ≡ false) (sym own) (other_number x.to.socket x.from.socket (λ e. apart (sym e))))

-- how the sending stands then
pub box_sent : (x : Ends) (s : ℕ) (bytes : List ℕ) (until : ℕ) (answer : SendAnswer) (calls : List Call) → s ≡ x.from.socket →
    sending x (sends s bytes until answer ∷ calls) ≡ after_send x.from.encoding (sending x calls) answer
box_sent x s bytes until answer calls own = ap (outbox_after x.from) (sends_here x s bytes until answer calls own)

pub box_shut : (x : Ends) (s : ℕ) (calls : List Call) → s ≡ x.from.socket → sending x (shuts s ∷ calls) ≡ after_call x.from.encoding (sending x calls) (shuts s)
box_shut x s calls own = ap (outbox_after x.from) (shuts_here x s calls own)

pub box_received : (x : Ends) (s most until : ℕ) (came : List ℕ) (answer : RecvAnswer) (calls : List Call) → x.to.socket ≢ x.from.socket → s ≡ x.to.socket →
    sending x (receives s most until came answer ∷ calls) ≡ sending x calls
box_received x s most until came answer calls apart own = ap (outbox_after x.from) (receives_elsewhere x s most until came answer calls apart own)

-- a turn of each end
out_asks : (x : Ends) (now : Stand) (until : ℕ) (stand : Stand) (others : Turn) (r : Request) → now ≡ stand → (others ≡ asks r → IsAsked x now r) →
    turn_out (record x.from { until = until }) 0 stand others ≡ asks r → IsAsked x now r
out_asks x now until (begun number ends rest behind) others r is go e =
    let a : to_send x.from.socket rest until ≡ r = cc in
    subst (IsAsked x now) a (refl, record { number = number; ends = ends; behind = behind; stands = is })
out_asks x now until (ending behind) others r is go e =
    let a : to_shut x.from.socket ≡ r = cc in
    subst (IsAsked x now) a (refl, record { behind = behind; stands = is })
out_asks x now until (refused number layer behind) others r is go e = cc
out_asks x now until all_out others r is go e = go e

in_asks : (x : Ends) (now : Stand) (until : ℕ) (ended : Bool) (h : Hearing) (others : Turn) (r : Request) → (others ≡ asks r → IsAsked x now r) →
    turn_in (record x.to { until = until }) ended h others ≡ asks r → IsAsked x now r
in_asks x now until ended (enough ms) others r go e = go e
in_asks x now until true (lacks ms unread) others r go e = cc
in_asks x now until false (lacks ms unread) others r go e =
    let a : to_receive x.to.socket (x.to.decoding.most x.to.piece unread) until ≡ r = cc in
    subst (IsAsked x now) a refl
in_asks x now until ended (breaks ms layer place) others r go e = cc

over_asks : (x : Ends) (now : Stand) (o : Outcome) (r : Request) → over o ≡ asks r → IsAsked x now r
over_asks x now o r e = cc

sending_asks : (x : Ends) (calls : List Call) (r : Request) → turn_sending x calls ≡ asks r → IsAsked x (sending x calls).stand r
sending_asks x calls r e =
    out_asks x (sending x calls).stand (until_by (hearing x 1 calls) (at_once x calls) (soon x calls)) (sending x calls).stand _ r refl
    (λ f. in_asks x (sending x calls).stand (soon x calls) (peer_ended x calls) (hearing x 0 calls) _ r (over_asks x (sending x calls).stand (done_or (sending x calls).expired 0 outcome.Done) r) f) e

then_asks : (x : Ends) (more : ℕ) (calls : List Call) (r : Request) → turn_then x more calls ≡ asks r → IsAsked x (sending x calls).stand r
then_asks x more calls r e = in_asks x (sending x calls).stand (soon x calls) (peer_ended x calls) (hearing x more calls) (turn_sending x calls) r (sending_asks x calls r) e

cut_asks : (x : Ends) (now : Stand) (ended : Bool) (h : Hearing) (others : Turn) (r : Request) → (others ≡ asks r → IsAsked x now r) → unless_cut ended h others ≡ asks r → IsAsked x now r
cut_asks x now ended (enough ms) others r go e = go e
cut_asks x now true (lacks ms unread) others r go e = cc
cut_asks x now false (lacks ms unread) others r go e = go e
cut_asks x now ended (breaks ms layer place) others r go e = cc

next_asks : (x : Ends) (calls : List Call) (r : Request) → turn_next x calls ≡ asks r → IsAsked x (sending x calls).stand r
next_asks x calls r e = cut_asks x (sending x calls).stand (peer_ended x calls) (hearing x (waiting x calls) calls) (turn_sending x calls) r (sending_asks x calls r) e

-- what is left of a message whose bytes were taken in part, or whole
pub rest_begun : (next box : Outbox) (number : ℕ) (ends : Bool) (rest : List ℕ) (behind : List Accepted) → 0 < length rest → (with_rest next box number ends rest behind).stand ≡ begun number ends rest behind
rest_begun next box number ends [] behind some = absurd (omega (arith, some))
rest_begun next box number ends (b ∷ rest) behind some = refl

pub side_ends : (next box : Outbox) (number : ℕ) (rest : List ℕ) (behind : List Accepted) → rest ≡ [] → (with_rest next box number true rest behind).stand ≡ ending behind
side_ends next box number [] behind e = refl
side_ends next box number (b ∷ rest) behind e = cc

-- behind a send of which bytes were taken
module _ (x : Ends) (bytes : List ℕ) (until count at : ℕ) (older : List Call) (r : Request) (b : IsBegunWith (sending x older).stand bytes) where
  abbrev calls : List Call
  calls = sends x.from.socket bytes until (send.Sent count at) ∷ older

  abbrev moment : ℕ
  moment = max (sending x older).moment at

  abbrev next : Outbox
  next = take_turn x.from.encoding moment ((sending x older).sent + 1) (sending x older).expired b.behind

  stands_now : (sending x calls).stand ≡ (with_rest next (record (sending x older) { moment = moment }) b.number b.ends (drop count bytes) b.behind).stand
  stands_now =
      ap (λ (v : Outbox). v.stand) (box_sent x x.from.socket bytes until (send.Sent count at) older refl)
      ∙ ap (λ v. (after_taken x.from.encoding (sending x older) count moment v).stand) b.stands

  left_asks : nat_lt count (length bytes) ≡ true → to_send x.from.socket (drop count bytes) until ≡ r → IsAsked x (sending x calls).stand r
  left_asks test e =
      subst (IsAsked x (sending x calls).stand) e (
        refl,
        record {
          number = b.number;
          ends = b.ends;
          behind = b.behind;
          stands = stands_now ∙ rest_begun next (record (sending x older) { moment = moment }) b.number b.ends (drop count bytes) b.behind (some_left count bytes test);
        },
      )

  behind_asks : (ends : Bool) → b.ends ≡ ends → nat_lt count (length bytes) ≡ false → turn_behind x (begun b.number ends bytes b.behind) calls ≡ asks r → IsAsked x (sending x calls).stand r
  behind_asks true is test e =
      let a : to_shut x.from.socket ≡ r = cc in
      subst (IsAsked x (sending x calls).stand) a (
        refl,
        record {
          behind = b.behind;
          stands = stands_now ∙ (ap (λ v. (with_rest next (record (sending x older) { moment = moment }) b.number v (drop count bytes) b.behind).stand) is
              ∙ side_ends next (record (sending x older) { moment = moment }) b.number (drop count bytes) b.behind (none_left count bytes test));
        },
      )
  behind_asks false is test e = then_asks x (waiting x calls) calls r e

  pub sent_asks : (test : Bool) → nat_lt count (length bytes) ≡ test → (if test then asks (to_send x.from.socket (drop count bytes) until) else turn_behind x (sending x older).stand calls) ≡ asks r →
      IsAsked x (sending x calls).stand r
  sent_asks true test e = left_asks test (cc)
  sent_asks false test e = behind_asks b.ends refl test (ap (λ v. turn_behind x v calls) (sym b.stands) ∙ e)

timed_asks : (x : Ends) (calls : List Call) (r : Request) (o : Outcome) (others : Turn) (late : Bool) → (others ≡ asks r → IsAsked x (sending x calls).stand r) →
    (if late then over o else others) ≡ asks r → IsAsked x (sending x calls).stand r
timed_asks x calls r o others true go e = cc
timed_asks x calls r o others false go e = go e

-- behind a send, by its answer
send_asks : (x : Ends) (bytes : List ℕ) (until : ℕ) (answer : SendAnswer) (older : List Call) (r : Request) → IsBegunWith (sending x older).stand bytes →
    turn_by x (sends x.from.socket bytes until answer) older ≡ asks r → IsAsked x (sending x (sends x.from.socket bytes until answer ∷ older)).stand r
send_asks x bytes until (send.Sent count at) older r b e = sent_asks x bytes until count at older r b (nat_lt count (length bytes)) refl e
send_asks x bytes until (send.Timed at) older r b e =
    timed_asks x (sends x.from.socket bytes until (send.Timed at) ∷ older) r outcome.Timed _ (nat_le x.from.until at) (then_asks x 1 (sends x.from.socket bytes until (send.Timed at) ∷ older) r) e
send_asks x bytes until (send.Failed cause) older r b e = cc

receive_asks : (x : Ends) (s most until : ℕ) (came : List ℕ) (answer : RecvAnswer) (older : List Call) (r : Request) →
    turn_by x (receives s most until came answer) older ≡ asks r → IsAsked x (sending x (receives s most until came answer ∷ older)).stand r
receive_asks x s most until came (recv.Got count at) older r e = next_asks x (receives s most until came (recv.Got count at) ∷ older) r e
receive_asks x s most until came recv.End older r e = next_asks x (receives s most until came recv.End ∷ older) r e
receive_asks x s most until came (recv.Timed at) older r e =
    timed_asks x (receives s most until came (recv.Timed at) ∷ older) r outcome.Timed _ _ (sending_asks x (receives s most until came (recv.Timed at) ∷ older) r) e
receive_asks x s most until came (recv.Failed cause) older r e = cc

call_asks : (x : Ends) (call : Call) (older : List Call) (r : Request) → IsAsked x (sending x older).stand (request_of call) → turn_by x call older ≡ asks r → IsAsked x (sending x (call ∷ older)).stand r
call_asks x (begins at) older r k e = absurd k
call_asks x (starts leaf target answer) older r k e = absurd k
call_asks x (waits until answer) older r k e = absurd k
call_asks x (closes socket) older r k e = absurd k
call_asks x (listens target answer) older r k e = absurd k
call_asks x (accepts listener until answer) older r k e = absurd k
call_asks x (sends s bytes until answer) older r k e =
    let P : ℕ → Type 0 = λ v. turn_by x (sends v bytes until answer) older ≡ asks r in
    let Q : ℕ → Type 0 = λ v. IsAsked x (sending x (sends v bytes until answer ∷ older)).stand r in
    subst Q (sym k.0) (send_asks x bytes until answer older r k.1 (subst P k.0 e))
call_asks x (shuts s) older r k e = then_asks x (waiting x (shuts s ∷ older)) (shuts s ∷ older) r e
call_asks x (receives s most until came answer) older r k e = receive_asks x s most until came answer older r e

-- what comes next asks so
pub loop_asks : (x : Ends) (calls : List Call) (r : Request) → IsInTurn (turn_loop x) calls → turn_loop x calls ≡ asks r → IsAsked x (sending x calls).stand r
loop_asks x [] r turn e = next_asks x [] r e
loop_asks x (call ∷ calls) r turn e = call_asks x call calls r (loop_asks x calls (request_of call) turn.1 turn.0) e
