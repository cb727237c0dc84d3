-- Call by call: what the initiating end wrote, and that the bytes go one way.
use Rattle.std.proofs.Common.{◌≡◌, ◌≢◌, ℕ, ◌+◌, ◌≤◌, true, false, List, [], ◌∷◌, None, refl, sym, subst, arith}
use Rattle.std.specs.Prelude.{◌==◌, max}
use Rattle.taps_socket.specs.declared.answers.SendAnswer.{SendAnswer}
use Rattle.taps_socket.specs.declared.answers.SendAnswer.TheVariants as send
use Rattle.taps_socket.specs.declared.answers.RecvAnswer.{RecvAnswer}
use Rattle.taps_socket.specs.Calls.{Call, begins, starts, waits, closes, listens, accepts, sends, shuts, receives, request_of}
use Rattle.taps_exchange.specs.Members.{calls_on, outbox_after, pieces_read}
use Rattle.taps_exchange.specs.Turns.{IsInTurn}
use Rattle.taps_exchange.specs.Written.{pieces_written, AllTookAll, HasSomeBytes}
use Rattle.taps_exchange.proofs.Writing.{IsPassed, turn_written}
use Rattle.taps_loop.proofs.SendSteps.{IsSoon, send_step, shut_step}
use Rattle.taps_loop.specs.Loops.{Ends, sending, turn_loop}
use Rattle.taps_loop.specs.Judged.{GoesOneWay}
use Rattle.taps_loop.proofs.Own.{here, elsewhere, same_number, other_number}
use Rattle.taps_loop.proofs.Asking.{IsBegunWith, IsEndingSide, IsAsked, sends_here, shuts_here, receives_elsewhere, loop_asks}

-- what these calls of the initiating end wrote is the messages sent and the front of the begun one, by some time
pub record IsWrittenSoFar (x : Ends) (own : List Call) : Type 0 where
  pub late : ℕ
  pub passed : IsPassed late x.from.encoding x.from.messages (outbox_after x.from own) (pieces_written own) (AllTookAll own × HasSomeBytes x.from.encoding)

soon_then : (late moment : ℕ) (answer : SendAnswer) → (u : ℕ) × ((late ≤ u) × IsSoon u moment answer)
soon_then late moment (send.Sent count at) = (late + max moment at, (omega arith, omega arith))
soon_then late moment (send.Timed at) = (late, (omega arith, tt))
soon_then late moment (send.Failed cause) = (late, (omega arith, tt))

module _ (x : Ends) (own : List Call) (w : IsWrittenSoFar x own) where
  written_sent : (s : ℕ) (bytes : List ℕ) (until : ℕ) (answer : SendAnswer) → IsBegunWith (outbox_after x.from own).stand bytes → IsWrittenSoFar x (sends s bytes until answer ∷ own)
  written_sent s bytes until answer b =
      let u = soon_then w.late (outbox_after x.from own).moment answer in
      record {
        late = u.0;
        passed = send_step w.late u.0 x.from.encoding x.from.messages (outbox_after x.from own) b.number b.ends bytes b.behind (pieces_written own)
            (AllTookAll own × HasSomeBytes x.from.encoding) (AllTookAll (sends s bytes until answer ∷ own) × HasSomeBytes x.from.encoding) answer
            (λ k. (k.0.1, k.1)) (λ k. k.0.0) (λ k. k.1) u.1.0 u.1.1 b.stands w.passed;
      }

  written_shut : (s : ℕ) → IsEndingSide (outbox_after x.from own).stand → IsWrittenSoFar x (shuts s ∷ own)
  written_shut s b =
      record {
        late = w.late + (outbox_after x.from own).moment;
        passed = shut_step w.late (w.late + (outbox_after x.from own).moment) x.from.encoding x.from.messages (outbox_after x.from own) b.behind (pieces_written own)
            (AllTookAll own × HasSomeBytes x.from.encoding) (λ k. k.1) (omega arith) (omega arith) b.stands w.passed;
      }

-- one call more
written_call : (x : Ends) (call : Call) (older : List Call) → x.to.socket ≢ x.from.socket → IsAsked x (sending x older).stand (request_of call) → IsWrittenSoFar x (calls_on x.from.socket older) →
    IsWrittenSoFar x (calls_on x.from.socket (call ∷ older))
written_call x (begins at) older apart k w = absurd k
written_call x (starts leaf target answer) older apart k w = absurd k
written_call x (waits until answer) older apart k w = absurd k
written_call x (closes socket) older apart k w = absurd k
written_call x (listens target answer) older apart k w = absurd k
written_call x (accepts listener until answer) older apart k w = absurd k
written_call x (sends s bytes until answer) older apart k w =
    subst (IsWrittenSoFar x) (sym (sends_here x s bytes until answer older k.0)) (written_sent x (calls_on x.from.socket older) w s bytes until answer k.1)
written_call x (shuts s) older apart k w =
    subst (IsWrittenSoFar x) (sym (shuts_here x s older k.0)) (written_shut x (calls_on x.from.socket older) w s k.1)
written_call x (receives s most until came answer) older apart k w =
    subst (IsWrittenSoFar x) (sym (receives_elsewhere x s most until came answer older apart k)) w

pub loop_written : (x : Ends) (calls : List Call) → x.to.socket ≢ x.from.socket → IsInTurn (turn_loop x) calls → IsWrittenSoFar x (calls_on x.from.socket calls)
loop_written x [] apart turn =
    record {
      late = x.from.accepted;
      passed = turn_written x.from.accepted x.from.encoding x.from.messages x.from.accepted 0 None x.from.messages [] (AllTookAll [] × HasSomeBytes x.from.encoding) (omega arith) (λ k. k.1)
          (record { turned = []; split = refl; bytes = refl; apart = λ k. refl; encoded = tt; count = refl; first = refl; passed = tt });
    }
loop_written x (call ∷ calls) apart turn =
    written_call x call calls apart (loop_asks x calls (request_of call) turn.1 turn.0) (loop_written x calls apart turn.1)

-- the other socket's calls
sent_elsewhere : (x : Ends) (s : ℕ) (bytes : List ℕ) (until : ℕ) (answer : SendAnswer) (older : List Call) → x.to.socket ≢ x.from.socket → s ≡ x.from.socket →
    calls_on x.to.socket (sends s bytes until answer ∷ older) ≡ calls_on x.to.socket older
sent_elsewhere x s bytes until answer older apart own =
    elsewhere x.to.socket (sends s bytes until answer) older (subst (λ v. (v == x.to.socket) ≡ false) (sym own) (other_number x.from.socket x.to.socket apart))

shut_elsewhere : (x : Ends) (s : ℕ) (older : List Call) → x.to.socket ≢ x.from.socket → s ≡ x.from.socket → calls_on x.to.socket (shuts s ∷ older) ≡ calls_on x.to.socket older
shut_elsewhere x s older apart own =
    elsewhere x.to.socket (shuts s) older (subst (λ v. (v == x.to.socket) ≡ false) (sym own) (other_number x.from.socket x.to.socket apart))

received_here : (x : Ends) (s most until : ℕ) (came : List ℕ) (answer : RecvAnswer) (older : List Call) → s ≡ x.to.socket →
    calls_on x.to.socket (receives s most until came answer ∷ older) ≡ receives s most until came answer ∷ calls_on x.to.socket older
received_here x s most until came answer older own =
    here x.to.socket (receives s most until came answer) older (subst (λ v. (v == x.to.socket) ≡ true) (sym own) (same_number x.to.socket))

-- one call more goes the same way
one_way_call : (x : Ends) (call : Call) (older : List Call) → x.to.socket ≢ x.from.socket → IsAsked x (sending x older).stand (request_of call) → GoesOneWay x older → GoesOneWay x (call ∷ older)
one_way_call x (begins at) older apart k w = absurd k
one_way_call x (starts leaf target answer) older apart k w = absurd k
one_way_call x (waits until answer) older apart k w = absurd k
one_way_call x (closes socket) older apart k w = absurd k
one_way_call x (listens target answer) older apart k w = absurd k
one_way_call x (accepts listener until answer) older apart k w = absurd k
one_way_call x (sends s bytes until answer) older apart k w =
    record {
      reads_none = subst (λ v. pieces_read v ≡ []) (sym (sends_here x s bytes until answer older k.0)) w.reads_none;
      writes_none = subst (λ v. pieces_written v ≡ []) (sym (sent_elsewhere x s bytes until answer older apart k.0)) w.writes_none;
    }
one_way_call x (shuts s) older apart k w =
    record {
      reads_none = subst (λ v. pieces_read v ≡ []) (sym (shuts_here x s older k.0)) w.reads_none;
      writes_none = subst (λ v. pieces_written v ≡ []) (sym (shut_elsewhere x s older apart k.0)) w.writes_none;
    }
one_way_call x (receives s most until came answer) older apart k w =
    record {
      reads_none = subst (λ v. pieces_read v ≡ []) (sym (receives_elsewhere x s most until came answer older apart k)) w.reads_none;
      writes_none = subst (λ v. pieces_written v ≡ []) (sym (received_here x s most until came answer older k)) w.writes_none;
    }

pub loop_one_way : (x : Ends) (calls : List Call) → x.to.socket ≢ x.from.socket → IsInTurn (turn_loop x) calls → GoesOneWay x calls
loop_one_way x [] apart turn = record { reads_none = refl; writes_none = refl }
loop_one_way x (call ∷ calls) apart turn =
    one_way_call x call calls apart (loop_asks x calls (request_of call) turn.1 turn.0) (loop_one_way x calls apart turn.1)
