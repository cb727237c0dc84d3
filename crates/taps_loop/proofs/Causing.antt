-- Each outcome of an exchange between both ends has its cause.
use Rattle.std.proofs.Common.{◌≡◌, ◌≤◌, ℕ, Bool, true, false, ◌&&◌, inl, inr, List, [], ◌∷◌, length, drop, Option, Some, None, refl, ap, subst, arith}
use Rattle.std.specs.Prelude.{◌==◌, nat_lt, nat_le, if◌then◌else◌}
use Rattle.std.proofs.lemmas.Bool.{leb-true, eqb-true}
use Rattle.taps_socket.specs.declared.item.Item.TheVariants as item
use Rattle.taps_socket.specs.declared.answers.SendAnswer.{SendAnswer}
use Rattle.taps_socket.specs.declared.answers.SendAnswer.TheVariants as send
use Rattle.taps_socket.specs.declared.answers.RecvAnswer.{RecvAnswer}
use Rattle.taps_socket.specs.declared.answers.RecvAnswer.TheVariants as recv
use Rattle.taps_socket.specs.Calls.{Call, begins, starts, waits, closes, listens, accepts, sends, shuts, receives, Request, to_send, request_of}
use Rattle.taps_connection.specs.Outboxes.{Stand, begun, ending, refused, all_out}
use Rattle.taps_framer.proofs.Bytes.{and-left, and-right}
use Rattle.taps_exchange.specs.declared.outcome.Outcome.{Outcome}
use Rattle.taps_exchange.specs.declared.outcome.Outcome.TheVariants as outcome
use Rattle.taps_exchange.specs.Decodings.{Hearing, enough, lacks, breaks}
use Rattle.taps_exchange.specs.Turns.{Turn, asks, over, turn_in, turn_out, done_or, IsInTurn}
use Rattle.taps_loop.specs.Loops.{Ends, sending, waiting, peer_ended, hearing, at_once, soon, until_by, turn_sending, turn_then, unless_cut, turn_next, turn_behind, turn_by, turn_loop}
use Rattle.taps_loop.specs.Judged.{HasHeardAll, EndsAtDeadline, HasLoopCause}
use Rattle.taps_loop.proofs.Asking.{IsAsked, loop_asks}

same_outcome : (o p : Outcome) → over o ≡ over p → o ≡ p
same_outcome o p e = cc

not_over : (r : Request) (o : Outcome) → asks r ≡ over o → ⊥
not_over r o e = cc

module _ (x : Ends) (calls : List Call) (o : Outcome) where
  -- no message is left, and all that were sent were heard
  done_cause : (first : Option ℕ) → (sending x calls).expired ≡ first → HasHeardAll x calls → done_or first 0 outcome.Done ≡ o → HasLoopCause x calls o
  done_cause None is h e = subst (HasLoopCause x calls) e (h, is)
  done_cause (Some number) is h e = subst (HasLoopCause x calls) e (h, is, refl)

  -- the accepted end hears
  in_cause : (more until : ℕ) (ended : Bool) (h : Hearing) (others : Turn) → more ≤ waiting x calls → peer_ended x calls ≡ ended → hearing x more calls ≡ h →
      ((ms : List (List ℕ)) → h ≡ enough ms → others ≡ over o → HasLoopCause x calls o) → turn_in (record x.to { until = until }) ended h others ≡ over o → HasLoopCause x calls o
  in_cause more until ended (enough ms) others few is heard go e = go ms refl e
  in_cause more until true (lacks ms unread) others few is heard go e =
      subst (HasLoopCause x calls) (same_outcome outcome.PeerEnded o e)
      (record { ended = is; more = more; at_most = few; messages = ms; unread = unread; heard = heard })
  in_cause more until false (lacks ms unread) others few is heard go e = absurd (not_over _ o e)
  in_cause more until ended (breaks ms layer place) others few is heard go e =
      subst (HasLoopCause x calls) (same_outcome (outcome.BadFrame (record { message = length ms; layer = layer; place = place })) o e)
      (record { more = more; at_most = few; messages = ms; layer = layer; place = place; heard = heard; told = refl })

  -- the initiating end sends
  out_cause : (until : ℕ) (stand : Stand) (others : Turn) → (sending x calls).stand ≡ stand → (stand ≡ all_out → others ≡ over o → HasLoopCause x calls o) →
      turn_out (record x.from { until = until }) 0 stand others ≡ over o → HasLoopCause x calls o
  out_cause until (begun number ends rest behind) others is go e = absurd (not_over _ o e)
  out_cause until (ending behind) others is go e = absurd (not_over _ o e)
  out_cause until (refused number layer behind) others is go e =
      subst (HasLoopCause x calls) (same_outcome (outcome.NotSpeakable 0 number layer) o e) ((behind, is), refl)
  out_cause until all_out others is go e = go refl e

  sending_cause : turn_sending x calls ≡ over o → HasLoopCause x calls o
  sending_cause e =
      out_cause (until_by (hearing x 1 calls) (at_once x calls) (soon x calls)) (sending x calls).stand _ refl
      (λ out f. in_cause 0 (soon x calls) (peer_ended x calls) (hearing x 0 calls) _ (omega arith) refl refl
      (λ ms h g. done_cause (sending x calls).expired refl (record { out = out; messages = ms; heard = h }) (same_outcome _ o g)) f) e

  then_cause : (more : ℕ) → more ≤ waiting x calls → turn_then x more calls ≡ over o → HasLoopCause x calls o
  then_cause more few e = in_cause more (soon x calls) (peer_ended x calls) (hearing x more calls) (turn_sending x calls) few refl refl (λ ms h f. sending_cause f) e

  cut_cause : (ended : Bool) (h : Hearing) → peer_ended x calls ≡ ended → hearing x (waiting x calls) calls ≡ h → unless_cut ended h (turn_sending x calls) ≡ over o → HasLoopCause x calls o
  cut_cause ended (enough ms) is heard e = sending_cause e
  cut_cause true (lacks ms unread) is heard e =
      subst (HasLoopCause x calls) (same_outcome outcome.PeerEnded o e)
      (record { ended = is; more = waiting x calls; at_most = omega arith; messages = ms; unread = unread; heard = heard })
  cut_cause false (lacks ms unread) is heard e = sending_cause e
  cut_cause ended (breaks ms layer place) is heard e =
      subst (HasLoopCause x calls) (same_outcome (outcome.BadFrame (record { message = length ms; layer = layer; place = place })) o e)
      (record { more = waiting x calls; at_most = omega arith; messages = ms; layer = layer; place = place; heard = heard; told = refl })

  next_cause : turn_next x calls ≡ over o → HasLoopCause x calls o
  next_cause e = cut_cause (peer_ended x calls) (hearing x (waiting x calls) calls) refl refl e

-- a timed call ends the exchange at the deadline
module _ (x : Ends) (older : List Call) (o : Outcome) where
  timed_send : (s : ℕ) (bytes : List ℕ) (until at : ℕ) → s ≡ x.from.socket → nat_le x.from.until at ≡ true → EndsAtDeadline x (sends s bytes until (send.Timed at) ∷ older)
  timed_send s bytes until at own late =
      record { call = sends s bytes until (send.Timed at); earlier = older; newest = refl; timed = _; told = refl; late = leb-true x.from.until at late; own = inl own }

  send_late : (s : ℕ) (bytes : List ℕ) (until at : ℕ) (late : Bool) → s ≡ x.from.socket → nat_le x.from.until at ≡ late →
      (if late then over outcome.Timed else turn_then x 1 (sends s bytes until (send.Timed at) ∷ older)) ≡ over o → HasLoopCause x (sends s bytes until (send.Timed at) ∷ older) o
  send_late s bytes until at true own is e =
      subst (HasLoopCause x (sends s bytes until (send.Timed at) ∷ older)) (same_outcome outcome.Timed o e) (timed_send s bytes until at own is)
  send_late s bytes until at false own is e = then_cause x (sends s bytes until (send.Timed at) ∷ older) o 1 (omega arith) e

  timed_receive : (s most until : ℕ) (came : List ℕ) (at : ℕ) → s ≡ x.to.socket → nat_le x.from.until at ≡ true → (waiting x (receives s most until came (recv.Timed at) ∷ older) == 0) ≡ true →
      EndsAtDeadline x (receives s most until came (recv.Timed at) ∷ older)
  timed_receive s most until came at own late none =
      record {
        call = receives s most until came (recv.Timed at);
        earlier = older;
        newest = refl;
        timed = _;
        told = refl;
        late = leb-true x.from.until at late;
        own = inr (own, eqb-true (waiting x (receives s most until came (recv.Timed at) ∷ older)) 0 none);
      }

  receive_late : (s most until : ℕ) (came : List ℕ) (at : ℕ) (late : Bool) → s ≡ x.to.socket → (nat_le x.from.until at && (waiting x (receives s most until came (recv.Timed at) ∷ older) == 0)) ≡ late →
      (if late then over outcome.Timed else turn_sending x (receives s most until came (recv.Timed at) ∷ older)) ≡ over o → HasLoopCause x (receives s most until came (recv.Timed at) ∷ older) o
  receive_late s most until came at true own is e =
      subst (HasLoopCause x (receives s most until came (recv.Timed at) ∷ older)) (same_outcome outcome.Timed o e)
      (timed_receive s most until came at own (and-left _ _ is) (and-right _ _ is))
  receive_late s most until came at false own is e = sending_cause x (receives s most until came (recv.Timed at) ∷ older) o e

  -- behind bytes that were taken
  behind_cause : (s : ℕ) (bytes : List ℕ) (until count at : ℕ) (stand : Stand) → turn_behind x stand (sends s bytes until (send.Sent count at) ∷ older) ≡ over o →
      HasLoopCause x (sends s bytes until (send.Sent count at) ∷ older) o
  behind_cause s bytes until count at (begun number true rest behind) e = absurd (not_over _ o e)
  behind_cause s bytes until count at (begun number false rest behind) e = then_cause x (sends s bytes until (send.Sent count at) ∷ older) o _ (omega arith) e
  behind_cause s bytes until count at (ending behind) e = then_cause x (sends s bytes until (send.Sent count at) ∷ older) o _ (omega arith) e
  behind_cause s bytes until count at (refused number layer behind) e = then_cause x (sends s bytes until (send.Sent count at) ∷ older) o _ (omega arith) e
  behind_cause s bytes until count at all_out e = then_cause x (sends s bytes until (send.Sent count at) ∷ older) o _ (omega arith) e

  sent_cause : (s : ℕ) (bytes : List ℕ) (until count at : ℕ) (test : Bool) →
      (if test then asks (to_send x.from.socket (drop count bytes) until) else turn_behind x (sending x older).stand (sends s bytes until (send.Sent count at) ∷ older)) ≡ over o →
      HasLoopCause x (sends s bytes until (send.Sent count at) ∷ older) o
  sent_cause s bytes until count at true e = absurd (not_over _ o e)
  sent_cause s bytes until count at false e = behind_cause s bytes until count at (sending x older).stand e

  send_cause : (s : ℕ) (bytes : List ℕ) (until : ℕ) (answer : SendAnswer) → s ≡ x.from.socket → turn_by x (sends s bytes until answer) older ≡ over o → HasLoopCause x (sends s bytes until answer ∷ older) o
  send_cause s bytes until (send.Sent count at) own e = sent_cause s bytes until count at (nat_lt count (length bytes)) e
  send_cause s bytes until (send.Timed at) own e = send_late s bytes until at (nat_le x.from.until at) own refl e
  send_cause s bytes until (send.Failed cause) own e =
      subst (HasLoopCause x (sends s bytes until (send.Failed cause) ∷ older)) (same_outcome (outcome.DataFailed cause) o e)
      (record { call = sends s bytes until (send.Failed cause); earlier = older; newest = refl; failed = inl (ap (λ v. item.DataFailed v true cause ∷ []) own) })

  receive_cause : (s most until : ℕ) (came : List ℕ) (answer : RecvAnswer) → s ≡ x.to.socket → turn_by x (receives s most until came answer) older ≡ over o → HasLoopCause x (receives s most until came answer ∷ older) o
  receive_cause s most until came (recv.Got count at) own e = next_cause x (receives s most until came (recv.Got count at) ∷ older) o e
  receive_cause s most until came recv.End own e = next_cause x (receives s most until came recv.End ∷ older) o e
  receive_cause s most until came (recv.Timed at) own e = receive_late s most until came at _ own refl e
  receive_cause s most until came (recv.Failed cause) own e =
      subst (HasLoopCause x (receives s most until came (recv.Failed cause) ∷ older)) (same_outcome (outcome.DataFailed cause) o e)
      (record { call = receives s most until came (recv.Failed cause); earlier = older; newest = refl; failed = inr (ap (λ v. item.DataFailed v false cause ∷ []) own) })

  call_cause : (call : Call) → IsAsked x (sending x older).stand (request_of call) → turn_by x call older ≡ over o → HasLoopCause x (call ∷ older) o
  call_cause (begins at) k e = absurd k
  call_cause (starts leaf target answer) k e = absurd k
  call_cause (waits until answer) k e = absurd k
  call_cause (closes socket) k e = absurd k
  call_cause (listens target answer) k e = absurd k
  call_cause (accepts listener until answer) k e = absurd k
  call_cause (sends s bytes until answer) k e = send_cause s bytes until answer k.0 e
  call_cause (shuts s) k e = then_cause x (shuts s ∷ older) o (waiting x (shuts s ∷ older)) (omega arith) e
  call_cause (receives s most until came answer) k e = receive_cause s most until came answer k e

pub loop_cause : (x : Ends) (calls : List Call) (o : Outcome) → IsInTurn (turn_loop x) calls → turn_loop x calls ≡ over o → HasLoopCause x calls o
loop_cause x [] o turn e = next_cause x [] o e
loop_cause x (call ∷ calls) o turn e = call_cause x calls o call (loop_asks x calls (request_of call) turn.1 turn.0) e
