-- Which member of a group gives the outcome of its exchange its cause.
use Rattle.std.proofs.Common.{◌≡◌, ℕ, zero, suc, ◌+◌, ◌<◌, cond, List, [], ◌∷◌, slice_get, Option, Some, None, refl, sym, ap, ◌∙◌, subst, arith}
use Rattle.taps_chain.specs.declared.heard.BadAt.{BadAt}
use Rattle.taps_message.specs.declared.accepted.Accepted.{Accepted}
use Rattle.taps_socket.specs.declared.answers.SendAnswer.TheVariants as send
use Rattle.taps_socket.specs.declared.answers.RecvAnswer.TheVariants as recv
use Rattle.taps_socket.specs.declared.cause.Cause.{Cause}
use Rattle.taps_socket.specs.Calls.{Call, sends, receives, shuts, closes, begins, starts, waits, listens, accepts, request_of}
use Rattle.taps_socket.specs.Once.{IsOnce}
use Rattle.taps_connection.specs.Outboxes.{Stand, begun, ending, refused, all_out}
use Rattle.taps_exchange.specs.declared.outcome.Outcome.{Outcome}
use Rattle.taps_exchange.specs.declared.outcome.Outcome.TheVariants as outcome
use Rattle.taps_exchange.specs.Members.{Member, calls_on, has_ended, outbox_after, hearing_after}
use Rattle.taps_exchange.specs.Outcomes.{HasHeardEnough, IsJudged}
use Rattle.taps_exchange.specs.Turns.{Turn, asks, over, Place, Waiting, stand_of, waiting_by, next_sender, turn_sending, turn_out, turn_in, turns_in, done_or, outcome_by, turn_alone, turn_of_group, IsInTurn, stop, stop_by, unless}
use Rattle.taps_exchange.proofs.Expiring.{in_time}
use Rattle.taps_exchange.proofs.Judging as alone
use Rattle.taps_exchange.proofs.WritingCalls.{written}
use Rattle.taps_group_exchange.specs.GroupExchanges.{sockets_in}
use Rattle.taps_group_exchange.specs.MemberLaws.{own_calls, EachOwn, AllFinished, EndsAt, EndsHearing, EndsNewest, HasMemberCause, JudgesMembers}
use Rattle.taps_group_exchange.proofs.GroupJudging.{same_over, turn_behind}
use Rattle.taps_group_exchange.proofs.OwnTurns.{AskedOf, Waits, it_asks, it_ended, it_is_bad, it_has, asked_of, asked_on, heard_so, hears_now, hears_so, out_there, own_in_turn, own_stop, waits_there}

own_exchange : (places : List Place) (calls : List Call) → IsOnce (sockets_in places) → IsInTurn (turn_of_group places) calls → EachOwn places calls
own_exchange places calls once t place p there =
    let own = own_calls calls p in
    let in_turn = own_in_turn places once place p there calls t in
    let w = written p.member own in_turn in
    record {
      in_turn = in_turn;
      written = w.written;
      in_time = in_time p.member own w.written.turned in_turn w.passed;
      items = alone.items_are p.member own in_turn;
      heard = refl;
    }

-- the newest call was timed or failed
data Stopped (o : Outcome) : Type 0 where
  was_timed : o ≡ outcome.Timed → Stopped o
  had_failed : (cause : Cause) → o ≡ outcome.DataFailed cause → Stopped o

same_some : (x y : Outcome) → Some x ≡ Some y → x ≡ y
same_some x y e = cc

not_stopped : {A : Type 0} (o : Outcome) → None ≡ Some o → A
not_stopped o e = absurd (let none : Option Outcome = None in let z : none ≡ Some o = e in cc)

stopped_by : (c : Call) (o : Outcome) → stop_by c ≡ Some o → Stopped o
stopped_by (sends s b u (send.Timed at)) o e = was_timed (sym (same_some outcome.Timed o e))
stopped_by (sends s b u (send.Failed cause)) o e = had_failed cause (sym (same_some (outcome.DataFailed cause) o e))
stopped_by (sends s b u (send.Sent count at)) o e = not_stopped o e
stopped_by (receives s most u came (recv.Timed at)) o e = was_timed (sym (same_some outcome.Timed o e))
stopped_by (receives s most u came (recv.Failed cause)) o e = had_failed cause (sym (same_some (outcome.DataFailed cause) o e))
stopped_by (receives s most u came (recv.Got count at)) o e = not_stopped o e
stopped_by (receives s most u came recv.End) o e = not_stopped o e
stopped_by (shuts s) o e = not_stopped o e
stopped_by (closes s) o e = not_stopped o e
stopped_by (begins at) o e = not_stopped o e
stopped_by (starts l t a) o e = not_stopped o e
stopped_by (waits u a) o e = not_stopped o e
stopped_by (listens t a) o e = not_stopped o e
stopped_by (accepts l u a) o e = not_stopped o e

-- and so it ends its member's exchange alone
alone_stop : (m : Member) (c : Call) (calls : List Call) (o : Outcome) → stop_by c ≡ Some o → turn_alone m (c ∷ calls) ≡ over o
alone_stop m c calls o e =
    ap (λ s. unless s (turn_out m 0 (outbox_after m (c ∷ calls)).stand (turn_in m (has_ended (c ∷ calls)) (hearing_after m (c ∷ calls)) (over (done_or (outbox_after m (c ∷ calls)).expired 0 outcome.Done))))) e

-- a layer refused the message of the next sender
record Refuses (p : Place) (n : ℕ) (st : Stand) (o : Outcome) : Type 0 where
  number : ℕ
  layer : ℕ
  behind : List Accepted
  stands : st ≡ refused number layer behind
  told : o ≡ outcome.NotSpeakable n number layer

refuses : (p : Place) (n : ℕ) (st : Stand) (w : Waiting) (others : Turn) (o : Outcome) → waiting_by p n st ≡ Some w → turn_out w.place.member w.number w.stand others ≡ over o → Refuses p n st o
refuses p n (begun number ends rest behind) w others o is e = absurd (cc)
refuses p n (ending behind) w others o is e = absurd (cc)
refuses p n (refused number layer behind) w others o is e =
    record { number = number; layer = layer; behind = behind; stands = refl; told = (let x : over (outcome.NotSpeakable n number layer) ≡ over o = cc in sym (same_over (outcome.NotSpeakable n number layer) o x)) }
refuses p n all_out w others o is e = absurd (let none : Option Waiting = None in let z : none ≡ Some w = is in cc)

-- each member before a place heard enough
abbrev EnoughBefore : List Call → List Place → ℕ → Type 0
EnoughBefore calls places end = (j : ℕ) (q : Place) → j < end → slice_get places j ≡ Some q → HasHeardEnough q.member (own_calls calls q)

enough_more : (calls : List Call) (p : Place) (places : List Place) (end : ℕ) → HasHeardEnough p.member (own_calls calls p) → EnoughBefore calls places end → EnoughBefore calls (p ∷ places) (suc end)
enough_more calls p places end here before zero q less there = (let same : p ≡ q = cc in subst (λ v. HasHeardEnough v.member (own_calls calls v)) same here)
enough_more calls p places end here before (suc j) q less there = before j q (omega (arith, less)) there

-- the members heard: one of them ended the exchange, or all heard enough
data HeardSo (calls : List Call) (places : List Place) (others o : Outcome) : Type 0 where
  one_ended : (k : ℕ) (p : Place) → slice_get places k ≡ Some p → ((x : Turn) → hears_now calls p x ≡ over o) → o ≡ outcome.PeerEnded → EnoughBefore calls places k → HeardSo calls places others o
  one_is_bad : (b : BadAt) (k : ℕ) (p : Place) → slice_get places k ≡ Some p → ((x : Turn) → hears_now calls p x ≡ over o) → o ≡ outcome.BadFrame b → EnoughBefore calls places k → HeardSo calls places others o
  all_have : o ≡ others → ((k : ℕ) (p : Place) → slice_get places k ≡ Some p → (x : Turn) → hears_now calls p x ≡ x) → HeardSo calls places others o

heard_later : (calls : List Call) (p : Place) (places : List Place) (others o : Outcome) → HasHeardEnough p.member (own_calls calls p) → ((x : Turn) → hears_now calls p x ≡ x) → HeardSo calls places others o → HeardSo calls (p ∷ places) others o
heard_later calls p places others o heard here (one_ended k q there f is before) = one_ended (suc k) q there f is (enough_more calls p places k heard before)
heard_later calls p places others o heard here (one_is_bad b k q there f is before) = one_is_bad b (suc k) q there f is (enough_more calls p places k heard before)
heard_later calls p places others o heard here (all_have is f) = all_have is at
  where
    at : (k : ℕ) (q : Place) → slice_get (p ∷ places) k ≡ Some q → (x : Turn) → hears_now calls q x ≡ x
    at zero q there x = (let same : p ≡ q = cc in subst (λ v. hears_now calls v x ≡ x) same (here x))
    at (suc k) q there x = f k q there x

heard_all : (calls : List Call) (places : List Place) (others o : Outcome) → turns_in calls places (over others) ≡ over o → HeardSo calls places others o
heard_all calls [] others o e = all_have (sym (same_over others o e)) (λ k p there x. absurd (let none : Option Place = None in let z : none ≡ Some p = there in cc))
heard_all calls (p ∷ places) others o e = by (hears_so p.member (has_ended (calls_on p.member.socket calls)) (hearing_after p.member (calls_on p.member.socket calls))) (λ f. heard_all calls places others o f)
  where
    by : heard_so calls p → (turns_in calls places (over others) ≡ over o → HeardSo calls places others o) → HeardSo calls (p ∷ places) others o
    by (it_asks r on f) rest = absurd (let z : asks r ≡ over o = sym (f (turns_in calls places (over others))) ∙ e in cc)
    by (it_ended f) rest =
        let told : over outcome.PeerEnded ≡ over o = sym (f (turns_in calls places (over others))) ∙ e in
        one_ended zero p refl (λ x. f x ∙ told) (sym (same_over outcome.PeerEnded o told)) (λ j q less there. absurd (omega (arith, less)))
    by (it_is_bad b f) rest =
        let told : over (outcome.BadFrame b) ≡ over o = sym (f (turns_in calls places (over others))) ∙ e in
        one_is_bad b zero p refl (λ x. f x ∙ told) (sym (same_over (outcome.BadFrame b) o told)) (λ j q less there. absurd (omega (arith, less)))
    by (it_has ms is f) rest = heard_later calls p places others o (ms, is) f (rest (sym (f (turns_in calls places (over others))) ∙ e))

abbrev expired_of : List Call → Place → Option ℕ
expired_of calls p = (outbox_after p.member (own_calls calls p)).expired

-- no message expired, or the first member with one tells it
data ExpiredSo (calls : List Call) (first : ℕ) (places : List Place) : Type 0 where
  none_has : outcome_by calls first places ≡ outcome.Done → ((k : ℕ) (p : Place) → slice_get places k ≡ Some p → expired_of calls p ≡ None) → ExpiredSo calls first places
  one_has : (k number : ℕ) (p : Place) → slice_get places k ≡ Some p → expired_of calls p ≡ Some number → outcome_by calls first places ≡ outcome.Expired (first + k) number →
      ((j : ℕ) (q : Place) → j < k → slice_get places j ≡ Some q → expired_of calls q ≡ None) → ExpiredSo calls first places

expired_so : (calls : List Call) (first : ℕ) (places : List Place) → ExpiredSo calls first places
expired_so calls first [] = none_has refl (λ k p there. absurd (let none : Option Place = None in let z : none ≡ Some p = there in cc))
expired_so calls first (p ∷ places) = by (expired_of calls p) refl (expired_so calls (first + 1) places)
  where
    at_none : expired_of calls p ≡ None → outcome_by calls first (p ∷ places) ≡ outcome_by calls (first + 1) places
    at_none is = ap (λ v. done_or v first (outcome_by calls (first + 1) places)) is

    here : (q : Place) → p ≡ q → expired_of calls p ≡ None → expired_of calls q ≡ None
    here q same is = subst (λ v. expired_of calls v ≡ None) same is

    by : (o : Option ℕ) → expired_of calls p ≡ o → ExpiredSo calls (first + 1) places → ExpiredSo calls first (p ∷ places)
    by (Some number) is rest =
        let place : first ≡ first + 0 = omega arith in
        one_has zero number p refl is (ap (λ v. done_or v first (outcome_by calls (first + 1) places)) is ∙ ap (λ v. outcome.Expired v number) place) (λ j q less there. absurd (omega (arith, less)))
    by None is (none_has told none) = none_has (at_none is ∙ told) all_none
      where
        all_none : (k : ℕ) (q : Place) → slice_get (p ∷ places) k ≡ Some q → expired_of calls q ≡ None
        all_none zero q there = here q (let same : p ≡ q = cc in same) is
        all_none (suc k) q there = none k q there
    by None is (one_has k number q there some told none) =
        let place : first + 1 + k ≡ first + suc k = omega arith in
        one_has (suc k) number q there some (at_none is ∙ (told ∙ ap (λ v. outcome.Expired v number) place)) before
      where
        before : (j : ℕ) (x : Place) → j < suc k → slice_get (p ∷ places) j ≡ Some x → expired_of calls x ≡ None
        before zero x less at = here x (let same : p ≡ x = cc in same) is
        before (suc j) x less at = none j x (omega (arith, less)) at

-- an exchange of a group whose members have distinct sockets
module _ (places : List Place) (once : IsOnce (sockets_in places)) where
  ends_at : (calls : List Call) (k : ℕ) (p : Place) (o : Outcome) → slice_get places k ≡ Some p → IsInTurn (turn_of_group places) calls → turn_alone p.member (own_calls calls p) ≡ over o → IsJudged p.member (own_calls calls p) o
  ends_at calls k p o there t e = alone.judged p.member (own_calls calls p) o (record { in_turn = own_in_turn places once k p there calls t; ends = e })

  there_ends : (calls : List Call) (k : ℕ) (p : Place) (o : Outcome) → slice_get places k ≡ Some p → IsInTurn (turn_of_group places) calls → turn_alone p.member (own_calls calls p) ≡ over o → EndsAt places calls k o
  there_ends calls k p o there t e = record { member = p; there = there; judged = ends_at calls k p o there t e }

  -- the newest call ended it
  by_stop : (calls : List Call) (o : Outcome) → IsInTurn (turn_of_group places) calls → stop calls ≡ Some o → HasMemberCause places calls o
  unfolding there_ends
  by_stop [] o t e = not_stopped o e
  by_stop (c ∷ calls) o t e = by (stopped_by c o e)
    where
      of : AskedOf places (request_of c)
      of = asked_of calls places (request_of c) t.0

      newest : own_calls (c ∷ calls) of.place ≡ c ∷ own_calls calls of.place
      newest = ap (λ b. cond b (c ∷ own_calls calls of.place) (own_calls calls of.place)) (asked_on c of.place.member.socket of.on)

      told : turn_alone of.place.member (own_calls (c ∷ calls) of.place) ≡ over o
      told = ap (turn_alone of.place.member) newest ∙ alone_stop of.place.member c (own_calls calls of.place) o e

      end : EndsAt places (c ∷ calls) of.index o
      end = there_ends (c ∷ calls) of.index of.place o of.there t told

      newest_ends : EndsNewest places (c ∷ calls) o
      newest_ends = record { call = c; earlier = calls; newest = refl; place = of.index; ends = end; own = asked_on c of.place.member.socket of.on }

      by : Stopped o → HasMemberCause places (c ∷ calls) o
      by (was_timed is) = subst (HasMemberCause places (c ∷ calls)) (sym is) (subst (EndsNewest places (c ∷ calls)) is newest_ends)
      by (had_failed cause is) = subst (HasMemberCause places (c ∷ calls)) (sym is) (subst (EndsNewest places (c ∷ calls)) is newest_ends)

  -- a member hears or is done, where none sends
  module _ (calls : List Call) (t : IsInTurn (turn_of_group places) calls) (none : stop calls ≡ None) where
    alone_at : (k : ℕ) (p : Place) → slice_get places k ≡ Some p → turn_alone p.member (own_calls calls p) ≡ turn_out p.member 0 (stand_of calls p) (hears_now calls p (over (done_or (expired_of calls p) 0 outcome.Done)))
    alone_at k p there = ap (λ s. unless s (turn_out p.member 0 (stand_of calls p) (hears_now calls p (over (done_or (expired_of calls p) 0 outcome.Done))))) (own_stop places once k p there calls t none)

    hears_at : next_sender calls 0 places ≡ None → (k : ℕ) (p : Place) → slice_get places k ≡ Some p → turn_alone p.member (own_calls calls p) ≡ hears_now calls p (over (done_or (expired_of calls p) 0 outcome.Done))
    hears_at out k p there = alone_at k p there ∙ ap (λ st. turn_out p.member 0 st (hears_now calls p (over (done_or (expired_of calls p) 0 outcome.Done)))) (out_there calls 0 places k p out there)

    by_expired : AllFinished places calls → (o : Outcome) → o ≡ outcome_by calls 0 places → ExpiredSo calls 0 places → HasMemberCause places calls o
    by_expired all o is (none_has told each) =
        subst (HasMemberCause places calls) (sym (is ∙ told)) (λ k p there. subst (λ v. IsJudged p.member (own_calls calls p) (done_or v 0 outcome.Done)) (each k p there) (all k p there))
    by_expired all o is (one_has k number p there some told before) =
        let place : 0 + k ≡ k = omega arith in
        subst (HasMemberCause places calls) (sym (is ∙ (told ∙ ap (λ v. outcome.Expired v number) place))) (
          all,
          (
            (λ j q less at. subst (λ v. IsJudged q.member (own_calls calls q) (done_or v 0 outcome.Done)) (before j q less at) (all j q at)),
            record { member = p; there = there; judged = subst (λ v. IsJudged p.member (own_calls calls p) (done_or v 0 outcome.Done)) some (all k p there) },
          ),
        )

    hearing_ends : next_sender calls 0 places ≡ None → (o : Outcome) (k : ℕ) (p : Place) → slice_get places k ≡ Some p → ((x : Turn) → hears_now calls p x ≡ over o) → EnoughBefore calls places k → EndsHearing places calls o
    hearing_ends out o k p there f before = record {
      all_sent = λ j q at. out_there calls 0 places j q out at;
      place = k;
      before = before;
      ends = there_ends calls k p o there t (hears_at out k p there ∙ f (over (done_or (expired_of calls p) 0 outcome.Done)));
    }

    by_hearing : next_sender calls 0 places ≡ None → (o : Outcome) → HeardSo calls places (outcome_by calls 0 places) o → HasMemberCause places calls o
    by_hearing out o (one_ended k p there f is before) = subst (HasMemberCause places calls) (sym is) (subst (EndsHearing places calls) is (hearing_ends out o k p there f before))
    by_hearing out o (one_is_bad b k p there f is before) = subst (HasMemberCause places calls) (sym is) (subst (EndsHearing places calls) is (hearing_ends out o k p there f before))
    by_hearing out o (all_have is f) =
        by_expired (λ k p there. ends_at calls k p (done_or (expired_of calls p) 0 outcome.Done) there t (hears_at out k p there ∙ f k p there (over (done_or (expired_of calls p) 0 outcome.Done)))) o is (expired_so calls 0 places)

    by_refusal : (o : Outcome) (w : Waiting) → Waits calls 0 places w → turn_out w.place.member w.number w.stand (turns_in calls places (over (outcome_by calls 0 places))) ≡ over o → HasMemberCause places calls o
    by_refusal o w h e =
        let r = refuses h.place (0 + h.index) (stand_of calls h.place) w _ o h.waits e in
        let place : 0 + h.index ≡ h.index = omega arith in
        subst (HasMemberCause places calls) (sym (r.told ∙ ap (λ v. outcome.NotSpeakable v r.number r.layer) place))
        (there_ends calls h.index h.place (outcome.NotSpeakable 0 r.number r.layer) h.there t
        (alone_at h.index h.place h.there ∙ ap (λ st. turn_out h.place.member 0 st (hears_now calls h.place (over (done_or (expired_of calls h.place) 0 outcome.Done)))) r.stands))

    by_next : (o : Outcome) (next : Option Waiting) → next_sender calls 0 places ≡ next → turn_sending next (turns_in calls places (over (outcome_by calls 0 places))) ≡ over o → HasMemberCause places calls o
    by_next o None out e = by_hearing out o (heard_all calls places (outcome_by calls 0 places) o e)
    by_next o (Some w) out e = by_refusal o w (waits_there calls 0 places w out) e

  cause : (calls : List Call) (o : Outcome) → IsInTurn (turn_of_group places) calls → (s : Option Outcome) → stop calls ≡ s → unless s (turn_behind calls places) ≡ over o → HasMemberCause places calls o
  cause calls o t (Some q) is e = (let same : q ≡ o = same_over q o e in by_stop calls o t (is ∙ ap Some same))
  cause calls o t None is e = by_next calls t is o (next_sender calls 0 places) refl e

pub judges_members : JudgesMembers
judges_members = record {
  begun = λ places calls once t. own_exchange places calls once t;
  judged = λ places calls o once x. cause places once calls o x.in_turn (stop calls) refl x.ends;
}
