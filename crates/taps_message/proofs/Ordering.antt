-- Messages go out in the order of push.
use Rattle.std.proofs.Common.{◌≡◌, ℕ, suc, ◌+◌, List, [], ◌∷◌, ◌++◌, ◌||◌, length, sym, ◌∙◌, ap, subst, arith, append_assoc, length-append}
use Rattle.std.specs.List.{list_any}
use Rattle.std.proofs.Math.Bool.{or-false}
use Rattle.std.proofs.lemmas.List.{append-nil}
use Rattle.std.proofs.lemmas.List.Sums.{sum_by_push}
use Rattle.std.proofs.lemmas.List.Folds.{list_any-append}
use Rattle.taps_message.specs.declared.message.Message.{Message}
use Rattle.taps_message.specs.declared.accepted.Accepted.{Accepted}
use Rattle.taps_message.specs.declared.queued.Queued.TheVariants as queued
use Rattle.taps_message.specs.Queues.{Queue, with_front, with_message}
use Rattle.taps_message.specs.Orders.{AreNumberedFrom, Holds, Goes, PushFollows, NextGoes, PutBackReturns}

numbered_more : (n : ℕ) (ms : List Accepted) (m : Accepted) → AreNumberedFrom n ms → m.number ≡ n + length ms → AreNumberedFrom n (ms ++ m ∷ [])
numbered_more n [] m so is = (is ∙ omega arith, tt)
numbered_more n (first ∷ behind) m so is = (so.0, numbered_more (suc n) behind m so.1 (is ∙ omega arith))

number_at : (n : ℕ) (ms behind : List Accepted) (m : Accepted) → AreNumberedFrom n (ms ++ m ∷ behind) → m.number ≡ n + length ms
number_at n [] behind m so = so.0 ∙ omega arith
number_at n (first ∷ ms) behind m so = number_at (suc n) ms behind m so.1 ∙ omega arith

-- a queue after a message more
pushed_holds : (accepted gone : List Accepted) (q : Queue) (m : Message) (at : ℕ) → Holds accepted gone q → Holds (accepted ++ record { number = length accepted; at = at; message = m } ∷ []) gone (with_message m at q)
pushed_holds accepted gone q m at h = record {
  order = ap (λ ms. ms ++ record { number = length accepted; at = at; message = m } ∷ []) h.order ∙ append_assoc gone q.queued _ ∙ ap (λ n. gone ++ (q.queued ++ record { number = n; at = at; message = m } ∷ [])) (sym h.count);
  numbers = numbered_more 0 accepted _ h.numbers (omega arith);
  count = ap (λ n. n + 1) h.count ∙ sym (length-append accepted _);
  bytes = ap (λ n. n + length m.body) h.bytes ∙ sym (sum_by_push _ accepted _);
  ended = ap (λ b. b || m.props.is_final) h.ended ∙ ap (λ b. list_any (λ m. m.message.props.is_final) accepted || b) (sym (or-false m.props.is_final)) ∙ sym (list_any-append _ accepted _);
}

pub push_follows : PushFollows
push_follows accepted gone before after m at h (accepts, is) = subst (λ s. Holds (accepted ++ record { number = length accepted; at = at; message = m } ∷ []) gone s.queue) (sym is) (pushed_holds accepted gone before.queue m at h)

-- a queue after its front went out
goes : (accepted gone : List Accepted) (before after : Queue) (number at : ℕ) (m : Message) → Holds accepted gone before → before ≡ with_front (record { number = number; at = at; message = m }) after → Goes accepted gone number m after
goes accepted gone before after number at m h front = record {
  at = at;
  place = number_at 0 gone after.queued (record { number = number; at = at; message = m }) (subst (AreNumberedFrom 0) (h.order ∙ ap (λ q. gone ++ q.queued) front) h.numbers) ∙ omega arith;
  holds = record {
    order = h.order ∙ ap (λ q. gone ++ q.queued) front ∙ sym (append_assoc gone _ after.queued);
    numbers = h.numbers;
    count = sym (ap (λ q. q.accepted) front) ∙ h.count;
    bytes = sym (ap (λ q. q.bytes) front) ∙ h.bytes;
    ended = sym (ap (λ q. q.ended) front) ∙ h.ended;
  };
}

pub next_goes : NextGoes
next_goes accepted gone before after now (queued.Message number m) h is = goes accepted gone before after.queue number is.at m h is.front
next_goes accepted gone before after now (queued.Expired number) h is = (is.message, goes accepted gone before after.queue number is.at is.message h is.front)
next_goes accepted gone before after now queued.Empty h is =
    (h.order ∙ ap (λ ms. gone ++ ms) is.0 ∙ append-nil gone, subst (λ s. Holds accepted gone s.queue) (sym is.1) h)

pub put_back_returns : PutBackReturns
put_back_returns accepted gone last q h = record {
  order = h.order ∙ append_assoc gone _ q.queued;
  numbers = h.numbers;
  count = h.count;
  bytes = h.bytes;
  ended = h.ended;
}
