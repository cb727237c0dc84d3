-- From the accept to the closes.
use Rattle.std.proofs.Common.{◌≡◌, ℕ, List, [], ◌∷◌, ◌++◌, ap, subst, ◌∙◌}
use Rattle.taps_base.specs.Counts.{Rose}
use Rattle.taps_socket.specs.declared.answers.AcceptAnswer.{AcceptAnswer}
use Rattle.taps_socket.specs.declared.answers.AcceptAnswer.TheVariants as accept
use Rattle.taps_socket.specs.declared.item.Item.TheVariants as item
use Rattle.taps_socket.specs.Calls.{Call, accepts, closes}
use Rattle.taps_socket.specs.Net.{Net, IsGiven}
use Rattle.taps_exchange.specs.declared.exchanged.Exchanged.{Exchanged}
use Rattle.taps_loop.specs.Loops.{Ends}
use Rattle.taps_loop.specs.Looped.{IsClosedBoth, IsCutBoth, ClosesBoth, IsLooped, IsLoopCut, IsLoopTimed, IsLoopFaulted}

module _ {N : Type 0} (Becomes : N → List Call → N → Type 0) (on : (a b c : N) (g h : List Call) → Becomes a g b → Becomes b h c → Becomes a (h ++ g) c) (ends : ℕ → ℕ → Ends) (l l2 from until until2 : ℕ) (a b c d : N) (net0 net1 net2 net3 : Net)
    (same : l2 ≡ l) (last : until2 ≡ until) where
  accepted_now : (answer : AcceptAnswer) → Becomes a (accepts l until2 answer ∷ []) b → Becomes a (accepts l until answer ∷ []) b
  accepted_now answer h = subst (λ u. Becomes a (accepts l u answer ∷ []) b) last h

  stopped_now : Becomes c (closes l2 ∷ []) d → Becomes c (closes l ∷ []) d
  stopped_now h = subst (λ s. Becomes c (closes s ∷ []) d) same h

  all_calls : (answer : AcceptAnswer) (more : List Call) → Becomes a (accepts l until2 answer ∷ []) b → Becomes b more c → Becomes c (closes l2 ∷ []) d → Becomes a (closes l ∷ (more ++ accepts l until answer ∷ [])) d
  all_calls answer more p q r = on a b d (accepts l until answer ∷ []) (closes l ∷ more) (accepted_now answer p) (on b c d more (closes l ∷ []) q (stopped_now r))

  module _ (to at : ℕ) (accepted : Becomes a (accepts l until2 (accept.Accepted to at) ∷ []) b) (item_is : net1.trace ≡ item.Accepted l to at ∷ net0.trace) (given : IsGiven to net0) (closed : ClosesBoth from to net1 net2)
      (stopped : Becomes c (closes l2 ∷ []) d) (close_is : net3.trace ≡ item.Closed l2 ∷ net2.trace) where
    trace_now : net3.trace ≡ item.Closed l ∷ item.Closed to ∷ item.Closed from ∷ (closed.items ++ item.Accepted l to at ∷ net0.trace)
    trace_now =
        close_is
        ∙ (ap (λ s. item.Closed s ∷ net2.trace) same
        ∙ (ap (λ t. item.Closed l ∷ t) closed.trace ∙ ap (λ t. item.Closed l ∷ item.Closed to ∷ item.Closed from ∷ (closed.items ++ t)) item_is))

    pub looped_ok : (e : Exchanged) → IsClosedBoth Becomes (ends to at) from to b c e → IsLooped Becomes ends l from until a d net0 net3 e
    looped_ok e k =
        record {
          to = to;
          at = at;
          calls = k.calls;
          becomes = all_calls (accept.Accepted to at) (closes to ∷ closes from ∷ k.calls) accepted k.becomes stopped;
          exchange = k.exchange;
          sent_is = k.sent_is;
          heard_is = k.heard_is;
          given = given;
          items = closed.items;
          trace = trace_now;
          own = closed.own;
        }

    pub looped_cut : IsCutBoth Becomes (ends to at) from to b c → IsLoopCut Becomes ends l from until a d net0 net3
    looped_cut k =
        record {
          to = to;
          at = at;
          calls = k.calls;
          becomes = all_calls (accept.Accepted to at) (closes to ∷ closes from ∷ k.calls) accepted k.becomes stopped;
          in_turn = k.in_turn;
          given = given;
          items = closed.items;
          trace = trace_now;
          own = closed.own;
        }

  pub looped_timed : (at : ℕ) → Becomes a (accepts l until2 (accept.Timed at) ∷ []) b → net1.trace ≡ net0.trace → Becomes b (closes from ∷ []) c → net2.trace ≡ item.Closed from ∷ net1.trace → Becomes c (closes l2 ∷ []) d → net3.trace ≡ item.Closed l2 ∷ net2.trace →
      IsLoopTimed Becomes l from until a d net0 net3
  looped_timed at p still q closed r close_is =
      record {
        at = at;
        becomes = all_calls (accept.Timed at) (closes from ∷ []) p q r;
        trace = close_is ∙ (ap (λ s. item.Closed s ∷ net2.trace) same ∙ (ap (λ t. item.Closed l ∷ t) closed ∙ ap (λ t. item.Closed l ∷ item.Closed from ∷ t) still));
      }

  pub looped_faulted : (at : ℕ) → Becomes a (accepts l until2 (accept.Faulted at) ∷ []) b → net1.trace ≡ item.Faulted at ∷ net0.trace → Becomes b (closes from ∷ []) c → net2.trace ≡ item.Closed from ∷ net1.trace → Becomes c (closes l2 ∷ []) d →
      net3.trace ≡ item.Closed l2 ∷ net2.trace → Rose net0.faults net1.faults → net1.faults ≡ net3.faults → IsLoopFaulted Becomes l from until a d net0 net3
  looped_faulted at p fault q closed r close_is rose faults =
      record {
        at = at;
        becomes = all_calls (accept.Faulted at) (closes from ∷ []) p q r;
        trace = close_is ∙ (ap (λ s. item.Closed s ∷ net2.trace) same ∙ (ap (λ t. item.Closed l ∷ t) closed ∙ ap (λ t. item.Closed l ∷ item.Closed from ∷ t) fault));
        faulted = subst (λ n. Rose net0.faults n) faults rose;
      }
