-- The connections that were accepted so far.
use Rattle.std.proofs.Common.{◌≡◌, ℕ, ◌+◌, ◌≤◌, Bool, true, false, List, [], ◌∷◌, ◌++◌, length, Some, None, nat_lt, if◌then◌else◌, refl, ap, sym, subst, ◌∙◌, arith}
use Rattle.taps_socket.specs.Calls.{Call}
use Rattle.taps_socket.specs.Net.{Net}
use Rattle.taps_exchange.specs.declared.outcome.Outcome.{Outcome}
use Rattle.taps_exchange.specs.declared.outcome.Outcome.TheVariants as outcome
use Rattle.taps_listening.specs.declared.listened.ListenEnd.{ListenEnd}
use Rattle.taps_listening.specs.declared.listened.ListenEnd.TheVariants as ends
use Rattle.taps_listening.specs.Accepts.{is_done, IsServedNext, IsCutBut, phase_before, IsAcceptedAll, KeepsListening, PreservesNamed}
use Rattle.taps_listening.specs.AnsweredStates.{AnsweredState}
use Rattle.taps_listening.specs.ListenRules.{ListenRules}
use Rattle.taps_listening.specs.Listening.{Phase, accepting, pausing, stopping, Course, course_at, next_phase, phase_behind, or_later, outcome_by, listener_in, connection_in, answered_all, Goes}
use Rattle.taps_listening.specs.Serving.{Served, answered_by, own_outcome}
use Rattle.taps_listening.proofs.Going.{goes_on, cut_on}

-- so many were accepted and served, of which each is done; what they sent and heard; and the outcome if there are no more
pub record IsSoFar {N : Type 0} (Becomes : N → List Call → N → Type 0) (r : ListenRules) (before after : N) (listener first place : ℕ) (o : Outcome) (members : List AnsweredState) : Type 0 where
  pub served : List Served
  pub count : length served ≡ place
  pub goes : Goes Becomes r before after (course_at [] (accepting listener first)) (course_at served (phase_before r listener first served))
  pub told : answered_all r served ≡ members
  pub outcome_is : outcome_by r served ≡ o

pub none_so_far : {N : Type 0} (Becomes : N → List Call → N → Type 0) (r : ListenRules) (a : N) (listener first : ℕ) (members : List AnsweredState) → Becomes a [] a → members ≡ [] → IsSoFar Becomes r a a listener first 0 outcome.Done members
none_so_far Becomes r a listener first members still none =
    record {
      served = [];
      count = refl;
      goes = record { calls = []; becomes = still; in_turn = tt; reaches = refl };
      told = sym none;
      outcome_is = refl;
    }

goes_further : (r : ListenRules) (l : ℕ) (served : List Served) (o : Outcome) → is_done o ≡ true → phase_behind r l served o ≡ next_phase r l served
goes_further r l served outcome.Done h = refl
goes_further r l served (outcome.Expired place number) h = refl
goes_further r l served outcome.Timed h = cc
goes_further r l served (outcome.DataFailed cause) h = cc
goes_further r l served outcome.PeerEnded h = cc
goes_further r l served (outcome.BadFrame b) h = cc
goes_further r l served (outcome.NotSpeakable place number layer) h = cc

ends_there : (r : ListenRules) (l : ℕ) (served : List Served) (o : Outcome) → is_done o ≡ false → phase_behind r l served o ≡ stopping l (ends.Exchanged o)
ends_there r l served outcome.Done h = cc
ends_there r l served (outcome.Expired place number) h = cc
ends_there r l served outcome.Timed h = refl
ends_there r l served (outcome.DataFailed cause) h = refl
ends_there r l served outcome.PeerEnded h = refl
ends_there r l served (outcome.BadFrame b) h = refl
ends_there r l served (outcome.NotSpeakable place number layer) h = refl

-- behind a connection the listener alone is open
pub record ListensAlone (p : Phase) (l : ℕ) : Type 0 where
  pub listens : listener_in p ≡ Some l
  pub alone : connection_in p ≡ None

next_alone : (l : ℕ) (b : Bool) (end : ListenEnd) → ListensAlone (if b then pausing l else stopping l end) l
next_alone l true end = record { listens = refl; alone = refl }
next_alone l false end = record { listens = refl; alone = refl }

pub behind_alone : (r : ListenRules) (l : ℕ) (served : List Served) (o : Outcome) → ListensAlone (phase_behind r l served o) l
behind_alone r l served outcome.Done = next_alone l (nat_lt (length served) r.limit) (ends.Exchanged (outcome_by r served))
behind_alone r l served (outcome.Expired place number) = next_alone l (nat_lt (length served) r.limit) (ends.Exchanged (outcome_by r served))
behind_alone r l served outcome.Timed = record { listens = refl; alone = refl }
behind_alone r l served (outcome.DataFailed cause) = record { listens = refl; alone = refl }
behind_alone r l served outcome.PeerEnded = record { listens = refl; alone = refl }
behind_alone r l served (outcome.BadFrame b) = record { listens = refl; alone = refl }
behind_alone r l served (outcome.NotSpeakable place number layer) = record { listens = refl; alone = refl }

-- as many as are to be accepted
not_less : (n m : ℕ) → n ≡ m → nat_lt n m ≡ false
not_less n m e = grind (arith, e)

pub all_accepted : (r : ListenRules) (l first : ℕ) (served : List Served) → length served ≡ r.limit → 1 ≤ r.limit → phase_before r l first served ≡ stopping l (ends.Exchanged (outcome_by r served))
all_accepted r l first [] e some = absurd (omega (arith, e, some))
all_accepted r l first (c ∷ served) e some =
    ap (λ b. if b then pausing l else stopping l (ends.Exchanged (outcome_by r (c ∷ served)))) (not_less (length (c ∷ served)) r.limit e)

module _ {N : Type 0} (Becomes : N → List Call → N → Type 0) (r : ListenRules) (x y z : N) (listener first place : ℕ) (o : Outcome) (members : List AnsweredState)
    (on : (a b c : N) (g h : List Call) → Becomes a g b → Becomes b h c → Becomes a (h ++ g) c) (k : IsSoFar Becomes r x y listener first place o members) where
  abbrev now_at : Course
  now_at = course_at k.served (phase_before r listener first k.served)

  module _ (own : Outcome) (sent : ℕ) (heard : List (List ℕ)) (q : IsServedNext Becomes r y z listener now_at k.served own sent heard) (more : List AnsweredState) (put : more ≡ members ++ record { sent = sent; heard = heard } ∷ []) where
    goes_behind : Goes Becomes r x z (course_at [] (accepting listener first)) (course_at (q.out ∷ k.served) (phase_behind r listener (q.out ∷ k.served) own))
    goes_behind = goes_on Becomes r x y z (course_at [] (accepting listener first)) now_at on k.goes (course_at (q.out ∷ k.served) (phase_behind r listener (q.out ∷ k.served) own)) q.goes

    told_more : answered_all r (q.out ∷ k.served) ≡ more
    told_more = ap (λ v. v ++ answered_by r q.out ∷ []) k.told ∙ (ap (λ v. members ++ v ∷ []) q.told ∙ sym put)

    -- one more is done
    pub one_more : is_done own ≡ true → IsSoFar Becomes r x z listener first (place + 1) (or_later o own) more
    one_more done =
        record {
          served = q.out ∷ k.served;
          count = (let c = k.count in omega (arith, c));
          goes = subst (λ v. Goes Becomes r x z (course_at [] (accepting listener first)) (course_at (q.out ∷ k.served) v)) (goes_further r listener (q.out ∷ k.served) own done) goes_behind;
          told = told_more;
          outcome_is = ap (λ v. or_later v (own_outcome r (length k.served) q.out)) k.outcome_is ∙ ap (or_later o) (q.own done);
        }

    -- or it ended the session
    pub one_ends : is_done own ≡ false → IsAcceptedAll Becomes r x z listener first (ends.Exchanged own) more
    one_ends done =
        record {
          served = q.out ∷ k.served;
          goes = subst (λ v. Goes Becomes r x z (course_at [] (accepting listener first)) (course_at (q.out ∷ k.served) v)) (ends_there r listener (q.out ∷ k.served) own done) goes_behind;
          told = told_more;
        }

  -- or memory ran out behind it
  pub one_cut : (own : Outcome) (sent : ℕ) (heard : List (List ℕ)) → IsServedNext Becomes r y z listener now_at k.served own sent heard → IsCutBut Becomes r x z listener (course_at [] (accepting listener first))
  one_cut own sent heard q =
      let g = goes_on Becomes r x y z (course_at [] (accepting listener first)) now_at on k.goes (course_at (q.out ∷ k.served) (phase_behind r listener (q.out ∷ k.served) own)) q.goes in
      let alone = behind_alone r listener (q.out ∷ k.served) own in
      record {
        calls = g.calls;
        course = course_at (q.out ∷ k.served) (phase_behind r listener (q.out ∷ k.served) own);
        in_turn = g.in_turn;
        reaches = g.reaches;
        listens = alone.listens;
        becomes = rw alone.alone g.becomes;
      }

  -- the session has ended
  pub session_ends : (end : ListenEnd) → Goes Becomes r y z now_at (course_at k.served (stopping listener end)) → IsAcceptedAll Becomes r x z listener first end members
  session_ends end q =
      record {
        served = k.served;
        goes = goes_on Becomes r x y z (course_at [] (accepting listener first)) now_at on k.goes (course_at k.served (stopping listener end)) q;
        told = k.told;
      }

  pub session_cut : IsCutBut Becomes r y z listener now_at → IsCutBut Becomes r x z listener (course_at [] (accepting listener first))
  session_cut q = cut_on Becomes r x y z (course_at [] (accepting listener first)) now_at on k.goes listener q

-- all were accepted
pub all_so_far : {N : Type 0} (Becomes : N → List Call → N → Type 0) (r : ListenRules) (x y : N) (listener first : ℕ) (o : Outcome) (members : List AnsweredState) → 1 ≤ r.limit → IsSoFar Becomes r x y listener first r.limit o members → IsAcceptedAll Becomes r x y listener first (ends.Exchanged o) members
all_so_far Becomes r x y listener first o members some k =
    record {
      served = k.served;
      goes = subst (λ v. Goes Becomes r x y (course_at [] (accepting listener first)) (course_at k.served (stopping listener (ends.Exchanged v)))) k.outcome_is
          (subst (λ v. Goes Becomes r x y (course_at [] (accepting listener first)) (course_at k.served v)) (all_accepted r listener first k.served k.count some) k.goes);
      told = k.told;
    }

pub named_on : (l most : ℕ) (a b c : Net) → KeepsListening l most a b → PreservesNamed a b → PreservesNamed b c → PreservesNamed a c
named_on l most a b c k p q s h = q s (k.grows s h) ∙ p s h
