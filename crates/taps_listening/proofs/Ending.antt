-- Each end of a session that listens has its cause.
use Rattle.std.proofs.Common.{◌≡◌, inl, inr, ℕ, ◌<◌, ◌≤◌, Bool, true, false, List, [], ◌∷◌, length, Option, Some, None, nat_lt, if◌then◌else◌, refl, ap, sym, subst, ◌∙◌, arith}
use Rattle.std.proofs.lemmas.Bool.{ltb-true, lt-ltb}
use Rattle.taps_socket.specs.declared.answers.ListenAnswer.TheVariants as listen
use Rattle.taps_socket.specs.declared.answers.AcceptAnswer.TheVariants as accept
use Rattle.taps_socket.specs.Calls.{Call, sends, receives, shuts, closes, begins, starts, waits, listens, accepts, to_listen, request_of}
use Rattle.taps_stack.specs.declared.target.Target.{Target}
use Rattle.taps_exchange.specs.declared.outcome.Outcome.{Outcome}
use Rattle.taps_exchange.specs.declared.outcome.Outcome.TheVariants as outcome
use Rattle.taps_exchange.specs.Turns.{asks, done_or}
use Rattle.taps_listening.specs.declared.listened.ListenEnd.{ListenEnd}
use Rattle.taps_listening.specs.declared.listened.ListenEnd.TheVariants as ends
use Rattle.taps_listening.specs.Ends.{AllAnswered, NoneExpired, IsFirstExpired, AreAllAnswered, HasEnd, AreServedRightly, JudgesSessions}
use Rattle.taps_listening.specs.ListenRules.{ListenRules}
use Rattle.taps_listening.specs.Listening.{Phase, beginning, opening, accepting, serving, pausing, stopping, stopped, course_at, course_in, course_from, course_after, phase_behind, or_later, outcome_by, outcome_in, turn_in_phase, AllInTurn}
use Rattle.taps_listening.specs.Serving.{Served, outbox_of, own_outcome, turn_serving, with_call}
use Rattle.taps_listening.proofs.Closed.{turns_of}
use Rattle.taps_listening.proofs.Counted.{over_of, asks_of}
use Rattle.taps_listening.proofs.Covers.{never_asked, is_close}
use Rattle.taps_listening.proofs.Lifting.{is_serving, asks_serving}
use Rattle.taps_listening.proofs.Rightly.{IsRight, right_first, right_call, rightly, IsOverBy, is_over_by}

-- another connection may come
pub record MayGoOn (r : ListenRules) (served : List Served) : Type 0 where
  pub answered : AllAnswered r served
  pub fewer : length served < r.limit

abbrev pub Holds : ListenRules → List Call → List Served → Phase → Type 0
Holds r calls served beginning = served ≡ []
Holds r calls served opening = served ≡ []
Holds r calls served (accepting l told) = MayGoOn r served
Holds r calls served (serving l c) = MayGoOn r served × IsRight r c
Holds r calls served (pausing l) = MayGoOn r served
Holds r calls served (stopping l end) = HasEnd r calls served end
Holds r calls served (stopped end) = HasEnd r calls served end

pub record IsRightCourse (r : ListenRules) (calls : List Call) (served : List Served) (p : Phase) : Type 0 where
  pub rightly_served : AreServedRightly r served
  pub holds : Holds r calls served p

-- the first of the expired ones
abbrev pub IsOutcome : ListenRules → List Served → Outcome → Type 0
IsOutcome r served outcome.Done = NoneExpired r served
IsOutcome r served (outcome.Expired place number) = IsFirstExpired r served place number
IsOutcome r served _ = ⊥

own_first : (r : ListenRules) (c : Served) (earlier : List Served) (x : Option ℕ) → (outbox_of r c).expired ≡ x → NoneExpired r earlier → IsOutcome r (c ∷ earlier) (done_or x (length earlier) outcome.Done)
own_first r c earlier None e none = (e, none)
own_first r c earlier (Some number) e none = inl (record { none_before = none; place_is = refl; expired = e })

later_first : (r : ListenRules) (c : Served) (earlier : List Served) (o : Outcome) → IsOutcome r earlier o → IsOutcome r (c ∷ earlier) (or_later o (own_outcome r (length earlier) c))
later_first r c earlier outcome.Done h = own_first r c earlier (outbox_of r c).expired refl h
later_first r c earlier (outcome.Expired place number) h = inr h
later_first r c earlier outcome.Timed h = absurd h
later_first r c earlier (outcome.DataFailed cause) h = absurd h
later_first r c earlier outcome.PeerEnded h = absurd h
later_first r c earlier (outcome.BadFrame b) h = absurd h
later_first r c earlier (outcome.NotSpeakable place number layer) h = absurd h

outcome_is : (r : ListenRules) (served : List Served) → IsOutcome r served (outcome_by r served)
outcome_is r [] = tt
outcome_is r (c ∷ served) = later_first r c served (outcome_by r served) (outcome_is r served)

all_end : (r : ListenRules) (calls : List Call) (served : List Served) (o : Outcome) → AreAllAnswered r served → IsOutcome r served o → HasEnd r calls served (ends.Exchanged o)
all_end r calls served outcome.Done a h = (a, h)
all_end r calls served (outcome.Expired place number) a h = (a, h)
all_end r calls served outcome.Timed a h = absurd h
all_end r calls served (outcome.DataFailed cause) a h = absurd h
all_end r calls served outcome.PeerEnded a h = absurd h
all_end r calls served (outcome.BadFrame b) a h = absurd h
all_end r calls served (outcome.NotSpeakable place number layer) a h = absurd h

not_fewer : (n m : ℕ) (b : Bool) → nat_lt n m ≡ b → b ≡ false → n < m → ⊥
not_fewer n m b e f less = (let x : true ≡ false = sym (lt-ltb n m less) ∙ (e ∙ f) in cc)

next_holds : (r : ListenRules) (calls : List Call) (l : ℕ) (served : List Served) (b : Bool) → nat_lt (length served) r.limit ≡ b → AllAnswered r served → length served ≤ r.limit → Holds r calls served (if b then pausing l else stopping l (ends.Exchanged (outcome_by r served)))
next_holds r calls l served true e a few = record { answered = a; fewer = ltb-true (length served) r.limit e }
next_holds r calls l served false e a few =
    all_end r calls served (outcome_by r served)
    (record { answered = a; count = same_size (length served) r.limit few (not_fewer (length served) r.limit false e refl) })
    (outcome_is r served)
  where
    same_size : (n m : ℕ) → n ≤ m → (n < m → ⊥) → n ≡ m
    same_size n m few not_less = grind (arith, few, not_less)

last_end : (r : ListenRules) (calls : List Call) (l : ℕ) (served : List Served) (c : Served) (o : Outcome) → IsOverBy r (length served) c o → MayGoOn r served → Holds r calls (c ∷ served) (phase_behind r l (c ∷ served) o)
last_end r calls l served c outcome.Done k m = next_holds r calls l (c ∷ served) (nat_lt (length (c ∷ served)) r.limit) refl (k.done refl, m.answered) (let f = m.fewer in omega (arith, f))
last_end r calls l served c (outcome.Expired place number) k m = next_holds r calls l (c ∷ served) (nat_lt (length (c ∷ served)) r.limit) refl (k.done refl, m.answered) (let f = m.fewer in omega (arith, f))
last_end r calls l served c outcome.Timed k m = inr (k.ends refl)
last_end r calls l served c (outcome.DataFailed cause) k m = k.ends refl
last_end r calls l served c outcome.PeerEnded k m = k.ends refl
last_end r calls l served c (outcome.BadFrame b) k m = k.ends refl
last_end r calls l served c (outcome.NotSpeakable place number layer) k m = k.ends refl

-- calls more change no cause
end_on : (r : ListenRules) (call : Call) (calls : List Call) (served : List Served) (end : ListenEnd) → HasEnd r calls served end → HasEnd r (call ∷ calls) served end
end_on r call calls served (ends.Exchanged outcome.Done) h = h
end_on r call calls served (ends.Exchanged (outcome.Expired place number)) h = h
end_on r call calls served (ends.Exchanged outcome.Timed) h = elim h [ inl t ↦ inl (t.0, t.1, t.2, inr t.3) | inr t ↦ inr t ]
end_on r call calls served (ends.Exchanged (outcome.DataFailed cause)) h = h
end_on r call calls served (ends.Exchanged outcome.PeerEnded) h = h
end_on r call calls served (ends.Exchanged (outcome.BadFrame b)) h = h
end_on r call calls served (ends.Exchanged (outcome.NotSpeakable place number layer)) h = h
end_on r call calls served (ends.NotListening cause) h = (h.0, inr h.1)
end_on r call calls served ends.Faulted h = (h.0, h.1, h.2, inr h.3)

none_more : (n : ℕ) (b : Bool) → nat_lt 0 n ≡ b → b ≡ false → 0 ≡ n
none_more n b e f = no_less n (not_fewer 0 n b e f)
  where
    no_less : (n : ℕ) → (0 < n → ⊥) → 0 ≡ n
    no_less n not_less = grind (arith, not_less)

opened_holds : (r : ListenRules) (calls : List Call) (s at : ℕ) (b : Bool) → nat_lt 0 r.limit ≡ b → Holds r calls [] (if b then accepting s at else stopping s (ends.Exchanged outcome.Done))
opened_holds r calls s at true e = record { answered = tt; fewer = ltb-true 0 r.limit e }
opened_holds r calls s at false e = (record { answered = tt; count = none_more r.limit false e refl }, tt)

right_serving : (r : ListenRules) (calls : List Call) (served : List Served) (l : ℕ) (c : Served) (call : Call) → is_serving (request_of call) ≡ true → is_close (request_of call) ≡ false → turn_in_phase r served (serving l c) ≡ asks (request_of call) → IsRightCourse r calls served (serving l c) →
    IsRightCourse r (call ∷ calls) served (serving l (with_call c call))
right_serving r calls served l c call h g e k =
    record {
      rightly_served = k.rightly_served;
      holds = (k.holds.0, right_call r (length served) c call h (asks_of c.socket (turn_serving r (length served) c) (request_of call) g e) k.holds.1);
    }

right_step : (r : ListenRules) (calls : List Call) (served : List Served) (p : Phase) (call : Call) → turn_in_phase r served p ≡ asks (request_of call) → IsRightCourse r calls served p →
    IsRightCourse r (call ∷ calls) (course_in r served p call).served (course_in r served p call).phase
right_step r calls served (serving l c) (closes s) e k =
    let T = turn_serving r (length served) c in
    let is_over = over_of c.socket s T (asks_serving r (length served) c) e in
    record {
      rightly_served = (rightly r c k.holds.1, k.rightly_served);
      holds = last_end r (closes s ∷ calls) l served c (outcome_in T) (is_over_by r (length served) c (outcome_in T) k.holds.1 is_over) k.holds.0;
    }
right_step r calls served (serving l c) (begins at) e k = right_serving r calls served l c (begins at) refl refl e k
right_step r calls served (serving l c) (sends s b u a) e k = right_serving r calls served l c (sends s b u a) refl refl e k
right_step r calls served (serving l c) (shuts s) e k = right_serving r calls served l c (shuts s) refl refl e k
right_step r calls served (serving l c) (receives s most u came a) e k = right_serving r calls served l c (receives s most u came a) refl refl e k
right_step r calls served (serving l c) (starts i g a) e k = absurd (never_asked c.socket (turn_serving r (length served) c) (request_of (starts i g a)) refl refl (asks_serving r (length served) c) e)
right_step r calls served (serving l c) (waits u a) e k = absurd (never_asked c.socket (turn_serving r (length served) c) (request_of (waits u a)) refl refl (asks_serving r (length served) c) e)
right_step r calls served (serving l c) (listens g a) e k = absurd (never_asked c.socket (turn_serving r (length served) c) (request_of (listens g a)) refl refl (asks_serving r (length served) c) e)
right_step r calls served (serving l c) (accepts i u a) e k = absurd (never_asked c.socket (turn_serving r (length served) c) (request_of (accepts i u a)) refl refl (asks_serving r (length served) c) e)
right_step r calls served beginning (begins at) e k = record { rightly_served = k.rightly_served; holds = k.holds }
right_step r calls served beginning (starts i g a) e k = cc
right_step r calls served beginning (waits u a) e k = cc
right_step r calls served beginning (closes s) e k = cc
right_step r calls served beginning (listens g a) e k = cc
right_step r calls served beginning (accepts i u a) e k = cc
right_step r calls served beginning (sends s b u a) e k = cc
right_step r calls served beginning (shuts s) e k = cc
right_step r calls served beginning (receives s most u came a) e k = cc
right_step r calls served opening (listens g (listen.Listening s at)) e k =
    record {
      rightly_served = k.rightly_served;
      holds = subst (λ v. Holds r (listens g (listen.Listening s at) ∷ calls) v (if nat_lt 0 r.limit then accepting s at else stopping s (ends.Exchanged outcome.Done))) (sym k.holds) (opened_holds r (listens g (listen.Listening s at) ∷ calls) s at (nat_lt 0 r.limit) refl);
    }
right_step r calls served opening (listens g (listen.Refused cause at)) e k =
    let own : r.target ≡ g = (let x : to_listen r.target ≡ to_listen g = cc in cc) in
    record { rightly_served = k.rightly_served; holds = (at, inl (ap (λ (v : Target). listens v (listen.Refused cause at)) own)) }
right_step r calls served opening (begins at) e k = cc
right_step r calls served opening (starts i g a) e k = cc
right_step r calls served opening (waits u a) e k = cc
right_step r calls served opening (closes s) e k = cc
right_step r calls served opening (accepts i u a) e k = cc
right_step r calls served opening (sends s b u a) e k = cc
right_step r calls served opening (shuts s) e k = cc
right_step r calls served opening (receives s most u came a) e k = cc
right_step r calls served (accepting l told) (accepts i u (accept.Accepted s at)) e k = record { rightly_served = k.rightly_served; holds = (k.holds, right_first r s at) }
right_step r calls served (accepting l told) (accepts i u (accept.Timed at)) e k = record { rightly_served = k.rightly_served; holds = inl (i, u, at, inl refl) }
right_step r calls served (accepting l told) (accepts i u (accept.Faulted at)) e k = record { rightly_served = k.rightly_served; holds = (i, u, at, inl refl) }
right_step r calls served (accepting l told) (begins at) e k = cc
right_step r calls served (accepting l told) (starts i g a) e k = cc
right_step r calls served (accepting l told) (waits u a) e k = cc
right_step r calls served (accepting l told) (closes s) e k = cc
right_step r calls served (accepting l told) (listens g a) e k = cc
right_step r calls served (accepting l told) (sends s b u a) e k = cc
right_step r calls served (accepting l told) (shuts s) e k = cc
right_step r calls served (accepting l told) (receives s most u came a) e k = cc
right_step r calls served (pausing l) (begins at) e k = record { rightly_served = k.rightly_served; holds = k.holds }
right_step r calls served (pausing l) (starts i g a) e k = cc
right_step r calls served (pausing l) (waits u a) e k = cc
right_step r calls served (pausing l) (closes s) e k = cc
right_step r calls served (pausing l) (listens g a) e k = cc
right_step r calls served (pausing l) (accepts i u a) e k = cc
right_step r calls served (pausing l) (sends s b u a) e k = cc
right_step r calls served (pausing l) (shuts s) e k = cc
right_step r calls served (pausing l) (receives s most u came a) e k = cc
right_step r calls served (stopping l end) (closes s) e k = record { rightly_served = k.rightly_served; holds = end_on r (closes s) calls served end k.holds }
right_step r calls served (stopping l end) (begins at) e k = cc
right_step r calls served (stopping l end) (starts i g a) e k = cc
right_step r calls served (stopping l end) (waits u a) e k = cc
right_step r calls served (stopping l end) (listens g a) e k = cc
right_step r calls served (stopping l end) (accepts i u a) e k = cc
right_step r calls served (stopping l end) (sends s b u a) e k = cc
right_step r calls served (stopping l end) (shuts s) e k = cc
right_step r calls served (stopping l end) (receives s most u came a) e k = cc
right_step r calls served (stopped end) call e k = cc

pub right_after : (r : ListenRules) (calls : List Call) → AllInTurn r (course_at [] beginning) calls → IsRightCourse r calls (course_from r (course_at [] beginning) calls).served (course_from r (course_at [] beginning) calls).phase
right_after r [] a = record { rightly_served = tt; holds = refl }
right_after r (call ∷ calls) a =
    let k = course_from r (course_at [] beginning) calls in
    right_step r calls k.served k.phase call a.0 (right_after r calls a.1)

pub judges_sessions : JudgesSessions
judges_sessions r calls end h e =
    let k = right_after r calls (turns_of r calls h) in
    record { cause = subst (Holds r calls (course_after r calls).served) e k.holds; rightly = k.rightly_served }
