-- A session makes one timed call more where its outcome is Timed, and else none; and it ends Faulted where an accept was.
use Rattle.std.proofs.Common.{◌≡◌, ℕ, Bool, true, false, ◌||◌, List, [], ◌∷◌, length, Option, Some, None, nat_lt, if◌then◌else◌, refl, ap, sym, subst, ◌∙◌}
use Rattle.taps_socket.specs.declared.answers.ListenAnswer.TheVariants as listen
use Rattle.taps_socket.specs.declared.answers.AcceptAnswer.TheVariants as accept
use Rattle.taps_socket.specs.declared.answers.SendAnswer.TheVariants as send
use Rattle.taps_socket.specs.declared.answers.RecvAnswer.TheVariants as recv
use Rattle.taps_socket.specs.Calls.{Call, sends, receives, shuts, closes, begins, starts, waits, listens, accepts, Request, to_close, request_of}
use Rattle.taps_socket.specs.Shows.{timed_by, count_with, timed_after, is_faulted, some_faulted}
use Rattle.taps_connection.specs.Outboxes.{Stand, begun, ending, refused, all_out}
use Rattle.taps_exchange.specs.declared.outcome.Outcome.{Outcome}
use Rattle.taps_exchange.specs.declared.outcome.Outcome.TheVariants as outcome
use Rattle.taps_exchange.specs.Decodings.{Hearing, enough, lacks, breaks}
use Rattle.taps_exchange.specs.Members.{Member, has_ended}
use Rattle.taps_exchange.specs.Outcomes.{count_by}
use Rattle.taps_exchange.specs.Turns.{Turn, asks, over, stop, stop_by, unless, done_or, turn_in, turn_out}
use Rattle.taps_listening.specs.declared.listened.ListenEnd.{ListenEnd}
use Rattle.taps_listening.specs.declared.listened.ListenEnd.TheVariants as ends
use Rattle.taps_listening.specs.Accepts.{is_done}
use Rattle.taps_listening.specs.ListenRules.{ListenRules}
use Rattle.taps_listening.specs.Listening.{Phase, beginning, opening, accepting, serving, pausing, stopping, stopped, course_at, course_in, course_from, phase_behind, or_later, outcome_by, outcome_in, outcome_of, closing_by, turn_in_phase, AllInTurn}
use Rattle.taps_listening.specs.Serving.{Served, member_of, outbox_of, hearing_of, own_outcome, turn_by, turn_serving, with_call, with_call_by}
use Rattle.taps_listening.proofs.Covers.{never_asked, is_close}
use Rattle.taps_listening.proofs.Lifting.{is_serving, asks_serving}

-- the outcome by which the newest call of a connection ended its exchange, if one did
abbrev pub newest_stop : Option ℕ → Served → Option Outcome
newest_stop None c = stop c.hears
newest_stop (Some at) c = stop c.answers

abbrev pub count_if : Option Outcome → ℕ → ℕ
count_if None n = n
count_if (Some o) n = count_by o n

-- the number of timed calls by a phase, and whether an accept was faulted
abbrev pub count_in : Phase → ℕ → ℕ
count_in beginning n = n
count_in opening n = n
count_in (accepting listener told) n = n
count_in (serving listener c) n = count_if (newest_stop c.answered c) n
count_in (pausing listener) n = n
count_in (stopping listener end) n = count_by (outcome_of end) n
count_in (stopped end) n = count_by (outcome_of end) n

abbrev pub is_fault : ListenEnd → Bool
is_fault ends.Faulted = true
is_fault _ = false

abbrev pub faulted_in : Phase → Bool
faulted_in (stopping listener end) = is_fault end
faulted_in (stopped end) = is_fault end
faulted_in _ = false

-- before it accepted messages a connection sent none
abbrev pub IsUnsent : Served → Type 0
IsUnsent c = c.answered ≡ None → c.answers ≡ []

abbrev pub AreUnsent : Phase → Type 0
AreUnsent (serving listener c) = IsUnsent c
AreUnsent _ = Unit {0}

-- what calls tell, so many of which were timed, and of which one was faulted or none, by the phase after them
pub record IsTold (n m : ℕ) (f : Bool) (p : Phase) : Type 0 where
  pub timed : m ≡ count_in p n
  pub fault : faulted_in p ≡ true → f ≡ true
  pub unsent : AreUnsent p

-- an outcome that is done is none of a timed call
done_counts : (o : Outcome) (n : ℕ) → is_done o ≡ true → count_by o n ≡ n
done_counts outcome.Done n h = refl
done_counts (outcome.Expired place number) n h = refl
done_counts outcome.Timed n h = cc
done_counts (outcome.DataFailed cause) n h = refl
done_counts outcome.PeerEnded n h = refl
done_counts (outcome.BadFrame b) n h = refl
done_counts (outcome.NotSpeakable place number layer) n h = refl

own_done : (expired : Option ℕ) (place : ℕ) → is_done (done_or expired place outcome.Done) ≡ true
own_done None place = refl
own_done (Some number) place = refl

later_done : (a b : Outcome) → is_done a ≡ true → is_done b ≡ true → is_done (or_later a b) ≡ true
later_done outcome.Done b h g = g
later_done (outcome.Expired place number) b h g = refl
later_done outcome.Timed b h g = cc
later_done (outcome.DataFailed cause) b h g = cc
later_done outcome.PeerEnded b h g = cc
later_done (outcome.BadFrame c) b h g = cc
later_done (outcome.NotSpeakable place number layer) b h g = cc

pub all_done : (r : ListenRules) (served : List Served) → is_done (outcome_by r served) ≡ true
all_done r [] = refl
all_done r (c ∷ served) = later_done (outcome_by r served) (own_outcome r (length served) c) (all_done r served) (own_done (outbox_of r c).expired (length served))

next_counts : (b : Bool) (l : ℕ) (o : Outcome) (n : ℕ) → is_done o ≡ true → count_in (if b then pausing l else stopping l (ends.Exchanged o)) n ≡ n
next_counts true l o n h = refl
next_counts false l o n h = done_counts o n h

behind_counts : (r : ListenRules) (l : ℕ) (served : List Served) (o : Outcome) (n : ℕ) → count_in (phase_behind r l served o) n ≡ count_by o n
behind_counts r l served outcome.Done n = next_counts (nat_lt (length served) r.limit) l (outcome_by r served) n (all_done r served)
behind_counts r l served (outcome.Expired place number) n = next_counts (nat_lt (length served) r.limit) l (outcome_by r served) n (all_done r served)
behind_counts r l served outcome.Timed n = refl
behind_counts r l served (outcome.DataFailed cause) n = refl
behind_counts r l served outcome.PeerEnded n = refl
behind_counts r l served (outcome.BadFrame b) n = refl
behind_counts r l served (outcome.NotSpeakable place number layer) n = refl

-- it tells no fault
record IsQuiet (p : Phase) : Type 0 where
  no_fault : faulted_in p ≡ false
  unsent : AreUnsent p

next_quiet : (b : Bool) (l : ℕ) (o : Outcome) → IsQuiet (if b then pausing l else stopping l (ends.Exchanged o))
next_quiet true l o = record { no_fault = refl; unsent = tt }
next_quiet false l o = record { no_fault = refl; unsent = tt }

behind_quiet : (r : ListenRules) (l : ℕ) (served : List Served) (o : Outcome) → IsQuiet (phase_behind r l served o)
behind_quiet r l served outcome.Done = next_quiet (nat_lt (length served) r.limit) l (outcome_by r served)
behind_quiet r l served (outcome.Expired place number) = next_quiet (nat_lt (length served) r.limit) l (outcome_by r served)
behind_quiet r l served outcome.Timed = record { no_fault = refl; unsent = tt }
behind_quiet r l served (outcome.DataFailed cause) = record { no_fault = refl; unsent = tt }
behind_quiet r l served outcome.PeerEnded = record { no_fault = refl; unsent = tt }
behind_quiet r l served (outcome.BadFrame b) = record { no_fault = refl; unsent = tt }
behind_quiet r l served (outcome.NotSpeakable place number layer) = record { no_fault = refl; unsent = tt }

no_more : (p : Phase) (f : Bool) → faulted_in p ≡ false → faulted_in p ≡ true → f ≡ true
no_more p f a b = (let x : false ≡ true = sym a ∙ b in cc)

-- where a call comes next, the newest one before it ended nothing
in_none : (m : Member) (s : Option Outcome) (e : Bool) (h : Hearing) (others : Turn) (q : Request) → unless s (turn_in m e h others) ≡ asks q → s ≡ None
in_none m (Some o) e h others q a = (let x : over o ≡ asks q = a in cc)
in_none m None e h others q a = refl

out_none : (m : Member) (place : ℕ) (s : Option Outcome) (stand : Stand) (others : Turn) (q : Request) → unless s (turn_out m place stand others) ≡ asks q → s ≡ None
out_none m place (Some o) stand others q a = (let x : over o ≡ asks q = a in cc)
out_none m place None stand others q a = refl

asks_none : (r : ListenRules) (place : ℕ) (c : Served) (a : Option ℕ) (q : Request) → turn_by r place c a ≡ asks q → newest_stop a c ≡ None
asks_none r place c None q h = in_none (member_of r c) (stop c.hears) (has_ended c.hears) (hearing_of r c) _ q h
asks_none r place c (Some at) q h = out_none (member_of r c) place (stop c.answers) (outbox_of r c).stand _ q h

-- where it is over, the outcome counts as the newest call does
in_counts : (m : Member) (s : Option Outcome) (e : Bool) (h : Hearing) (q : Request) (o : Outcome) (n : ℕ) → unless s (turn_in m e h (asks q)) ≡ over o → count_if s n ≡ count_by o n
in_counts m (Some p) e h q o n a = (let x : p ≡ o = (let y : over p ≡ over o = a in cc) in ap (λ v. count_by v n) x)
in_counts m None e (enough ms) q o n a = (let y : asks q ≡ over o = a in cc)
in_counts m None true (lacks ms unread) q o n a = (let x : outcome.PeerEnded ≡ o = (let y : over outcome.PeerEnded ≡ over o = a in cc) in ap (λ v. count_by v n) x)
in_counts m None false (lacks ms unread) q o n a = cc
in_counts m None e (breaks ms layer place) q o n a =
    (let x : outcome.BadFrame (record { message = length ms; layer = layer; place = place }) ≡ o = (let y : over (outcome.BadFrame (record { message = length ms; layer = layer; place = place })) ≡ over o = a in cc) in ap (λ v. count_by v n) x)

out_counts : (m : Member) (place : ℕ) (s : Option Outcome) (stand : Stand) (own o : Outcome) (n : ℕ) → is_done own ≡ true → unless s (turn_out m place stand (over own)) ≡ over o → count_if s n ≡ count_by o n
out_counts m place (Some p) stand own o n d a = (let x : p ≡ o = (let y : over p ≡ over o = a in cc) in ap (λ v. count_by v n) x)
out_counts m place None (begun number ends' rest behind) own o n d a = cc
out_counts m place None (ending behind) own o n d a = cc
out_counts m place None (refused number layer behind) own o n d a =
    (let x : outcome.NotSpeakable place number layer ≡ o = (let y : over (outcome.NotSpeakable place number layer) ≡ over o = a in cc) in ap (λ v. count_by v n) x)
out_counts m place None all_out own o n d a = (let x : own ≡ o = (let y : over own ≡ over o = a in cc) in sym (ap (λ v. count_by v n) (sym x) ∙ done_counts own n d))

over_counts : (r : ListenRules) (place : ℕ) (c : Served) (a : Option ℕ) (o : Outcome) (n : ℕ) → turn_by r place c a ≡ over o → count_if (newest_stop a c) n ≡ count_by o n
over_counts r place c None o n h = in_counts (member_of r c) (stop c.hears) (has_ended c.hears) (hearing_of r c) _ o n h
over_counts r place c (Some at) o n h = out_counts (member_of r c) place (stop c.answers) (outbox_of r c).stand (own_outcome r place c) o n (own_done (outbox_of r c).expired place) h

-- a call on a connection counts by whether it ended the exchange
data_counts : (call : Call) (n : ℕ) → is_serving (request_of call) ≡ true → count_with (timed_by call) n ≡ count_if (stop_by call) n
data_counts (sends s b u (send.Sent count at)) n h = refl
data_counts (sends s b u (send.Timed at)) n h = refl
data_counts (sends s b u (send.Failed cause)) n h = refl
data_counts (receives s most u came (recv.Got count at)) n h = refl
data_counts (receives s most u came recv.End) n h = refl
data_counts (receives s most u came (recv.Timed at)) n h = refl
data_counts (receives s most u came (recv.Failed cause)) n h = refl
data_counts (shuts s) n h = refl
data_counts (begins at) n h = refl
data_counts (closes s) n h = cc
data_counts (starts i g a) n h = cc
data_counts (waits u a) n h = cc
data_counts (listens g a) n h = cc
data_counts (accepts i u a) n h = cc

data_faultless : (call : Call) → is_serving (request_of call) ≡ true → is_faulted call ≡ false
data_faultless (sends s b u a) h = refl
data_faultless (receives s most u came a) h = refl
data_faultless (shuts s) h = refl
data_faultless (begins at) h = refl
data_faultless (closes s) h = cc
data_faultless (starts i g a) h = cc
data_faultless (waits u a) h = cc
data_faultless (listens g a) h = cc
data_faultless (accepts i u a) h = cc

-- how a connection is after it
record IsNext (c d : Served) (call : Call) : Type 0 where
  newest : newest_stop d.answered d ≡ stop_by call
  unsent : IsUnsent d

hears_next : (c : Served) (call : Call) → c.answered ≡ None → IsUnsent c → IsNext c (record c { hears = call ∷ c.hears }) call
hears_next c call e unsent = record { newest = ap (λ v. newest_stop v (record c { hears = call ∷ c.hears })) e; unsent = unsent }

next_by : (c : Served) (a : Option ℕ) (call : Call) → c.answered ≡ a → IsUnsent c → is_serving (request_of call) ≡ true → IsNext c (with_call_by c a call) call
next_by c None (begins at) e unsent h =
    record { newest = ap stop (unsent e); unsent = λ x. (let y : Some at ≡ None = x in cc) }
next_by c None (sends s b u a) e unsent h = hears_next c (sends s b u a) e unsent
next_by c None (receives s most u came a) e unsent h = hears_next c (receives s most u came a) e unsent
next_by c None (shuts s) e unsent h = hears_next c (shuts s) e unsent
next_by c None (closes s) e unsent h = cc
next_by c None (starts i g a) e unsent h = cc
next_by c None (waits u a) e unsent h = cc
next_by c None (listens g a) e unsent h = cc
next_by c None (accepts i u a) e unsent h = cc
next_by c (Some at) call e unsent h =
    record {
      newest = ap (λ v. newest_stop v (record c { answers = call ∷ c.answers })) e;
      unsent = λ x. (let y : Some at ≡ None = sym e ∙ x in cc);
    }

told_data : (n m : ℕ) (f : Bool) (l : ℕ) (c : Served) (call : Call) → is_serving (request_of call) ≡ true → newest_stop c.answered c ≡ None → IsTold n m f (serving l c) → IsTold n (count_with (timed_by call) m) (is_faulted call || f) (serving l (with_call c call))
told_data n m f l c call h none k =
    let after = next_by c c.answered call refl k.unsent h in
    let so_far : m ≡ n = k.timed ∙ ap (λ v. count_if v n) none in
    record {
      timed = ap (λ (v : ℕ). count_with (timed_by call) v) so_far ∙ (data_counts call n h ∙ sym (ap (λ v. count_if v n) after.newest));
      fault = λ x. cc;
      unsent = after.unsent;
    }

told_alone : (n m : ℕ) (f : Bool) (p : Phase) → m ≡ count_in p n → IsQuiet p → IsTold n m f p
told_alone n m f p e q = record { timed = e; fault = no_more p f q.no_fault; unsent = q.unsent }

opened_told : (s at n m : ℕ) (f b : Bool) → m ≡ n → IsTold n m f (if b then accepting s at else stopping s (ends.Exchanged outcome.Done))
opened_told s at n m f true e = record { timed = e; fault = λ x. cc; unsent = tt }
opened_told s at n m f false e = record { timed = e; fault = λ x. cc; unsent = tt }

-- where a connection is served, its exchange is over or a call comes next on it
pub over_of : (socket s : ℕ) (turn : Turn) → ((q : Request) → turn ≡ asks q → is_serving q ≡ true) → closing_by socket turn ≡ asks (to_close s) → turn ≡ over (outcome_in turn)
over_of socket s (asks q) own e = (let x : q ≡ to_close s = cc in let y : true ≡ false = sym (own q refl) ∙ ap is_serving x in cc)
over_of socket s (over o) own e = refl

pub asks_of : (socket : ℕ) (turn : Turn) (p : Request) → is_close p ≡ false → closing_by socket turn ≡ asks p → turn ≡ asks p
asks_of socket (asks q) p f e = e
asks_of socket (over o) p f e = (let x : to_close socket ≡ p = cc in let y : true ≡ false = ap is_close x ∙ f in cc)

told_serving : (r : ListenRules) (served : List Served) (l : ℕ) (c : Served) (call : Call) (n m : ℕ) (f : Bool) → is_serving (request_of call) ≡ true → is_close (request_of call) ≡ false → turn_in_phase r served (serving l c) ≡ asks (request_of call) → IsTold n m f (serving l c) →
    IsTold n (count_with (timed_by call) m) (is_faulted call || f) (serving l (with_call c call))
told_serving r served l c call n m f h g e k =
    told_data n m f l c call h (asks_none r (length served) c c.answered (request_of call) (asks_of c.socket (turn_serving r (length served) c) (request_of call) g e)) k

told_step : (r : ListenRules) (served : List Served) (p : Phase) (call : Call) (n m : ℕ) (f : Bool) → turn_in_phase r served p ≡ asks (request_of call) → IsTold n m f p →
    IsTold n (count_with (timed_by call) m) (is_faulted call || f) (course_in r served p call).phase
told_step r served (serving l c) (closes s) n m f e k =
    let T = turn_serving r (length served) c in
    let is_over = over_of c.socket s T (asks_serving r (length served) c) e in
    told_alone n m f (phase_behind r l (c ∷ served) (outcome_in T))
    (k.timed ∙ (over_counts r (length served) c c.answered (outcome_in T) n is_over ∙ sym (behind_counts r l (c ∷ served) (outcome_in T) n)))
    (behind_quiet r l (c ∷ served) (outcome_in T))
told_step r served (serving l c) (begins at) n m f e k = told_serving r served l c (begins at) n m f refl refl e k
told_step r served (serving l c) (sends s b u a) n m f e k = told_serving r served l c (sends s b u a) n m f refl refl e k
told_step r served (serving l c) (shuts s) n m f e k = told_serving r served l c (shuts s) n m f refl refl e k
told_step r served (serving l c) (receives s most u came a) n m f e k = told_serving r served l c (receives s most u came a) n m f refl refl e k
told_step r served (serving l c) (starts i g a) n m f e k = absurd (never_asked c.socket (turn_serving r (length served) c) (request_of (starts i g a)) refl refl (asks_serving r (length served) c) e)
told_step r served (serving l c) (waits u a) n m f e k = absurd (never_asked c.socket (turn_serving r (length served) c) (request_of (waits u a)) refl refl (asks_serving r (length served) c) e)
told_step r served (serving l c) (listens g a) n m f e k = absurd (never_asked c.socket (turn_serving r (length served) c) (request_of (listens g a)) refl refl (asks_serving r (length served) c) e)
told_step r served (serving l c) (accepts i u a) n m f e k = absurd (never_asked c.socket (turn_serving r (length served) c) (request_of (accepts i u a)) refl refl (asks_serving r (length served) c) e)
told_step r served beginning (begins at) n m f e k = record { timed = k.timed; fault = λ x. cc; unsent = tt }
told_step r served beginning (starts i g a) n m f e k = cc
told_step r served beginning (waits u a) n m f e k = cc
told_step r served beginning (closes s) n m f e k = cc
told_step r served beginning (listens g a) n m f e k = cc
told_step r served beginning (accepts i u a) n m f e k = cc
told_step r served beginning (sends s b u a) n m f e k = cc
told_step r served beginning (shuts s) n m f e k = cc
told_step r served beginning (receives s most u came a) n m f e k = cc
told_step r served opening (listens g (listen.Listening s at)) n m f e k = opened_told s at n m f (nat_lt 0 r.limit) k.timed
told_step r served opening (listens g (listen.Refused cause at)) n m f e k = record { timed = k.timed; fault = λ x. cc; unsent = tt }
told_step r served opening (begins at) n m f e k = cc
told_step r served opening (starts i g a) n m f e k = cc
told_step r served opening (waits u a) n m f e k = cc
told_step r served opening (closes s) n m f e k = cc
told_step r served opening (accepts i u a) n m f e k = cc
told_step r served opening (sends s b u a) n m f e k = cc
told_step r served opening (shuts s) n m f e k = cc
told_step r served opening (receives s most u came a) n m f e k = cc
told_step r served (accepting l told) (accepts i u (accept.Accepted s at)) n m f e k = record { timed = k.timed; fault = λ x. cc; unsent = λ x. refl }
told_step r served (accepting l told) (accepts i u (accept.Timed at)) n m f e k = record { timed = ap (λ (v : ℕ). count_by outcome.Timed v) k.timed; fault = λ x. cc; unsent = tt }
told_step r served (accepting l told) (accepts i u (accept.Faulted at)) n m f e k = record { timed = k.timed; fault = λ x. refl; unsent = tt }
told_step r served (accepting l told) (begins at) n m f e k = cc
told_step r served (accepting l told) (starts i g a) n m f e k = cc
told_step r served (accepting l told) (waits u a) n m f e k = cc
told_step r served (accepting l told) (closes s) n m f e k = cc
told_step r served (accepting l told) (listens g a) n m f e k = cc
told_step r served (accepting l told) (sends s b u a) n m f e k = cc
told_step r served (accepting l told) (shuts s) n m f e k = cc
told_step r served (accepting l told) (receives s most u came a) n m f e k = cc
told_step r served (pausing l) (begins at) n m f e k = record { timed = k.timed; fault = λ x. cc; unsent = tt }
told_step r served (pausing l) (starts i g a) n m f e k = cc
told_step r served (pausing l) (waits u a) n m f e k = cc
told_step r served (pausing l) (closes s) n m f e k = cc
told_step r served (pausing l) (listens g a) n m f e k = cc
told_step r served (pausing l) (accepts i u a) n m f e k = cc
told_step r served (pausing l) (sends s b u a) n m f e k = cc
told_step r served (pausing l) (shuts s) n m f e k = cc
told_step r served (pausing l) (receives s most u came a) n m f e k = cc
told_step r served (stopping l end) (closes s) n m f e k = record { timed = k.timed; fault = k.fault; unsent = tt }
told_step r served (stopping l end) (begins at) n m f e k = cc
told_step r served (stopping l end) (starts i g a) n m f e k = cc
told_step r served (stopping l end) (waits u a) n m f e k = cc
told_step r served (stopping l end) (listens g a) n m f e k = cc
told_step r served (stopping l end) (accepts i u a) n m f e k = cc
told_step r served (stopping l end) (sends s b u a) n m f e k = cc
told_step r served (stopping l end) (shuts s) n m f e k = cc
told_step r served (stopping l end) (receives s most u came a) n m f e k = cc
told_step r served (stopped end) call n m f e k = cc

pub told_after : (r : ListenRules) (n : ℕ) (calls : List Call) → AllInTurn r (course_at [] beginning) calls → IsTold n (timed_after calls n) (some_faulted calls) (course_from r (course_at [] beginning) calls).phase
told_after r n [] a = record { timed = refl; fault = λ x. cc; unsent = tt }
told_after r n (call ∷ calls) a =
    let k = course_from r (course_at [] beginning) calls in
    told_step r k.served k.phase call n (timed_after calls n) (some_faulted calls) a.0 (told_after r n calls a.1)

pub timed_is : (r : ListenRules) (calls : List Call) (end : ListenEnd) (n : ℕ) → AllInTurn r (course_at [] beginning) calls → (course_from r (course_at [] beginning) calls).phase ≡ stopped end → timed_after calls n ≡ count_by (outcome_of end) n
timed_is r calls end n a e = (subst (IsTold n (timed_after calls n) (some_faulted calls)) e (told_after r n calls a)).timed

pub fault_is : (r : ListenRules) (calls : List Call) (end : ListenEnd) → AllInTurn r (course_at [] beginning) calls → (course_from r (course_at [] beginning) calls).phase ≡ stopped end → end ≡ ends.Faulted → some_faulted calls ≡ true
fault_is r calls end a e f = (subst (IsTold 0 (timed_after calls 0) (some_faulted calls)) e (told_after r 0 calls a)).fault (ap is_fault f)
