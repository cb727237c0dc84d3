-- Whose the items of a group's exchange are, and how many of its calls were timed or failed.
use Rattle.std.proofs.Common.{◌≡◌, ◌⊎◌, inl, inr, ◌≤◌, ℕ, ◌+◌, Bool, true, false, ◌||◌, List, [], ◌∷◌, ◌++◌, length, Option, Some, None, refl, sym, ap, ◌∙◌, subst, arith}
use Rattle.std.specs.Prelude.{◌==◌, if◌then◌else◌}
use Rattle.std.proofs.lemmas.Bool.{eq-eqb}
use Rattle.taps_socket.specs.RaceSockets.{has}
use Rattle.taps_socket.specs.declared.item.Item.{Item}
use Rattle.taps_socket.specs.declared.answers.SendAnswer.TheVariants as send
use Rattle.taps_socket.specs.declared.answers.RecvAnswer.TheVariants as recv
use Rattle.taps_socket.specs.Calls.{Call, sends, receives, shuts, closes, begins, starts, waits, listens, accepts, Request, to_send, to_shut, to_receive, request_of, items_by, items_of}
use Rattle.taps_socket.specs.Shows.{timed_by, timed_after, count_with}
use Rattle.taps_connection.specs.Outboxes.{Stand, begun, ending, refused, all_out}
use Rattle.taps_exchange.specs.declared.outcome.Outcome.{Outcome}
use Rattle.taps_exchange.specs.declared.outcome.Outcome.TheVariants as outcome
use Rattle.taps_exchange.specs.Decodings.{Hearing, enough, lacks, breaks}
use Rattle.taps_exchange.specs.Members.{Member, calls_on, has_ended, outbox_after, hearing_after}
use Rattle.taps_exchange.specs.Turns.{Turn, asks, over, Place, Waiting, stand_of, waiting_by, is_before, sooner, next_sender, turn_sending, turn_out, turn_in, turns_in, done_or, outcome_by, turn_of_group, IsInTurn, stop, stop_by, unless}
use Rattle.taps_exchange.specs.Outcomes.{count_by, count_failures}
use Rattle.taps_group_exchange.specs.GroupExchanges.{AreGroupItems, sockets_in}
use Rattle.taps_group_exchange.specs.GroupLaws.{JudgesGroups}

-- a request of a socket's data
abbrev pub IsOn : ℕ → Request → Type 0
IsOn s (to_send x bytes until) = x ≡ s
IsOn s (to_shut x) = x ≡ s
IsOn s (to_receive x most until) = x ≡ s
IsOn s _ = ⊥

-- one of some sockets
record IsOnOne (sockets : List ℕ) (r : Request) : Type 0 where
  socket : ℕ
  among : has sockets socket ≡ true
  on : IsOn socket r

pub not_asks : (r : Request) (o : Outcome) → over o ≡ asks r → ⊥
not_asks r o e = cc

pub same_over : (o p : Outcome) → over o ≡ over p → o ≡ p
same_over o p e = cc

or_right : (a b : Bool) → b ≡ true → (a || b) ≡ true
or_right true b h = refl
or_right false b h = h

or_left : (a b : Bool) → a ≡ true → (a || b) ≡ true
or_left true b h = refl
or_left false b h = cc

first_among : (s : ℕ) (sockets : List ℕ) → has (s ∷ sockets) s ≡ true
first_among s sockets = or_left (s == s) (has sockets s) (eq-eqb s s refl)

later_among : (s t : ℕ) (sockets : List ℕ) → has sockets t ≡ true → has (s ∷ sockets) t ≡ true
later_among s t sockets h = or_right (s == t) (has sockets t) h

out_asks : (m : Member) (n : ℕ) (st : Stand) (others : Turn) (r : Request) → turn_out m n st others ≡ asks r → IsOn m.socket r ⊎ (others ≡ asks r)
out_asks m n (begun number ends rest behind) others r e = inl (let x : to_send m.socket rest m.until ≡ r = cc in subst (IsOn m.socket) x refl)
out_asks m n (ending behind) others r e = inl (let x : to_shut m.socket ≡ r = cc in subst (IsOn m.socket) x refl)
out_asks m n (refused number layer behind) others r e = absurd (not_asks r (outcome.NotSpeakable n number layer) e)
out_asks m n all_out others r e = inr e

in_asks : (m : Member) (ended : Bool) (h : Hearing) (others : Turn) (r : Request) → turn_in m ended h others ≡ asks r → IsOn m.socket r ⊎ (others ≡ asks r)
in_asks m ended (enough ms) others r e = inr e
in_asks m true (lacks ms unread) others r e = absurd (not_asks r outcome.PeerEnded e)
in_asks m false (lacks ms unread) others r e = inl (let x : to_receive m.socket (m.decoding.most m.piece unread) m.until ≡ r = cc in subst (IsOn m.socket) x refl)
in_asks m ended (breaks ms l p) others r e = absurd (not_asks r (outcome.BadFrame (record { message = length ms; layer = l; place = p })) e)

later_on : (p : Place) (places : List Place) (r : Request) → IsOnOne (sockets_in places) r → IsOnOne (sockets_in (p ∷ places)) r
later_on p places r h = record { socket = h.socket; among = later_among p.member.socket h.socket (sockets_in places) h.among; on = h.on }

hears_asks : (calls : List Call) (places : List Place) (o : Outcome) (r : Request) → turns_in calls places (over o) ≡ asks r → IsOnOne (sockets_in places) r
hears_asks calls [] o r e = absurd (not_asks r o e)
hears_asks calls (p ∷ places) o r e = by (in_asks p.member (has_ended (calls_on p.member.socket calls)) (hearing_after p.member (calls_on p.member.socket calls)) (turns_in calls places (over o)) r e) (λ f. hears_asks calls places o r f)
  where
    by : IsOn p.member.socket r ⊎ (turns_in calls places (over o) ≡ asks r) → (turns_in calls places (over o) ≡ asks r → IsOnOne (sockets_in places) r) → IsOnOne (sockets_in (p ∷ places)) r
    by (inl on) rest = record { socket = p.member.socket; among = first_among p.member.socket (sockets_in places); on = on }
    by (inr f) rest = later_on p places r (rest f)

-- the next sender is a member
waits_place : (p : Place) (n : ℕ) (st : Stand) (w : Waiting) → waiting_by p n st ≡ Some w → w.place ≡ p
waits_place p n (begun number ends rest behind) w e = cc
waits_place p n (ending behind) w e = cc
waits_place p n (refused number layer behind) w e = cc
waits_place p n all_out w e = cc

one_of : (q : Bool) (a b w : Waiting) → (if q then Some b else Some a) ≡ Some w → (Some a ≡ Some w) ⊎ (Some b ≡ Some w)
one_of true a b w e = inr e
one_of false a b w e = inl e

pub sooner_is : (a b : Option Waiting) (w : Waiting) → sooner a b ≡ Some w → (a ≡ Some w) ⊎ (b ≡ Some w)
sooner_is None b w e = inr e
sooner_is (Some a) None w e = inl e
sooner_is (Some a) (Some b) w e = one_of (is_before b a) a b w e

next_among : (calls : List Call) (n : ℕ) (places : List Place) (w : Waiting) → next_sender calls n places ≡ Some w → has (sockets_in places) w.place.member.socket ≡ true
next_among calls n [] w e = cc
next_among calls n (p ∷ places) w e = by (sooner_is (waiting_by p n (stand_of calls p)) (next_sender calls (n + 1) places) w e) (λ f. next_among calls (n + 1) places w f)
  where
    by : (waiting_by p n (stand_of calls p) ≡ Some w) ⊎ (next_sender calls (n + 1) places ≡ Some w) → (next_sender calls (n + 1) places ≡ Some w → has (sockets_in places) w.place.member.socket ≡ true) → has (sockets_in (p ∷ places)) w.place.member.socket ≡ true
    by (inl f) rest = subst (λ (v : Place). has (sockets_in (p ∷ places)) v.member.socket ≡ true) (sym (waits_place p n (stand_of calls p) w f)) (first_among p.member.socket (sockets_in places))
    by (inr f) rest = later_among p.member.socket w.place.member.socket (sockets_in places) (rest f)

sends_asks : (calls : List Call) (places : List Place) (o : Outcome) (next : Option Waiting) (r : Request) → next_sender calls 0 places ≡ next → turn_sending next (turns_in calls places (over o)) ≡ asks r → IsOnOne (sockets_in places) r
sends_asks calls places o None r is e = hears_asks calls places o r e
sends_asks calls places o (Some w) r is e = by (out_asks w.place.member w.number w.stand (turns_in calls places (over o)) r e)
  where
    by : IsOn w.place.member.socket r ⊎ (turns_in calls places (over o) ≡ asks r) → IsOnOne (sockets_in places) r
    by (inl on) = record { socket = w.place.member.socket; among = next_among calls 0 places w is; on = on }
    by (inr f) = hears_asks calls places o r f

pub asks_go : (s : Option Outcome) (t : Turn) (r : Request) → unless s t ≡ asks r → (s ≡ None) × (t ≡ asks r)
asks_go None t r e = (refl, e)
asks_go (Some o) t r e = absurd (not_asks r o e)

abbrev pub turn_behind : List Call → List Place → Turn
turn_behind calls places = turn_sending (next_sender calls 0 places) (turns_in calls places (over (outcome_by calls 0 places)))

asked_one : (calls : List Call) (places : List Place) (r : Request) → turn_of_group places calls ≡ asks r → IsOnOne (sockets_in places) r
asked_one calls places r e = sends_asks calls places (outcome_by calls 0 places) (next_sender calls 0 places) r refl (asks_go (stop calls) (turn_behind calls places) r e).1

-- the items of such a call
items_step : (sockets : List ℕ) (c : Call) → IsOnOne sockets (request_of c) → AreGroupItems sockets (items_by c)
items_step sockets (sends s b u (send.Sent count at)) h = tt
items_step sockets (sends s b u (send.Timed at)) h = tt
items_step sockets (sends s b u (send.Failed cause)) h = ((h.socket, (h.among, h.on)), tt)
items_step sockets (receives s most u came (recv.Got count at)) h = tt
items_step sockets (receives s most u came recv.End) h = ((h.socket, (h.among, h.on)), tt)
items_step sockets (receives s most u came (recv.Timed at)) h = tt
items_step sockets (receives s most u came (recv.Failed cause)) h = ((h.socket, (h.among, h.on)), tt)
items_step sockets (shuts s) h = ((h.socket, (h.among, h.on)), tt)
items_step sockets (closes s) h = absurd h.on
items_step sockets (begins at) h = absurd h.on
items_step sockets (starts l g a) h = absurd h.on
items_step sockets (waits u a) h = absurd h.on
items_step sockets (listens g a) h = absurd h.on
items_step sockets (accepts l u a) h = absurd h.on

all_append : (sockets : List ℕ) (a b : List Item) → AreGroupItems sockets a → AreGroupItems sockets b → AreGroupItems sockets (a ++ b)
all_append sockets [] b h g = g
all_append sockets (i ∷ a) b h g = (h.0, all_append sockets a b h.1 g)

pub items_are : (places : List Place) (calls : List Call) → IsInTurn (turn_of_group places) calls → AreGroupItems (sockets_in places) (items_of calls)
items_are places [] t = tt
items_are places (c ∷ calls) t = all_append (sockets_in places) (items_by c) (items_of calls) (items_step (sockets_in places) c (asked_one calls places (request_of c) t.0)) (items_are places calls t.1)

-- at most the newest call failed
abbrev not_failed : Option Outcome → ℕ
not_failed None = 0
not_failed (Some o) = 1

failures_append : (a b : List Item) → count_failures (a ++ b) ≡ count_failures a + count_failures b
failures_append [] b = omega arith
failures_append (i ∷ a) b = (let h = failures_append a b in omega arith)

failures_step : (sockets : List ℕ) (c : Call) → IsOnOne sockets (request_of c) → count_failures (items_by c) ≤ not_failed (stop_by c)
failures_step sockets (sends s b u (send.Sent count at)) h = omega arith
failures_step sockets (sends s b u (send.Timed at)) h = omega arith
failures_step sockets (sends s b u (send.Failed cause)) h = omega arith
failures_step sockets (receives s most u came (recv.Got count at)) h = omega arith
failures_step sockets (receives s most u came recv.End) h = omega arith
failures_step sockets (receives s most u came (recv.Timed at)) h = omega arith
failures_step sockets (receives s most u came (recv.Failed cause)) h = omega arith
failures_step sockets (shuts s) h = omega arith
failures_step sockets (closes s) h = absurd h.on
failures_step sockets (begins at) h = absurd h.on
failures_step sockets (starts l g a) h = absurd h.on
failures_step sockets (waits u a) h = absurd h.on
failures_step sockets (listens g a) h = absurd h.on
failures_step sockets (accepts l u a) h = absurd h.on

failures_are : (places : List Place) (calls : List Call) → IsInTurn (turn_of_group places) calls → count_failures (items_of calls) ≤ not_failed (stop calls)
failures_are places [] t = omega arith
failures_are places (c ∷ calls) t =
    let before : count_failures (items_of calls) ≤ 0 = subst (λ v. count_failures (items_of calls) ≤ not_failed v) (asks_go (stop calls) (turn_behind calls places) (request_of c) t.0).0 (failures_are places calls t.1) in
    let newest = failures_step (sockets_in places) c (asked_one calls places (request_of c) t.0) in
    let sum = failures_append (items_by c) (items_of calls) in
    omega (arith, before, newest, sum)

at_most : (o : Option Outcome) → not_failed o ≤ 1
at_most None = omega arith
at_most (Some o) = omega arith

-- one timed call more, where the newest call says so
abbrev count_stop : Option Outcome → ℕ → ℕ
count_stop None n = n
count_stop (Some o) n = count_by o n

timed_newest : (sockets : List ℕ) (c : Call) (n : ℕ) → IsOnOne sockets (request_of c) → count_with (timed_by c) n ≡ count_stop (stop_by c) n
timed_newest sockets (sends s b u (send.Sent count at)) n h = refl
timed_newest sockets (sends s b u (send.Timed at)) n h = refl
timed_newest sockets (sends s b u (send.Failed cause)) n h = refl
timed_newest sockets (receives s most u came (recv.Got count at)) n h = refl
timed_newest sockets (receives s most u came recv.End) n h = refl
timed_newest sockets (receives s most u came (recv.Timed at)) n h = refl
timed_newest sockets (receives s most u came (recv.Failed cause)) n h = refl
timed_newest sockets (shuts s) n h = refl
timed_newest sockets (closes s) n h = absurd h.on
timed_newest sockets (begins at) n h = absurd h.on
timed_newest sockets (starts l g a) n h = absurd h.on
timed_newest sockets (waits u a) n h = absurd h.on
timed_newest sockets (listens g a) n h = absurd h.on
timed_newest sockets (accepts l u a) n h = absurd h.on

timed_is : (places : List Place) (calls : List Call) (n : ℕ) → IsInTurn (turn_of_group places) calls → timed_after calls n ≡ count_stop (stop calls) n
timed_is places [] n t = refl
timed_is places (c ∷ calls) n t =
    ap (λ v. count_with (timed_by c) v) (timed_is places calls n t.1 ∙ ap (λ v. count_stop v n) (asks_go (stop calls) (turn_behind calls places) (request_of c) t.0).0)
    ∙ timed_newest (sockets_in places) c n (asked_one calls places (request_of c) t.0)

-- no other end of an exchange is timed
timed_not : (x : Option ℕ) (n : ℕ) (o : Outcome) → done_or x n o ≡ outcome.Timed → o ≡ outcome.Timed
timed_not None n o e = e
timed_not (Some k) n o e = absurd (cc)

done_not : (calls : List Call) (n : ℕ) (places : List Place) → outcome_by calls n places ≡ outcome.Timed → ⊥
done_not calls n [] e = cc
done_not calls n (p ∷ places) e = done_not calls (n + 1) places (timed_not (outbox_after p.member (calls_on p.member.socket calls)).expired n (outcome_by calls (n + 1) places) e)

in_not : (m : Member) (ended : Bool) (h : Hearing) (others : Turn) → turn_in m ended h others ≡ over outcome.Timed → others ≡ over outcome.Timed
in_not m ended (enough ms) others e = e
in_not m true (lacks ms unread) others e = absurd (cc)
in_not m false (lacks ms unread) others e = absurd (cc)
in_not m ended (breaks ms l p) others e = absurd (cc)

hears_not : (calls : List Call) (places : List Place) (o : Outcome) → turns_in calls places (over o) ≡ over outcome.Timed → o ≡ outcome.Timed
hears_not calls [] o e = same_over o outcome.Timed e
hears_not calls (p ∷ places) o e = hears_not calls places o (in_not p.member (has_ended (calls_on p.member.socket calls)) (hearing_after p.member (calls_on p.member.socket calls)) (turns_in calls places (over o)) e)

out_not : (m : Member) (n : ℕ) (st : Stand) (others : Turn) → turn_out m n st others ≡ over outcome.Timed → others ≡ over outcome.Timed
out_not m n (begun number ends rest behind) others e = absurd (cc)
out_not m n (ending behind) others e = absurd (cc)
out_not m n (refused number layer behind) others e = absurd (cc)
out_not m n all_out others e = e

sends_not : (next : Option Waiting) (others : Turn) → turn_sending next others ≡ over outcome.Timed → others ≡ over outcome.Timed
sends_not None others e = e
sends_not (Some w) others e = out_not w.place.member w.number w.stand others e

count_outcome : (calls : List Call) (places : List Place) (o : Outcome) (s : Option Outcome) (n : ℕ) → unless s (turn_behind calls places) ≡ over o → count_stop s n ≡ count_by o n
count_outcome calls places o (Some q) n e = ap (λ v. count_by v n) (same_over q o e)
count_outcome calls places outcome.Timed None n e = absurd (done_not calls 0 places (hears_not calls places (outcome_by calls 0 places) (sends_not (next_sender calls 0 places) (turns_in calls places (over (outcome_by calls 0 places))) e)))
count_outcome calls places outcome.Done None n e = refl
count_outcome calls places (outcome.Expired place k) None n e = refl
count_outcome calls places (outcome.DataFailed cause) None n e = refl
count_outcome calls places outcome.PeerEnded None n e = refl
count_outcome calls places (outcome.BadFrame b) None n e = refl
count_outcome calls places (outcome.NotSpeakable place k l) None n e = refl

pub judged : JudgesGroups
judged places calls o x =
    let few = failures_are places calls x.in_turn in
    let most = at_most (stop calls) in
    record {
      own_items = items_are places calls x.in_turn;
      one_failure = omega (arith, few, most);
      timed = λ n. timed_is places calls n x.in_turn ∙ count_outcome calls places o (stop calls) n x.ends;
    }
