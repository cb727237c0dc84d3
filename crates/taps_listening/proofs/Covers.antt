-- Of the sockets that a session was given all are closed but those that are open in its phase.
use Rattle.std.proofs.Common.{◌≡◌, ◌⊎◌, inl, inr, ℕ, Bool, true, false, ◌||◌, List, [], ◌∷◌, ◌++◌, length, Option, Some, None, nat_lt, if◌then◌else◌, refl, ap, sym, subst, ◌∙◌, append_assoc}
use Rattle.std.specs.Prelude.{◌==◌}
use Rattle.std.proofs.lemmas.List.Folds.{list_any-append}
use Rattle.taps_socket.specs.declared.answers.ListenAnswer.TheVariants as listen
use Rattle.taps_socket.specs.declared.answers.AcceptAnswer.TheVariants as accept
use Rattle.taps_socket.specs.declared.answers.SendAnswer.TheVariants as send
use Rattle.taps_socket.specs.declared.answers.RecvAnswer.TheVariants as recv
use Rattle.taps_socket.specs.declared.item.Item.{Item}
use Rattle.taps_socket.specs.declared.item.Item.TheVariants as item
use Rattle.taps_socket.specs.Calls.{Call, sends, receives, shuts, closes, begins, starts, waits, listens, accepts, Request, to_close, request_of, items_by, items_of}
use Rattle.taps_socket.specs.LiveSockets.{given}
use Rattle.taps_socket.specs.RaceSockets.{has, closed}
use Rattle.taps_exchange.specs.declared.outcome.Outcome.TheVariants as outcome
use Rattle.taps_exchange.specs.Turns.{Turn, asks, over}
use Rattle.taps_exchange.proofs.Behind.{items_behind}
use Rattle.taps_listening.specs.declared.listened.ListenEnd.{ListenEnd}
use Rattle.taps_listening.specs.declared.listened.ListenEnd.TheVariants as ends
use Rattle.taps_listening.specs.ListenRules.{ListenRules}
use Rattle.taps_listening.specs.Listening.{Phase, beginning, opening, accepting, serving, pausing, stopping, stopped, course_at, course_in, course_from, phase_behind, outcome_in, closing_by, listener_in, connection_in, closes_if, turn_in_phase, AllInTurn}
use Rattle.taps_listening.specs.Serving.{Served, turn_serving, with_call}
use Rattle.taps_listening.proofs.Lifting.{is_serving, asks_serving, same_socket}
use Rattle.taps_listening.proofs.SoFar.{ListensAlone, behind_alone}

abbrev pub has_if : Option ℕ → ℕ → Bool
has_if None s = false
has_if (Some x) s = x == s

-- a socket that was given behind these items is closed, or is the listener, or the connection's, or was given before
abbrev pub CoversBy : List Item → List Item → Option ℕ → Option ℕ → Type 0
CoversBy t0 t listener connection = (s : ℕ) → has (given t) s ≡ true →
    (has (closed t) s || (has_if listener s || (has_if connection s || has (given t0) s))) ≡ true

abbrev pub Covers : List Item → List Item → Phase → Type 0
Covers t0 t p = CoversBy t0 t (listener_in p) (connection_in p)

add_listener : (g c b n : Bool) → (g ≡ true → (c || (false || (false || b))) ≡ true) → (g || (n || false)) ≡ true → (c || (n || (false || b))) ≡ true
add_listener g true b n k h = refl
add_listener g false b true k h = refl
add_listener true false b false k h = k refl
add_listener false false b false k h = cc

add_connection : (g c l b n : Bool) → (g ≡ true → (c || (l || (false || b))) ≡ true) → (g || (n || false)) ≡ true → (c || (l || (n || b))) ≡ true
add_connection g true l b n k h = refl
add_connection g false true b n k h = refl
add_connection g false false b true k h = refl
add_connection true false false b false k h = k refl
add_connection false false false b false k h = cc

close_connection : (c l x b : Bool) → (c || (l || (x || b))) ≡ true → ((x || c) || (l || (false || b))) ≡ true
close_connection c l true b h = refl
close_connection true l false b h = refl
close_connection false l false b h = h

close_listener : (c l b : Bool) → (c || (l || (false || b))) ≡ true → ((l || c) || (false || (false || b))) ≡ true
close_listener c true b h = refl
close_listener true false b h = refl
close_listener false false b h = h

-- a socket is given, and one is closed
covers_listener : (t0 t : List Item) (x : ℕ) (i : Item) → given (i ∷ t) ≡ given t ++ x ∷ [] → closed (i ∷ t) ≡ closed t → CoversBy t0 t None None → CoversBy t0 (i ∷ t) (Some x) None
covers_listener t0 t x i e f k s h =
    let there : (has (given t) s || ((x == s) || false)) ≡ true = rw list_any-append at (subst (λ v. has v s ≡ true) e h) in
    subst (λ v. (has v s || ((x == s) || (false || has (given t0) s))) ≡ true) (sym f) (add_listener (has (given t) s) (has (closed t) s) (has (given t0) s) (x == s) (k s) there)

covers_connection : (t0 t : List Item) (l x : ℕ) (i : Item) → given (i ∷ t) ≡ given t ++ x ∷ [] → closed (i ∷ t) ≡ closed t → CoversBy t0 t (Some l) None → CoversBy t0 (i ∷ t) (Some l) (Some x)
covers_connection t0 t l x i e f k s h =
    let there : (has (given t) s || ((x == s) || false)) ≡ true = rw list_any-append at (subst (λ v. has v s ≡ true) e h) in
    subst (λ v. (has v s || ((l == s) || ((x == s) || has (given t0) s))) ≡ true) (sym f) (add_connection (has (given t) s) (has (closed t) s) (l == s) (has (given t0) s) (x == s) (k s) there)

covers_closed : (t0 t : List Item) (listener : Option ℕ) (x : ℕ) → CoversBy t0 t listener (Some x) → CoversBy t0 (item.Closed x ∷ t) listener None
covers_closed t0 t listener x k s h = close_connection (has (closed t) s) (has_if listener s) (x == s) (has (given t0) s) (k s h)

covers_stopped : (t0 t : List Item) (x : ℕ) → CoversBy t0 t (Some x) None → CoversBy t0 (item.Closed x ∷ t) None None
covers_stopped t0 t x k s h = close_listener (has (closed t) s) (x == s) (has (given t0) s) (k s h)

-- what is asked, where a connection is served
pub closes_own : (socket s : ℕ) (turn : Turn) → ((q : Request) → turn ≡ asks q → is_serving q ≡ true) → closing_by socket turn ≡ asks (to_close s) → socket ≡ s
closes_own socket s (asks q) own e = (let x : q ≡ to_close s = cc in let y : true ≡ false = sym (own q refl) ∙ ap is_serving x in cc)
closes_own socket s (over o) own e = (let x : to_close socket ≡ to_close s = cc in cc)

abbrev pub is_close : Request → Bool
is_close (to_close s) = true
is_close _ = false

pub never_asked : (socket : ℕ) (turn : Turn) (p : Request) → is_serving p ≡ false → is_close p ≡ false → ((q : Request) → turn ≡ asks q → is_serving q ≡ true) → closing_by socket turn ≡ asks p → ⊥
never_asked socket (asks q) p f g own e = (let x : q ≡ p = cc in let y : true ≡ false = sym (own q refl) ∙ (ap is_serving x ∙ f) in cc)
never_asked socket (over o) p f g own e = (let x : to_close socket ≡ p = cc in let y : true ≡ false = ap is_close x ∙ g in cc)

opened_alone : (s at : ℕ) (b : Bool) (end : ListenEnd) → ListensAlone (if b then accepting s at else stopping s end) s
opened_alone s at true end = record { listens = refl; alone = refl }
opened_alone s at false end = record { listens = refl; alone = refl }

covers_alone : (t0 t : List Item) (p : Phase) (l : ℕ) → ListensAlone p l → CoversBy t0 t (Some l) None → Covers t0 t p
covers_alone t0 t p l a k = subst (λ v. CoversBy t0 t v (connection_in p)) (sym a.listens) (subst (λ v. CoversBy t0 t (Some l) v) (sym a.alone) k)

covers_data : (t0 t t' : List Item) (l : ℕ) (c d : Served) → given t' ≡ given t → closed t' ≡ closed t → d.socket ≡ c.socket → CoversBy t0 t (Some l) (Some c.socket) → CoversBy t0 t' (Some l) (Some d.socket)
covers_data t0 t t' l c d e f same k s h =
    subst (λ v. (has v s || ((l == s) || ((d.socket == s) || has (given t0) s))) ≡ true) (sym f)
    (subst (λ (v : ℕ). (has (closed t) s || ((l == s) || ((v == s) || has (given t0) s))) ≡ true) (sym same) (k s (subst (λ v. has v s ≡ true) e h)))

covers_serving : (r : ListenRules) (served : List Served) (l : ℕ) (c : Served) (call : Call) (t0 t : List Item) → turn_in_phase r served (serving l c) ≡ asks (request_of call) → Covers t0 t (serving l c) → Covers t0 (items_by call ++ t) (course_in r served (serving l c) call).phase
covers_serving r served l c (closes s) t0 t e k =
    let own = closes_own c.socket s (turn_serving r (length served) c) (asks_serving r (length served) c) e in
    covers_alone t0 (item.Closed s ∷ t) (phase_behind r l (c ∷ served) (outcome_in (turn_serving r (length served) c))) l (behind_alone r l (c ∷ served) (outcome_in (turn_serving r (length served) c)))
    (subst (λ (v : ℕ). CoversBy t0 (item.Closed v ∷ t) (Some l) None) own (covers_closed t0 t (Some l) c.socket k))
covers_serving r served l c (begins at) t0 t e k = covers_data t0 t (item.Began at ∷ t) l c (with_call c (begins at)) refl refl (same_socket c (begins at)) k
covers_serving r served l c (sends s b u (send.Sent count at)) t0 t e k = covers_data t0 t t l c (with_call c (sends s b u (send.Sent count at))) refl refl (same_socket c (sends s b u (send.Sent count at))) k
covers_serving r served l c (sends s b u (send.Timed at)) t0 t e k = covers_data t0 t t l c (with_call c (sends s b u (send.Timed at))) refl refl (same_socket c (sends s b u (send.Timed at))) k
covers_serving r served l c (sends s b u (send.Failed cause)) t0 t e k = covers_data t0 t (item.DataFailed s true cause ∷ t) l c (with_call c (sends s b u (send.Failed cause))) refl refl (same_socket c (sends s b u (send.Failed cause))) k
covers_serving r served l c (shuts s) t0 t e k = covers_data t0 t (item.Shut s ∷ t) l c (with_call c (shuts s)) refl refl (same_socket c (shuts s)) k
covers_serving r served l c (receives s most u came (recv.Got count at)) t0 t e k = covers_data t0 t t l c (with_call c (receives s most u came (recv.Got count at))) refl refl (same_socket c (receives s most u came (recv.Got count at))) k
covers_serving r served l c (receives s most u came recv.End) t0 t e k = covers_data t0 t (item.Ended s ∷ t) l c (with_call c (receives s most u came recv.End)) refl refl (same_socket c (receives s most u came recv.End)) k
covers_serving r served l c (receives s most u came (recv.Timed at)) t0 t e k = covers_data t0 t t l c (with_call c (receives s most u came (recv.Timed at))) refl refl (same_socket c (receives s most u came (recv.Timed at))) k
covers_serving r served l c (receives s most u came (recv.Failed cause)) t0 t e k = covers_data t0 t (item.DataFailed s false cause ∷ t) l c (with_call c (receives s most u came (recv.Failed cause))) refl refl (same_socket c (receives s most u came (recv.Failed cause))) k
covers_serving r served l c (starts n g a) t0 t e k = absurd (never_asked c.socket (turn_serving r (length served) c) (request_of (starts n g a)) refl refl (asks_serving r (length served) c) e)
covers_serving r served l c (waits u a) t0 t e k = absurd (never_asked c.socket (turn_serving r (length served) c) (request_of (waits u a)) refl refl (asks_serving r (length served) c) e)
covers_serving r served l c (listens g a) t0 t e k = absurd (never_asked c.socket (turn_serving r (length served) c) (request_of (listens g a)) refl refl (asks_serving r (length served) c) e)
covers_serving r served l c (accepts n u a) t0 t e k = absurd (never_asked c.socket (turn_serving r (length served) c) (request_of (accepts n u a)) refl refl (asks_serving r (length served) c) e)

covers_step : (r : ListenRules) (served : List Served) (p : Phase) (call : Call) (t0 t : List Item) → turn_in_phase r served p ≡ asks (request_of call) → Covers t0 t p → Covers t0 (items_by call ++ t) (course_in r served p call).phase
covers_step r served (serving l c) call t0 t e k = covers_serving r served l c call t0 t e k
covers_step r served beginning (begins at) t0 t e k = k
covers_step r served beginning (starts n g a) t0 t e k = cc
covers_step r served beginning (waits u a) t0 t e k = cc
covers_step r served beginning (closes s) t0 t e k = cc
covers_step r served beginning (listens g a) t0 t e k = cc
covers_step r served beginning (accepts n u a) t0 t e k = cc
covers_step r served beginning (sends s b u a) t0 t e k = cc
covers_step r served beginning (shuts s) t0 t e k = cc
covers_step r served beginning (receives s most u came a) t0 t e k = cc
covers_step r served opening (listens g (listen.Listening s at)) t0 t e k =
    covers_alone t0 (item.Listening g s at ∷ t) (if nat_lt 0 r.limit then accepting s at else stopping s (ends.Exchanged outcome.Done)) s (opened_alone s at (nat_lt 0 r.limit) (ends.Exchanged outcome.Done))
    (covers_listener t0 t s (item.Listening g s at) refl refl k)
covers_step r served opening (listens g (listen.Refused cause at)) t0 t e k = k
covers_step r served opening (begins at) t0 t e k = cc
covers_step r served opening (starts n g a) t0 t e k = cc
covers_step r served opening (waits u a) t0 t e k = cc
covers_step r served opening (closes s) t0 t e k = cc
covers_step r served opening (accepts n u a) t0 t e k = cc
covers_step r served opening (sends s b u a) t0 t e k = cc
covers_step r served opening (shuts s) t0 t e k = cc
covers_step r served opening (receives s most u came a) t0 t e k = cc
covers_step r served (accepting l told) (accepts n u (accept.Accepted s at)) t0 t e k = covers_connection t0 t l s (item.Accepted n s at) refl refl k
covers_step r served (accepting l told) (accepts n u (accept.Timed at)) t0 t e k = k
covers_step r served (accepting l told) (accepts n u (accept.Faulted at)) t0 t e k = k
covers_step r served (accepting l told) (begins at) t0 t e k = cc
covers_step r served (accepting l told) (starts n g a) t0 t e k = cc
covers_step r served (accepting l told) (waits u a) t0 t e k = cc
covers_step r served (accepting l told) (closes s) t0 t e k = cc
covers_step r served (accepting l told) (listens g a) t0 t e k = cc
covers_step r served (accepting l told) (sends s b u a) t0 t e k = cc
covers_step r served (accepting l told) (shuts s) t0 t e k = cc
covers_step r served (accepting l told) (receives s most u came a) t0 t e k = cc
covers_step r served (pausing l) (begins at) t0 t e k = k
covers_step r served (pausing l) (starts n g a) t0 t e k = cc
covers_step r served (pausing l) (waits u a) t0 t e k = cc
covers_step r served (pausing l) (closes s) t0 t e k = cc
covers_step r served (pausing l) (listens g a) t0 t e k = cc
covers_step r served (pausing l) (accepts n u a) t0 t e k = cc
covers_step r served (pausing l) (sends s b u a) t0 t e k = cc
covers_step r served (pausing l) (shuts s) t0 t e k = cc
covers_step r served (pausing l) (receives s most u came a) t0 t e k = cc
covers_step r served (stopping l end) (closes s) t0 t e k =
    let own : l ≡ s = (let x : to_close l ≡ to_close s = cc in cc) in
    subst (λ (v : ℕ). CoversBy t0 (item.Closed v ∷ t) None None) own (covers_stopped t0 t l k)
covers_step r served (stopping l end) (begins at) t0 t e k = cc
covers_step r served (stopping l end) (starts n g a) t0 t e k = cc
covers_step r served (stopping l end) (waits u a) t0 t e k = cc
covers_step r served (stopping l end) (listens g a) t0 t e k = cc
covers_step r served (stopping l end) (accepts n u a) t0 t e k = cc
covers_step r served (stopping l end) (sends s b u a) t0 t e k = cc
covers_step r served (stopping l end) (shuts s) t0 t e k = cc
covers_step r served (stopping l end) (receives s most u came a) t0 t e k = cc
covers_step r served (stopped end) call t0 t e k = cc

before_only : (c b : Bool) → (b ≡ true → (c || (false || (false || b))) ≡ true)
before_only true b h = refl
before_only false b h = h

-- so it is after each call
pub covers_after : (r : ListenRules) (t0 : List Item) (calls : List Call) → AllInTurn r (course_at [] beginning) calls → Covers t0 (items_of calls ++ t0) (course_from r (course_at [] beginning) calls).phase
covers_after r t0 [] a = λ s h. before_only (has (closed t0) s) (has (given t0) s) h
covers_after r t0 (call ∷ calls) a =
    let k = course_from r (course_at [] beginning) calls in
    subst (λ v. Covers t0 v (course_in r k.served k.phase call).phase) (sym (append_assoc (items_by call) (items_of calls) t0))
    (covers_step r k.served k.phase call t0 (items_of calls ++ t0) a.0 (covers_after r t0 calls a.1))

-- and behind the closes of what is open
covers_closes : (t0 t : List Item) (listener connection : Option ℕ) → CoversBy t0 t listener connection → CoversBy t0 (items_of (closes_if listener ++ closes_if connection) ++ t) None None
covers_closes t0 t None None k = k
covers_closes t0 t (Some l) None k = covers_stopped t0 t l k
covers_closes t0 t None (Some c) k = covers_closed t0 t None c k
covers_closes t0 t (Some l) (Some c) k = covers_stopped t0 (item.Closed c ∷ t) l (covers_closed t0 t (Some l) c k)

pub covers_short : (r : ListenRules) (t0 : List Item) (calls : List Call) (p : Phase) → AllInTurn r (course_at [] beginning) calls → (course_from r (course_at [] beginning) calls).phase ≡ p →
    CoversBy t0 (items_of ((closes_if (listener_in p) ++ closes_if (connection_in p)) ++ calls) ++ t0) None None
covers_short r t0 calls p a e =
    let k : Covers t0 (items_of calls ++ t0) p = subst (Covers t0 (items_of calls ++ t0)) e (covers_after r t0 calls a) in
    subst (λ v. CoversBy t0 v None None)
    (sym (ap (λ v. v ++ t0) (items_behind (closes_if (listener_in p) ++ closes_if (connection_in p)) calls) ∙ append_assoc (items_of (closes_if (listener_in p) ++ closes_if (connection_in p))) (items_of calls) t0))
    (covers_closes t0 (items_of calls ++ t0) (listener_in p) (connection_in p) k)

closed_or : (c b : Bool) → (c || (false || (false || b))) ≡ true → (c ≡ true) ⊎ (b ≡ true)
closed_or true b h = inl refl
closed_or false b h = inr h

pub all_closed : (t0 t : List Item) → CoversBy t0 t None None → (s : ℕ) → has (given t) s ≡ true → (has (closed t) s ≡ true) ⊎ (has (given t0) s ≡ true)
all_closed t0 t k s h = closed_or (has (closed t) s) (has (given t0) s) (k s h)
