-- The race of a clone leaves the members before it as they are.
use Rattle.std.proofs.Common.{◌≡◌, ◌≤◌, ◌+◌, ℕ, Bool, true, false, not, ◌&&◌, ◌||◌, List, [], ◌∷◌, ◌++◌, length, sym, ap, ◌∙◌, subst, arith, if◌then◌else◌, max, Option, Some, None}
use Rattle.std.specs.Option.{option_map_or, option_or}
use Rattle.taps_framer.specs.declared.framer.Framer as framer
use Rattle.taps_stack.specs.StackTable.{is_stream}
use Rattle.taps_socket.specs.declared.answers.SendAnswer.TheVariants as send
use Rattle.taps_socket.specs.declared.answers.RecvAnswer.TheVariants as recv
use Rattle.taps_socket.specs.declared.item.How.TheVariants as how
use Rattle.taps_socket.specs.declared.item.Item.{Item}
use Rattle.taps_socket.specs.declared.item.Item.TheVariants as item
use Rattle.taps_socket.specs.declared.race_answer.RaceAnswer.{RaceAnswer}
use Rattle.taps_socket.specs.declared.race_answer.RaceAnswer.TheVariants as answer
use Rattle.taps_socket.specs.Calls.{Call, begins, starts, waits, closes, listens, accepts, sends, shuts, receives, items_of}
use Rattle.taps_socket.specs.LiveSockets.{live_sockets, given, named}
use Rattle.taps_socket.specs.Net.{Net}
use Rattle.taps_socket.specs.Over.{failure, is_timed_out, has_failed}
use Rattle.taps_socket.specs.RaceSockets.{has, completed, closed}
use Rattle.taps_socket.specs.RaceTrace.{last_moment}
use Rattle.taps_socket.specs.Shows.{Shows, IsLawful, AreLawful, told_by, told_after}
use Rattle.taps_socket.specs.Sides.{accepted, failed}
use Rattle.taps_socket.specs.Standing.{Standing, standing}
use Rattle.taps_socket.specs.Winner.{ready}
use Rattle.taps_socket.proofs.Lists.{both, kept, keeps, false_by}
use Rattle.taps_socket.proofs.NamedSockets.{given_named}
use Rattle.taps_socket.proofs.Unnamed.{unnamed}
use Rattle.taps_connection.specs.Conditions.{IsHeld}
use Rattle.taps_group.specs.Clones.{clone_rules}
use Rattle.taps_group.specs.declared.member.Member.{Member}
use Rattle.taps_group_exchange.specs.Members.{GroupTerms}
use Rattle.taps_cloning.specs.Opening.{IsOpened, AreOpened}

-- a held socket is live, and so it is named
pub held_live : (t : List Item) (s : ℕ) (stream is_shut has_ended : Bool) → IsHeld t s stream is_shut has_ended → has (live_sockets t) s ≡ true
held_live t s stream is_shut has_ended h =
    (both (has (live_sockets t) s) (has (completed t) s || has (accepted t) s) (both (has (live_sockets t) s && (has (completed t) s || has (accepted t) s)) (not (has (failed t) s)) h.connected).0).0

live_named : (t : List Item) (s : ℕ) → has (live_sockets t) s ≡ true → has (named t) s ≡ true
live_named t s h = given_named t s (kept (λ v. not (has (closed t) v)) (given t) s h).1

-- items that do not name a socket leave it live and held
live_along : (r t : List Item) (s : ℕ) → has (named r) s ≡ false → has (live_sockets t) s ≡ true → has (live_sockets (r ++ t)) s ≡ true
live_along r t s unnamed_in h =
    let was = kept (λ v. not (has (closed t) v)) (given t) s h in
    let alike = unnamed r t s unnamed_in in
    keeps (λ v. not (has (closed (r ++ t)) v)) (given (r ++ t)) s (ap not alike.closed ∙ was.0) (alike.given ∙ was.1)

connected_by : (live live' done done' gave gave' broke broke' : Bool) → live' ≡ true → done' ≡ done → gave' ≡ gave → broke' ≡ broke → ((live && (done || gave)) && not broke) ≡ true → ((live' && (done' || gave')) && not broke') ≡ true
connected_by true live' done done' gave gave' broke broke' l d g b h = rw (l, d, g, b) h
connected_by false live' done done' gave gave' broke broke' l d g b h = absurd (cc)

held_along : (r t : List Item) (s : ℕ) (stream is_shut has_ended : Bool) → has (named r) s ≡ false → IsHeld t s stream is_shut has_ended → IsHeld (r ++ t) s stream is_shut has_ended
held_along r t s stream is_shut has_ended unnamed_in h =
    let alike = unnamed r t s unnamed_in in
    record {
      connected = connected_by (has (live_sockets t) s) (has (live_sockets (r ++ t)) s) (has (completed t) s) (has (completed (r ++ t)) s) (has (accepted t) s) (has (accepted (r ++ t)) s) (has (failed t) s) (has (failed (r ++ t)) s)
          (live_along r t s unnamed_in (held_live t s stream is_shut has_ended h)) alike.completed alike.accepted alike.failed h.connected;
      carries = ap (λ o. option_map_or (λ target. is_stream target.stack) o true) alike.target ∙ h.carries;
      shut_by = alike.shut ∙ h.shut_by;
      ended_by = alike.ended ∙ h.ended_by;
    }

-- items of new sockets do not name it
apart : (r t : List Item) (s : ℕ) (stream is_shut has_ended : Bool) → ((x : ℕ) → has (named r) x ≡ true → has (named t) x ≡ false) → IsHeld t s stream is_shut has_ended → has (named r) s ≡ false
apart r t s stream is_shut has_ended new h =
    false_by (has (named r) s) (λ is. let one : has (named t) s ≡ false = new s is in let two = live_named t s (held_live t s stream is_shut has_ended h) in cc)

held_new : (r t t' : List Item) (s : ℕ) (stream is_shut has_ended : Bool) → ((x : ℕ) → has (named r) x ≡ true → has (named t) x ≡ false) → t' ≡ r ++ t → IsHeld t s stream is_shut has_ended → IsHeld t' s stream is_shut has_ended
held_new r t t' s stream is_shut has_ended new e h =
    subst (λ v. IsHeld v s stream is_shut has_ended) (sym e) (held_along r t s stream is_shut has_ended (apart r t s stream is_shut has_ended new h) h)

-- the members stay new
pub opened_along : {X : Type 0} {F : X → Type 0} (boxed : (x : X) → framer.Ghosts (F x)) (g : GroupTerms) (at at' : ℕ) (r t t' : List Item) (place : ℕ) (members : List (Member X F)) → ((x : ℕ) → has (named r) x ≡ true → has (named t) x ≡ false) → t' ≡ r ++ t → at ≤ at' →
    AreOpened boxed g at t place members → AreOpened boxed g at' t' place members
opened_along boxed g at at' r t t' place [] new e later h = tt
opened_along boxed g at at' r t t' place (m ∷ members) new e later h =
    let own = h.0.unused in
    let since = own.before in (
      record {
        unused = record {
          since = own.since;
          sender = own.sender;
          before = omega (arith, since, later);
          unread = own.unread;
          goes_on = own.goes_on;
          framers = own.framers;
          held = held_new r t t' m.connection.socket (is_stream m.connection.stack) false false new e own.held;
        };
        stack = h.0.stack;
        layers = h.0.layers;
        priority = h.0.priority;
      },
      opened_along boxed g at at' r t t' (place + 1) members new e later h.1,
    )

next_place : {X : Type 0} {F : X → Type 0} (boxed : (x : X) → framer.Ghosts (F x)) (g : GroupTerms) (at : ℕ) (t : List Item) (place other : ℕ) (m : Member X F) → place ≡ other → IsOpened boxed g at t place m → IsOpened boxed g at t other m
next_place boxed g at t place other m e h = subst (λ p. IsOpened boxed g at t p m) e h

pub opened_more : {X : Type 0} {F : X → Type 0} (boxed : (x : X) → framer.Ghosts (F x)) (g : GroupTerms) (at : ℕ) (t : List Item) (place : ℕ) (members : List (Member X F)) (m : Member X F) → AreOpened boxed g at t place members → IsOpened boxed g at t (place + length members) m → AreOpened boxed g at t place (members ++ m ∷ [])
opened_more boxed g at t place [] m h last = (next_place boxed g at t (place + 0) place m (omega arith) last, tt)
opened_more boxed g at t place (x ∷ members) m h last =
    let e : place + length (x ∷ members) ≡ place + 1 + length members = omega arith in
    (h.0, opened_more boxed g at t (place + 1) members m h.1 (next_place boxed g at t (place + length (x ∷ members)) (place + 1 + length members) m e last))

-- the last reported time does not fall
call_rises : (call : Call) (trace : List Item) (told : ℕ) → IsLawful call trace told → told ≤ told_by call told
call_rises (begins at) trace told h = h.later
call_rises (starts leaf target answer) trace told h = h.0.later
call_rises (waits until answer) trace told h = h.0.later
call_rises (closes socket) trace told h = omega arith
call_rises (listens target answer) trace told h = h.1.later
call_rises (accepts listener until answer) trace told h = h.2.later
call_rises (sends socket bytes until (send.Sent count at)) trace told h = h.answered.2.later
call_rises (sends socket bytes until (send.Timed at)) trace told h = h.answered.1.later
call_rises (sends socket bytes until (send.Failed cause)) trace told h = omega arith
call_rises (shuts socket) trace told h = omega arith
call_rises (receives socket most until came (recv.Got count at)) trace told h = h.answered.1.later
call_rises (receives socket most until came recv.End) trace told h = omega arith
call_rises (receives socket most until came (recv.Timed at)) trace told h = h.answered.1.later
call_rises (receives socket most until came (recv.Failed cause)) trace told h = omega arith

times_rise : (calls : List Call) (trace : List Item) (told : ℕ) → AreLawful trace told calls → told ≤ told_after calls told
times_rise [] trace told h = omega arith
times_rise (c ∷ calls) trace told h =
    let before = times_rise calls trace told h.1 in
    let here = call_rises c (items_of calls ++ trace) (told_after calls told) h.0 in
    omega (arith, before, here)

pub shown_rises : (a b : Net) (calls : List Call) → Shows a calls b → a.told ≤ b.told
shown_rises a b calls h = subst (λ n. a.told ≤ n) (sym h.told) (times_rise calls a.trace a.told h.lawful)

-- the first completion came no later than the last time of its race
abbrev IsBy : ℕ → RaceAnswer → Type 0
IsBy last (answer.Ready leaf socket at) = at ≤ last
IsBy last _ = Unit {0}

by_later : (a : RaceAnswer) (last later : ℕ) → last ≤ later → IsBy last a → IsBy later a
by_later (answer.Ready leaf socket at) last later more h = omega (arith, more, h)
by_later answer.NoCandidate last later more h = tt
by_later answer.AllFailed last later more h = tt
by_later answer.Timeout last later more h = tt
by_later answer.Closed last later more h = tt
by_later answer.SocketFault last later more h = tt

first_or : (o : Option RaceAnswer) (leaf socket at last : ℕ) (a : RaceAnswer) → ((b : RaceAnswer) → o ≡ Some b → IsBy last b) → option_or o (Some (answer.Ready leaf socket at)) ≡ Some a → IsBy (max at last) a
first_or (Some b) leaf socket at last a own h = by_later a last (max at last) (omega arith) (own a h)
first_or None leaf socket at last a own h = (let e : answer.Ready leaf socket at ≡ a = cc in let here : at ≤ max at last = omega arith in subst (IsBy (max at last)) e here)

ready_by : (race : List Item) (a : RaceAnswer) → ready race ≡ Some a → IsBy (last_moment race) a
ready_by [] a h = absurd (cc)
ready_by (item.Began at ∷ r) a h = by_later a (last_moment r) _ (omega arith) (ready_by r a h)
ready_by (item.Started leaf target socket at ∷ r) a h = by_later a (last_moment r) _ (omega arith) (ready_by r a h)
ready_by (item.Refused leaf target cause at ∷ r) a h = by_later a (last_moment r) _ (omega arith) (ready_by r a h)
ready_by (item.Waited until at how.Reached ∷ r) a h = by_later a (last_moment r) _ (omega arith) (ready_by r a h)
ready_by (item.Waited until at (how.Completed socket) ∷ r) a h = first_or (ready r) _ socket at (last_moment r) a (λ b e. ready_by r b e) h
ready_by (item.Waited until at (how.Broke socket cause) ∷ r) a h = by_later a (last_moment r) _ (omega arith) (ready_by r a h)
ready_by (item.Waited until at how.Faulted ∷ r) a h = by_later a (last_moment r) _ (omega arith) (ready_by r a h)
ready_by (item.Closed socket ∷ r) a h = by_later a (last_moment r) _ (omega arith) (ready_by r a h)
ready_by (item.Listening target socket at ∷ r) a h = by_later a (last_moment r) _ (omega arith) (ready_by r a h)
ready_by (item.NotListening target cause at ∷ r) a h = by_later a (last_moment r) _ (omega arith) (ready_by r a h)
ready_by (item.Accepted listener socket at ∷ r) a h = by_later a (last_moment r) _ (omega arith) (ready_by r a h)
ready_by (item.Faulted at ∷ r) a h = by_later a (last_moment r) _ (omega arith) (ready_by r a h)
ready_by (item.Shut socket ∷ r) a h = by_later a (last_moment r) _ (omega arith) (ready_by r a h)
ready_by (item.Ended socket ∷ r) a h = by_later a (last_moment r) _ (omega arith) (ready_by r a h)
ready_by (item.DataFailed socket sending cause ∷ r) a h = by_later a (last_moment r) _ (omega arith) (ready_by r a h)

failure_by : (faulted timed failed_all : Bool) (last : ℕ) (a : RaceAnswer) → (if faulted then Some answer.SocketFault else if timed then Some answer.Timeout else if failed_all then Some answer.AllFailed else None) ≡ Some a → IsBy last a
failure_by true timed failed_all last a h = let e : answer.SocketFault ≡ a = cc in subst (IsBy last) e (tt {0})
failure_by false true failed_all last a h = let e : answer.Timeout ≡ a = cc in subst (IsBy last) e (tt {0})
failure_by false false true last a h = let e : answer.AllFailed ≡ a = cc in subst (IsBy last) e (tt {0})
failure_by false false false last a h = absurd (cc)

over_by : (timeout : ℕ) (s : Standing) (o : Option RaceAnswer) (last : ℕ) (a : RaceAnswer) → ((b : RaceAnswer) → o ≡ Some b → IsBy last b) → option_or o (failure (clone_rules timeout) s) ≡ Some a → IsBy last a
over_by timeout s (Some b) last a own h = own a h
over_by timeout s None last a own h = failure_by s.faulted (is_timed_out (clone_rules timeout) s) (has_failed (clone_rules timeout) s) last a h

pub ready_in_time : (timeout : ℕ) (race : List Item) (leaf socket at : ℕ) → option_or (ready race) (failure (clone_rules timeout) (standing race)) ≡ Some (answer.Ready leaf socket at) → at ≤ last_moment race
ready_in_time timeout race leaf socket at h = over_by timeout (standing race) (ready race) (last_moment race) (answer.Ready leaf socket at) (ready_by race) h
