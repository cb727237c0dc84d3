-- What a race that was carried out behind a listener leaves to a session of both ends.
use Rattle.std.proofs.Common.{◌≡◌, ◌≢◌, ◌≤◌, ◌+◌, ◌*◌, ◌||◌, ℕ, Bool, true, false, List, [], ◌∷◌, ◌++◌, Some, length, refl, ap, sym, ◌∙◌, subst, arith, not, append-nil, eq-eqb}
use Rattle.std.specs.Prelude.{◌==◌}
use Rattle.std.proofs.lemmas.Bool.{eqb-true}
use Rattle.std.proofs.lemmas.List.Folds.{list_any-append}
use Rattle.taps_stack.specs.declared.target.Target.{Target}
use Rattle.taps_socket.specs.declared.item.Item.{Item}
use Rattle.taps_socket.specs.declared.item.Item.TheVariants as item
use Rattle.taps_socket.specs.declared.race_answer.RaceAnswer.{RaceAnswer}
use Rattle.taps_socket.specs.declared.race_answer.RaceAnswer.TheVariants as answer
use Rattle.taps_socket.specs.RaceSockets.{has, started, closed, open_sockets}
use Rattle.taps_socket.specs.RaceTrace.{IsRaceTrace}
use Rattle.taps_socket.specs.LiveSockets.{given, named}
use Rattle.taps_socket.specs.Sides.{may_accept, listeners, target_of}
use Rattle.taps_socket.specs.Once.{IsOnce}
use Rattle.taps_socket.specs.Rules.{Rules}
use Rattle.taps_socket.specs.LawfulRace.{WinnerAlone}
use Rattle.taps_socket.specs.Net.{Net}
use Rattle.taps_socket.proofs.Lists.{kept}
use Rattle.taps_socket.proofs.NamedSockets.{closed_named, started_named}
use Rattle.taps_socket.proofs.Unnamed.{unnamed}
use Rattle.taps_racer.specs.Kept.{Kept}
use Rattle.taps_racer.specs.CarriedOut.{HasAnswer, IsCarriedOut, HasCarriedOut}
use Rattle.taps_command.specs.Nets.{IsClosedOnce}
use Rattle.taps_session.specs.Raced.{closes_of, HasWinner}
use Rattle.taps_session.specs.RacedBehind.{HasRacedBehind, IsOther, IsRacedBehind}
use Rattle.taps_session.proofs.Closes.{unclosed, or_false, not_closed, same_given}
use Rattle.taps_session.proofs.Racing.{same_answer, winner_of, unused_winner}

false_by : (q : Bool) → (q ≡ true → false ≡ true) → q ≡ false
false_by true h = sym (h refl)
false_by false h = refl

same_number : (s : ℕ) → (s == s) ≡ true
same_number s = eq-eqb s s refl

-- the listener is not named in the race
not_in_race : (race before : List Item) (listener at : ℕ) (target : Target) → before ≡ item.Listening target listener at ∷ [] → ((s : ℕ) → has (named race) s ≡ true → has (named before) s ≡ false) → has (named race) listener ≡ false
not_in_race race before listener at target fresh new =
    false_by (has (named race) listener) (λ is.
    let first : has (named (item.Listening target listener at ∷ [])) listener ≡ true = rw (same_number listener) refl in
    let there : has (named before) listener ≡ true = subst (λ v. has (named v) listener ≡ true) (sym fresh) first in
    sym (new listener is) ∙ there)

-- items behind others
closed_on : (t b : List Item) → closed (t ++ b) ≡ closed t ++ closed b
closed_on [] b = refl
closed_on (item.Closed s ∷ t) b = ap (λ v. s ∷ v) (closed_on t b)
closed_on (i ∷ t) b = closed_on t b

-- a socket that was given behind the others was started in the race, or given before it
neither : (more q : Bool) → (more || (q || false)) ≡ false → (more ≡ false) × (q ≡ false)
neither true q h = (let z : true ≡ false = h in cc)
neither false true h = (let z : true ≡ false = h in cc)
neither false false h = (refl, refl)

first_only : (more q : Bool) → q ≡ false → (more || (q || false)) ≡ true → more ≡ true
first_only true q e h = refl
first_only false q e h = (let z : false ≡ true = rw e at h in cc)

given_before : (t b : List Item) (s : ℕ) → IsRaceTrace t → has (started t) s ≡ false → has (given (t ++ b)) s ≡ true → has (given b) s ≡ true
given_before [] b s race absent h = h
given_before (item.Began at ∷ r) b s race absent h = subst (λ v. has (given (v ++ b)) s ≡ true) race h
given_before (item.Started leaf target x at ∷ r) b s race absent h =
    let both_not = neither (has (started r) s) (x == s) (rw list_any-append at absent) in
    given_before r b s race both_not.0 (first_only (has (given (r ++ b)) s) (x == s) both_not.1 (rw list_any-append at h))
given_before (item.Refused leaf target cause at ∷ r) b s race absent h = given_before r b s race absent h
given_before (item.Waited until at how ∷ r) b s race absent h = given_before r b s race absent h
given_before (item.Closed x ∷ r) b s race absent h = given_before r b s race absent h
given_before (i ∷ r) b s race absent h = absurd race

-- every socket is closed with the closes of the winner and of the listener
closed_by : (q more : Bool) → q ≡ true → (q || more) ≡ true
closed_by q more e = rw e refl

later_closed : (q more : Bool) → more ≡ true → (q || more) ≡ true
later_closed true more e = refl
later_closed false more e = e

either : (q : Bool) (P : Type 0) → (q ≡ true → P) → (q ≡ false → P) → P
either true P is isnt = is refl
either false P is isnt = isnt refl

-- what is started in the race is closed in it, or is the winner
open_if : (t : List Item) (s : ℕ) → has (started t) s ≡ true → has (closed t) s ≡ false → has (open_sockets t) s ≡ true
open_if t s h e = rw (unclosed t (started t) s, e, h) refl

started_of : (t : List Item) (a : RaceAnswer) (s : ℕ) → WinnerAlone a (open_sockets t) → has (started t) s ≡ true → (q : Bool) → has (closed t) s ≡ q → has (closed (closes_of a ++ t)) s ≡ true
started_of t (answer.Ready leaf x at) s alone h true e = later_closed (x == s) (has (closed t) s) e
started_of t (answer.Ready leaf x at) s alone h false e = (let z : ((x == s) || false) ≡ true = subst (λ v. has v s ≡ true) alone (open_if t s h e) in closed_by (x == s) (has (closed t) s) (or_false (x == s) z))
started_of t a s alone h true e = e
started_of t a s alone h false e = (let z : false ≡ true = subst (λ v. has v s ≡ true) alone (open_if t s h e) in cc)

-- the listener's item closes none
closed_there : (t b : List Item) (a : RaceAnswer) (listener at : ℕ) (target : Target) → b ≡ item.Listening target listener at ∷ [] → closed (closes_of a ++ (t ++ b)) ≡ closed (closes_of a ++ t)
closed_there t b (answer.Ready leaf x won) listener at target fresh = ap (λ v. x ∷ v) (closed_on t b ∙ ap (λ v. closed t ++ closed v) fresh ∙ append-nil (closed t))
closed_there t b answer.NoCandidate listener at target fresh = closed_on t b ∙ ap (λ v. closed t ++ closed v) fresh ∙ append-nil (closed t)
closed_there t b answer.AllFailed listener at target fresh = closed_on t b ∙ ap (λ v. closed t ++ closed v) fresh ∙ append-nil (closed t)
closed_there t b answer.Timeout listener at target fresh = closed_on t b ∙ ap (λ v. closed t ++ closed v) fresh ∙ append-nil (closed t)
closed_there t b answer.Closed listener at target fresh = closed_on t b ∙ ap (λ v. closed t ++ closed v) fresh ∙ append-nil (closed t)
closed_there t b answer.SocketFault listener at target fresh = closed_on t b ∙ ap (λ v. closed t ++ closed v) fresh ∙ append-nil (closed t)

all_closed : (t b : List Item) (a : RaceAnswer) (listener at s : ℕ) (target : Target) → b ≡ item.Listening target listener at ∷ [] → IsRaceTrace t → WinnerAlone a (open_sockets t)
    → has (given (closes_of a ++ (t ++ b))) s ≡ true → has (closed (item.Closed listener ∷ (closes_of a ++ (t ++ b)))) s ≡ true
all_closed t b a listener at s target fresh race alone h =
    either (has (started t) s) (has (closed (item.Closed listener ∷ (closes_of a ++ (t ++ b)))) s ≡ true)
    (λ is. later_closed (listener == s) (has (closed (closes_of a ++ (t ++ b))) s) (subst (λ v. has v s ≡ true) (sym (closed_there t b a listener at target fresh)) (started_of t a s alone is (has (closed t) s) refl)))
    (λ absent.
    let before : has (given b) s ≡ true = given_before t b s race absent (subst (λ v. has v s ≡ true) (same_given (t ++ b) a) h) in
    let one : ((listener == s) || false) ≡ true = subst (λ v. has (given v) s ≡ true) fresh before in
    closed_by (listener == s) (has (closed (closes_of a ++ (t ++ b))) s) (or_false (listener == s) one))

-- none is closed twice
unlike : (x listener : ℕ) (q : Bool) → (x == listener) ≡ q → (x ≢ listener) → q ≡ false
unlike x listener true e other = absurd (other (eqb-true x listener e))
unlike x listener false e other = refl

once_all : (t b : List Item) (a : RaceAnswer) (targets : List Target) (listener at : ℕ) (target : Target) → b ≡ item.Listening target listener at ∷ [] → has (named t) listener ≡ false → IsOther listener a → HasWinner targets (t ++ b) a
    → IsOnce (closed (t ++ b)) → IsOnce (closed (item.Closed listener ∷ (closes_of a ++ (t ++ b))))
once_all t b a targets listener at target fresh absent other winner once = by_answer a other winner
  where
    unclosed_in : has (closed (t ++ b)) listener ≡ false
    unclosed_in =
        let same : closed (t ++ b) ≡ closed t = closed_there t b answer.Closed listener at target fresh in
        subst (λ v. has v listener ≡ false) (sym same) (false_by (has (closed t) listener) (λ is. sym absent ∙ closed_named t listener is))

    by_answer : (a : RaceAnswer) → IsOther listener a → HasWinner targets (t ++ b) a → IsOnce (closed (item.Closed listener ∷ (closes_of a ++ (t ++ b))))
    by_answer (answer.Ready leaf x won) other winner = (
      (let e : (x == listener) ≡ false = unlike x listener (x == listener) refl other in rw (e, unclosed_in) refl),
      (not_closed (t ++ b) x winner.live, once),
    )
    by_answer answer.NoCandidate other winner = (unclosed_in, once)
    by_answer answer.AllFailed other winner = (unclosed_in, once)
    by_answer answer.Timeout other winner = (unclosed_in, once)
    by_answer answer.Closed other winner = (unclosed_in, once)
    by_answer answer.SocketFault other winner = (unclosed_in, once)

-- the winner is another socket
other_of : (t : List Item) (a : RaceAnswer) (listener : ℕ) → WinnerAlone a (open_sockets t) → has (named t) listener ≡ false → IsOther listener a
other_of t (answer.Ready leaf x won) listener alone absent = λ same.
    let first : has (x ∷ []) x ≡ true = rw (same_number x) refl in
    let is_open : has (open_sockets t) x ≡ true = subst (λ v. has v x ≡ true) (sym alone) first in
    let there : has (named t) x ≡ true = started_named t x (kept (λ s. not (has (closed t) s)) (started t) x is_open).1 in
    let z : true ≡ false = sym there ∙ ap (λ v. has (named t) v) same ∙ absent in
    cc
other_of t answer.NoCandidate listener alone absent = tt
other_of t answer.AllFailed listener alone absent = tt
other_of t answer.Timeout listener alone absent = tt
other_of t answer.Closed listener alone absent = tt
other_of t answer.SocketFault listener alone absent = tt

-- the listener may still accept
accepts_still : (r b : List Item) (listener at : ℕ) (target : Target) → b ≡ item.Listening target listener at ∷ [] → has (closed r) listener ≡ has (closed b) listener → has (given r) listener ≡ has (given b) listener
    → has (listeners r) listener ≡ has (listeners b) listener → may_accept r listener ≡ true
accepts_still r b listener at target fresh e f g = rw (unclosed r (given r) listener, e, f, g, fresh, same_number listener) refl

leads_first : (listener at : ℕ) (target : Target) → target_of (item.Listening target listener at ∷ []) listener ≡ Some target
leads_first listener at target = rw (same_number listener) refl

-- What a race leaves that was carried out behind a listener.
pub behind : (rules : Rules) (targets : List Target) (before after : Net) (t : List Item) (a : RaceAnswer) (listener at : ℕ) (target : Target) → before.trace ≡ item.Listening target listener at ∷ [] → 4 * length targets + 9 ≤ before.spare
    → IsCarriedOut rules 0 targets before after t a → IsRacedBehind rules targets listener target before after t a
behind rules targets before after t a listener at target fresh room c =
    let few = c.few in
    let lowered = c.room in
    let race = c.lawful.race.race_trace in
    let alone = c.lawful.over.winner_alone in
    let absent : has (named t) listener ≡ false = not_in_race t before.trace listener at target fresh c.new_sockets in
    let alike = unnamed t before.trace listener absent in
    let winner : HasWinner targets after.trace a = winner_of targets t after.trace a c.winner in
    let there : HasWinner targets (t ++ before.trace) a = subst (λ v. HasWinner targets v a) c.items winner in
    let other = other_of t a listener alone absent in
    let once : IsOnce (closed (t ++ before.trace)) = subst (λ v. IsOnce (closed v)) c.items (c.closed_once (subst (λ v. IsOnce (closed v)) (sym fresh) tt)) in
    let all : IsClosedOnce (item.Closed listener ∷ (closes_of a ++ (t ++ before.trace))) = record {
      all = λ s h. all_closed t before.trace a listener at s target fresh race alone h;
      once = once_all t before.trace a targets listener at target fresh absent other there once;
    } in
    record {
      items = c.items;
      lawful = c.lawful;
      winner = winner;
      other = other;
      unused = unused_winner after t a alone c.unused;
      told_last = c.told_last;
      accepts = subst (λ v. may_accept v listener ≡ true) (sym c.items) (accepts_still (t ++ before.trace) before.trace listener at target fresh alike.closed alike.given alike.listens);
      leads = ap (λ v. target_of v listener) c.items ∙ alike.target ∙ ap (λ v. target_of v listener) fresh ∙ leads_first listener at target;
      closed_once = subst (λ v. IsClosedOnce (item.Closed listener ∷ (closes_of a ++ v))) (sym c.items) all;
      room = omega arith;
      preserved = c.preserved;
      fault = c.fault;
    }

pub raced_behind : (rules : Rules) (targets : List Target) (before after : Net) (kept : Kept) (a : RaceAnswer) → 4 * length targets + 9 ≤ before.spare → HasCarriedOut rules 0 targets before after kept → HasAnswer kept a → HasRacedBehind rules targets before after a
raced_behind rules targets before after kept a room (t, b, hb, c) ha =
    subst (HasRacedBehind rules targets before after) (same_answer kept b a hb ha)
    (record { race = t; behind = λ listener at target fresh. behind rules targets before after t b listener at target fresh room c })
