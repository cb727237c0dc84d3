-- Behind a lawful race and the close of its winner every socket is closed once.
use Rattle.std.proofs.Common.{◌≡◌, ℕ, Bool, true, false, ◌&&◌, ◌||◌, List, [], ◌∷◌, ◌++◌, refl, ap, sym, subst, not}
use Rattle.std.specs.Prelude.{◌==◌, filter}
use Rattle.std.proofs.lemmas.Bool.{eqb-true, not-true}
use Rattle.std.proofs.lemmas.Map.Views.{any-filter_same}
use Rattle.taps_socket.specs.declared.item.Item.{Item}
use Rattle.taps_socket.specs.declared.item.Item.TheVariants as item
use Rattle.taps_socket.specs.declared.race_answer.RaceAnswer.{RaceAnswer}
use Rattle.taps_socket.specs.declared.race_answer.RaceAnswer.TheVariants as answer
use Rattle.taps_socket.specs.RaceTrace.{IsRaceTrace}
use Rattle.taps_socket.specs.RaceSockets.{has, started, closed, open_sockets}
use Rattle.taps_socket.specs.LiveSockets.{given, live_sockets}
use Rattle.taps_socket.specs.Once.{IsOnce}
use Rattle.taps_socket.specs.LawfulRace.{WinnerAlone}
use Rattle.taps_command.specs.Nets.{IsClosedOnce}
use Rattle.taps_stack.specs.declared.target.Target.{Target}
use Rattle.taps_session.specs.Raced.{closes_of, HasWinner}

-- in a race only starts give sockets
given_started : (t : List Item) → IsRaceTrace t → given t ≡ started t
given_started [] h = refl
given_started (item.Began at ∷ r) h = subst (λ v. given v ≡ started v) (sym h) refl
given_started (item.Started leaf target s at ∷ r) h = ap (λ v. v ++ s ∷ []) (given_started r h)
given_started (item.Refused leaf target cause at ∷ r) h = given_started r h
given_started (item.Waited until at how ∷ r) h = given_started r h
given_started (item.Closed s ∷ r) h = given_started r h
given_started (i ∷ r) h = absurd h

-- a socket is among those of these that are not closed
pub unclosed : (t : List Item) (xs : List ℕ) (s : ℕ) → has (filter (λ x. not (has (closed t) x)) xs) s ≡ (not (has (closed t) s) && has xs s)
unclosed t xs s = any-filter_same (λ x. x == s) (λ x. not (has (closed t) x)) (not (has (closed t) s)) (λ k e. ap (λ v. not (has (closed t) v)) (eqb-true k s e)) xs

-- one that was started is open or closed
pub still_open : (t : List Item) (s : ℕ) → has (started t) s ≡ true → has (closed t) s ≡ false → has (open_sockets t) s ≡ true
still_open t s h e = rw (unclosed t (started t) s, e, h) refl

by_closed : (t : List Item) (s : ℕ) (q : Bool) → has (closed t) s ≡ q → (has (closed t) s ≡ false → q ≡ true) → has (closed t) s ≡ true
by_closed t s true e h = e
by_closed t s false e h = let z : false ≡ true = h e in cc

winner_too : (c w : Bool) → (c ≡ false → w ≡ true) → (w || c) ≡ true
winner_too true true h = refl
winner_too true false h = refl
winner_too false w h = rw (h refl) refl

pub or_false : (w : Bool) → (w || false) ≡ true → w ≡ true
or_false true h = refl
or_false false h = h

all_closed : (t : List Item) (a : RaceAnswer) (s : ℕ) → IsRaceTrace t → WinnerAlone a (open_sockets t) → has (given t) s ≡ true → has (closed (closes_of a ++ t)) s ≡ true
all_closed t (answer.Ready leaf x at) s race alone h =
    winner_too (has (closed t) s) (x == s) (λ e. or_false (x == s) (rw alone at (still_open t s (rw (given_started t race) at h) e)))
all_closed t a s race alone h = by_closed t s (has (closed t) s) refl (λ e. (let z : false ≡ true = rw alone at (still_open t s (rw (given_started t race) at h) e) in cc))

first_of_both : (a b : Bool) → (a && b) ≡ true → a ≡ true
first_of_both true b h = refl
first_of_both false b h = h

-- a live socket is not closed
pub not_closed : (t : List Item) (s : ℕ) → has (live_sockets t) s ≡ true → has (closed t) s ≡ false
not_closed t s h = not-true _ (first_of_both _ _ (rw (unclosed t (given t) s) at h))

once : (targets : List Target) (t : List Item) (a : RaceAnswer) → HasWinner targets t a → IsOnce (closed t) → IsOnce (closed (closes_of a ++ t))
once targets t (answer.Ready leaf x at) winner h = (not_closed t x winner.live, h)
once targets t a winner h = h

pub same_given : (t : List Item) (a : RaceAnswer) → given (closes_of a ++ t) ≡ given t
same_given t (answer.Ready leaf x at) = refl
same_given t a = refl

pub closed_once : (targets : List Target) (t : List Item) (a : RaceAnswer) → IsRaceTrace t → WinnerAlone a (open_sockets t) → HasWinner targets t a → IsOnce (closed t) → IsClosedOnce (closes_of a ++ t)
closed_once targets t a race alone winner h =
    record {
      all = λ s given_it. all_closed t a s race alone (rw (same_given t a) at given_it);
      once = once targets t a winner h;
    }
