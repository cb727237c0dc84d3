-- The command that a racer finds is the one that a lawful race permits.
use Rattle.std.proofs.Common.{◌≡◌, ℕ, Bool, true, false, not, ◌||◌, List, [], ◌∷◌, length, refl, ap, sym, ◌∙◌, subst, if◌then◌else◌}
use Rattle.std.specs.Prelude.{◌==◌, filter, min, Option, None, Some}
use Rattle.std.specs.List.{reduce}
use Rattle.std.specs.Option.{option_or, option_map_or}
use Rattle.std.proofs.lemmas.Bool.{eqb-true, eq-eqb}
use Rattle.taps_socket.specs.declared.item.Item.{Item}
use Rattle.taps_socket.specs.declared.race_answer.RaceAnswer.{RaceAnswer}
use Rattle.taps_socket.specs.declared.race_answer.RaceAnswer.TheVariants as answer
use Rattle.taps_socket.specs.RaceSockets.{has}
use Rattle.taps_socket.specs.Winner.{is_winner}
use Rattle.taps_socket.specs.Standing.{Standing, standing, losers}
use Rattle.taps_socket.specs.Rules.{Rules}
use Rattle.taps_socket.specs.Over.{over, failure, is_cancelled, is_timed_out, has_failed}
use Rattle.taps_socket.specs.Once.{IsOnce}
use Rattle.taps_socket.specs.LawfulRace.{MayClose, WinnerAlone}
use Rattle.taps_racer.specs.declared.command.Command.{Command}
use Rattle.taps_racer.specs.declared.command.Command.TheVariants.{Start, Wait, Close, Finish}
use Rattle.taps_racer.specs.Kept.{Kept}
use Rattle.taps_racer.specs.Commands.{ComesNext, command}
use Rattle.taps_racer.specs.Stands.{IsRun}
use Rattle.taps_socket.proofs.Lists.{or_left}
use Rattle.taps_racer.proofs.Lists.{least_has, least_none, least_of_same}
use Rattle.taps_racer.proofs.Choices.{Says, SaysOf, says_of}
use Rattle.taps_racer.proofs.Races.{goes, winner_open, one_broken, open_once}

-- what is needed of a race: the winner is open, at most one open socket broke, and no open socket stands twice
record IsSound (race : Standing) : Type 0 where
  pub winner : (s : ℕ) → is_winner race.ready s ≡ true → has race.still_open s ≡ true
  pub broken : (s other : ℕ) → has race.broken s ≡ true → has race.broken other ≡ true → s ≡ other
  pub once : IsOnce race.still_open

sound : (k : Kept) (first : ℕ) (t : List Item) → IsRun k first t → IsSound (standing t)
sound k first t run =
    let g = goes k first t run in
    record { winner = λ s. winner_open k.rules t s g; broken = one_broken k.rules t g; once = open_once t g.rightly }

-- why a race failed is never that it is ready
abbrev IsFailure : RaceAnswer → Type 0
IsFailure (answer.Ready leaf socket at) = ⊥
IsFailure _ = Unit {0}

fails : (f c t z a : Bool) (x : RaceAnswer) → (if f then Some answer.SocketFault else if c then Some answer.Closed else if t then Some answer.Timeout else if z then Some answer.NoCandidate else if a then Some answer.AllFailed else None) ≡ Some x → IsFailure x
fails f c t z a answer.NoCandidate h = tt
fails f c t z a answer.AllFailed h = tt
fails f c t z a answer.Timeout h = tt
fails f c t z a answer.Closed h = tt
fails f c t z a answer.SocketFault h = tt
fails true c t z a (answer.Ready leaf socket at) h = cc
fails false true t z a (answer.Ready leaf socket at) h = cc
fails false false true z a (answer.Ready leaf socket at) h = cc
fails false false false true a (answer.Ready leaf socket at) h = cc
fails false false false false true (answer.Ready leaf socket at) h = cc
fails false false false false false (answer.Ready leaf socket at) h = cc

failure_fails : (rules : Rules) (race : Standing) (x : RaceAnswer) → failure rules race ≡ Some x → IsFailure x
failure_fails rules race x h = fails race.faulted (is_cancelled rules race) (is_timed_out rules race) (length rules.gaps == 0) (has_failed rules race) x h

-- where nothing but the winner is open, it is open alone
all_kept : (xs : List ℕ) → filter (λ s. not false) xs ≡ [] → xs ≡ []
all_kept [] h = refl
all_kept (x ∷ xs) h = cc

alone_by : (q : Bool) (w x : ℕ) (rest kept : List ℕ) → (w == x) ≡ q → (if not q then x ∷ kept else kept) ≡ [] → (w ≡ x) × (kept ≡ [])
alone_by true w x rest kept e h = (eqb-true _ _ e, h)
alone_by false w x rest kept e h = cc

alone : (w : ℕ) (xs : List ℕ) → IsOnce xs → has xs w ≡ true → filter (λ s. not (w == s)) xs ≡ [] → xs ≡ w ∷ []
alone w [] once h none = cc
alone w (x ∷ []) once h none = let a = alone_by (w == x) w x [] [] refl none in ap (λ v. v ∷ []) (sym a.0)
alone w (x ∷ (y ∷ ys)) once h none =
    let a = alone_by (w == x) w x [] (filter (λ s. not (w == s)) (y ∷ ys)) refl none in
    let b = alone_by (w == y) w y [] (filter (λ s. not (w == s)) ys) refl a.1 in
    let twice : ((y == x) || has ys x) ≡ true = or_left _ _ (eq-eqb y x (sym b.0 ∙ a.0)) in
    let never = once.0 in
    cc

none_alone : (a : RaceAnswer) (opens : List ℕ) → IsFailure a → opens ≡ [] → WinnerAlone a opens
none_alone (answer.Ready leaf socket at) opens f h = absurd f
none_alone a opens f h = h

all_closed : (a : RaceAnswer) (opens : List ℕ) → IsFailure a → WinnerAlone a opens → opens ≡ []
all_closed (answer.Ready leaf socket at) opens f h = absurd f
all_closed a opens f h = h

left_alone : (w fail : Option RaceAnswer) (a : RaceAnswer) (opens : List ℕ) → ((x : RaceAnswer) → fail ≡ Some x → IsFailure x) → ((s : ℕ) → is_winner w s ≡ true → has opens s ≡ true) → IsOnce opens → option_or w fail ≡ Some a → filter (λ s. not (is_winner w s)) opens ≡ [] → WinnerAlone a opens
left_alone None fail a opens fails shown once over none = none_alone a opens (fails a over) (all_kept opens none)
left_alone (Some (answer.Ready leaf socket at)) fail a opens fails shown once over none =
    let e : answer.Ready leaf socket at ≡ a = cc in
    subst (λ v. WinnerAlone v opens) e (alone socket opens once (shown socket (eq-eqb socket socket refl)) none)
left_alone (Some w) fail a opens fails shown once over none =
    let e : w ≡ a = cc in
    none_alone a opens (subst IsFailure e tt) (all_kept opens none)

none_left : (w fail : Option RaceAnswer) (a : RaceAnswer) (opens : List ℕ) → ((x : RaceAnswer) → fail ≡ Some x → IsFailure x) → option_or w fail ≡ Some a → WinnerAlone a opens → filter (λ s. not (is_winner w s)) opens ≡ []
none_left None fail a opens fails over alone = rw (all_closed a opens (fails a over) alone) refl
none_left (Some (answer.Ready leaf socket at)) fail a opens fails over alone =
    let e : a ≡ answer.Ready leaf socket at = cc in
    let only : opens ≡ socket ∷ [] = subst (λ v. WinnerAlone v opens) e alone in
    rw (only, eq-eqb socket socket refl) refl
none_left (Some w) fail a opens fails over alone =
    let e : w ≡ a = cc in
    rw (all_closed a opens (subst IsFailure e tt) alone) refl

-- the command that was found may come
close_may : (o : Option RaceAnswer) (race : Standing) (due : Bool) (n end s : ℕ) → Says o (reduce min (losers race)) (reduce min race.broken) due n end (Close s) → MayClose o race s
close_may None race due n end s x = least_has race.broken s x
close_may (Some a) race due n end s x = x

comes : (rules : Rules) (race : Standing) (c : Command) → IsSound race → SaysOf rules race c → ComesNext rules race c
comes rules race (Start leaf) h x = (x.3, record { not_over = x.0; due = x.2; none_broken = least_none race.broken x.1 })
comes rules race (Wait until) h x = record { not_over = x.0; not_due = x.2; none_broken = least_none race.broken x.1; end = x.3 }
comes rules race (Close s) h x = close_may (over rules race) race _ _ _ s x
comes rules race (Finish a) h x =
    record {
      over = x.0;
      winner_alone = left_alone race.ready (failure rules race) a race.still_open (failure_fails rules race) h.winner h.once x.0 (least_none (losers race) x.1);
    }

pub comes_next : (k : Kept) (first : ℕ) (t : List Item) → IsRun k first t → ComesNext k.rules (standing t) (command k.rules (standing t))
comes_next k first t run = comes k.rules (standing t) (command k.rules (standing t)) (sound k first t run) (says_of k.rules (standing t) (command k.rules (standing t)) refl)

-- and no other command may come
only_close : (o : Option RaceAnswer) (race : Standing) (rest : Command) (s : ℕ) → IsSound race → MayClose o race s → option_map_or (λ a. option_map_or (λ s. Close s) (reduce min (losers race)) (Finish a)) o (option_map_or (λ s. Close s) (reduce min race.broken) rest) ≡ Close s
only_close None race rest s h may = rw (least_of_same race.broken s may (λ x b. h.broken x s b may)) refl
only_close (Some a) race rest s h may = rw may refl

only : (rules : Rules) (race : Standing) (c : Command) → IsSound race → ComesNext rules race c → command rules race ≡ c
only rules race (Start leaf) h (n, may) = rw (may.not_over, may.none_broken, may.due, n) refl
only rules race (Wait until) h may = rw (may.not_over, may.none_broken, may.not_due, may.end) refl
only rules race (Close s) h may = only_close (over rules race) race _ s h may
only rules race (Finish a) h done = rw (done.over, none_left race.ready (failure rules race) a race.still_open (failure_fails rules race) done.over done.winner_alone) refl

pub only_next : (k : Kept) (first : ℕ) (t : List Item) (c : Command) → IsRun k first t → ComesNext k.rules (standing t) c → command k.rules (standing t) ≡ c
only_next k first t c run may = only k.rules (standing t) c (sound k first t run) may
