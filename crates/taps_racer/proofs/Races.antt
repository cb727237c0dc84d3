-- What holds in every race that is lawful so far and rightly told: the winner is open, at most one open socket broke, and each socket was started once.
use Rattle.std.proofs.Common.{◌≡◌, ℕ, Bool, true, false, not, ◌||◌, List, [], ◌∷◌, ◌++◌, refl, sym, ◌∙◌, subst, inl, inr, if◌then◌else◌}
use Rattle.std.specs.Prelude.{◌==◌, filter, Option, None, Some}
use Rattle.std.specs.Option.{option_or}
use Rattle.std.proofs.lemmas.Bool.{eqb-true, eq-eqb, not-true}
use Rattle.std.proofs.lemmas.List.Folds.{list_any-append}
use Rattle.std.proofs.lemmas.List.Elements.{filter-append}
use Rattle.taps_stack.specs.declared.target.Target.{Target}
use Rattle.taps_socket.specs.declared.cause.Cause.{Cause}
use Rattle.taps_socket.specs.declared.item.How.TheVariants as how
use Rattle.taps_socket.specs.declared.item.Item.{Item}
use Rattle.taps_socket.specs.declared.item.Item.TheVariants as item
use Rattle.taps_socket.specs.declared.race_answer.RaceAnswer.{RaceAnswer}
use Rattle.taps_socket.specs.declared.race_answer.RaceAnswer.TheVariants.{Ready}
use Rattle.taps_socket.specs.RaceSockets.{has, started, closed, broke, completed, open_sockets, pending_sockets, broken_sockets}
use Rattle.taps_socket.specs.Winner.{ready, is_winner}
use Rattle.taps_socket.specs.Standing.{Standing, standing, losers}
use Rattle.taps_socket.specs.Rules.{Rules}
use Rattle.taps_socket.specs.Once.{IsOnce}
use Rattle.taps_socket.specs.LawfulRace.{Each, AttemptsWhenDue, WaitsWhenNothingDue, ClosesInOrder, MayClose}
use Rattle.taps_racer.specs.Kept.{Kept}
use Rattle.taps_racer.specs.Stands.{IsToldRightly, IsRun}
use Rattle.taps_socket.proofs.Lists.{either, or_left, or_right, false_by, kept, keeps}
use Rattle.taps_racer.proofs.Lists.{least_has}
use Rattle.taps_racer.proofs.StandsOn.{unnamed}

-- a race that goes by the rules and is rightly told
pub record Goes (rules : Rules) (t : List Item) : Type 0 where
  pub rightly : Each IsToldRightly t
  pub attempts : Each (AttemptsWhenDue rules) t
  pub waits : Each (WaitsWhenNothingDue rules) t
  pub closes : Each (ClosesInOrder rules) t

pub goes : (k : Kept) (first : ℕ) (t : List Item) → IsRun k first t → Goes k.rules t
goes k first t run =
    record {
      rightly = run.stands.rightly;
      attempts = run.race.attempts_when_due;
      waits = run.race.waits_when_nothing_due;
      closes = run.race.closes_in_order;
    }

pub before : {rules : Rules} (i : Item) (t : List Item) → Goes rules (i ∷ t) → Goes rules t
before i t h = record { rightly = h.rightly.1; attempts = h.attempts.1; waits = h.waits.1; closes = h.closes.1 }

-- the parts of an open socket, and of one that broke
pub pending_open : (t : List Item) (s : ℕ) → has (pending_sockets t) s ≡ true → has (open_sockets t) s ≡ true
pending_open t s h = (kept (λ s. not (has (completed t) s || has (broke t) s)) (open_sockets t) s h).1

pub open_parts : (t : List Item) (s : ℕ) → has (open_sockets t) s ≡ true → (not (has (closed t) s) ≡ true) × (has (started t) s ≡ true)
open_parts t s h = kept (λ s. not (has (closed t) s)) (started t) s h

pub of_open : (t : List Item) (s : ℕ) → not (has (closed t) s) ≡ true → has (started t) s ≡ true → has (open_sockets t) s ≡ true
of_open t s c h = keeps (λ s. not (has (closed t) s)) (started t) s c h

broken_parts : (t : List Item) (s : ℕ) → has (broken_sockets t) s ≡ true → (has (broke t) s ≡ true) × (has (open_sockets t) s ≡ true)
broken_parts t s h = kept (has (broke t)) (open_sockets t) s h

of_broken : (t : List Item) (s : ℕ) → has (broke t) s ≡ true → has (open_sockets t) s ≡ true → has (broken_sockets t) s ≡ true
of_broken t s b h = keeps (has (broke t)) (open_sockets t) s b h

-- a socket that was not closed before a close of another is open behind it
not_closed : (q c : Bool) → not (q || c) ≡ true → (q ≡ false) × (not c ≡ true)
not_closed false c h = (refl, h)
not_closed true c h = cc

still_open : (t : List Item) (x s : ℕ) → (x == s) ≡ false → has (open_sockets t) s ≡ true → has (open_sockets (item.Closed x ∷ t)) s ≡ true
still_open t x s other h = let p = open_parts t s h in of_open (item.Closed x ∷ t) s (rw other p.0) p.1

was_open : (t : List Item) (x s : ℕ) → has (open_sockets (item.Closed x ∷ t)) s ≡ true → has (open_sockets t) s ≡ true
was_open t x s h = let p = open_parts (item.Closed x ∷ t) s h in of_open t s (not_closed (x == s) _ p.0).1 p.1

-- the winner is no loser, and its socket is not closed
not_it : (w : Option RaceAnswer) (x s : ℕ) (opens : List ℕ) → has (filter (λ s. not (is_winner w s)) opens) x ≡ true → is_winner w s ≡ true → (x == s) ≡ false
not_it w x s opens h won = false_by (x == s) (λ same. (let l : is_winner w x ≡ false = not-true _ (kept (λ s. not (is_winner w s)) opens x h).0 in let e : is_winner w s ≡ false = subst (λ v. is_winner w v ≡ false) (eqb-true _ _ same) l in cc))

closes_other : (w fail o : Option RaceAnswer) (race : Standing) (x s : ℕ) → race.ready ≡ w → option_or w fail ≡ o → MayClose o race x → is_winner w s ≡ true → (x == s) ≡ false
closes_other None fail o race x s e f may won = cc
closes_other (Some a) fail None race x s e f may won = cc
closes_other (Some a) fail (Some b) race x s e f may won = not_it (Some a) x s race.still_open (rw e at (least_has (losers race) x may)) won

first_wins : (w : Option RaceAnswer) (p x at s : ℕ) (b : Bool) → (is_winner w s ≡ true → b ≡ true) → ((x == s) ≡ true → b ≡ true) → is_winner (option_or w (Some (Ready p x at))) s ≡ true → b ≡ true
first_wins None p x at s b old new h = new h
first_wins (Some a) p x at s b old new h = old h

pub winner_open : (rules : Rules) (t : List Item) (s : ℕ) → Goes rules t → is_winner (ready t) s ≡ true → has (open_sockets t) s ≡ true
winner_open rules [] s h won = cc
winner_open rules (item.Started leaf target x at ∷ r) s h won =
    rw (filter-append, list_any-append) (or_left _ _ (winner_open rules r s (before (item.Started leaf target x at) r h) won))
winner_open rules (item.Waited until at (how.Completed x) ∷ r) s h won =
    first_wins (ready r) _ x at s (has (open_sockets r) s) (winner_open rules r s (before (item.Waited until at (how.Completed x)) r h))
    (λ same. subst (λ v. has (open_sockets r) v ≡ true) (eqb-true _ _ same) (pending_open r x h.rightly.0)) won
winner_open rules (item.Closed x ∷ r) s h won =
    still_open r x s (closes_other (ready r) _ _ (standing r) x s refl refl h.closes.0 won) (winner_open rules r s (before (item.Closed x) r h) won)
winner_open rules (i ∷ r) s h won = winner_open rules r s (before i r h) won

-- no socket is broken where the list of them is empty
no_broken : (t : List Item) (s : ℕ) → broken_sockets t ≡ [] → has (broken_sockets t) s ≡ true → ⊥
no_broken t s e h = let x : has [] s ≡ true = (rw e at h) in cc

it_broke : (r : List Item) (until at x : ℕ) (cause : Cause) (s : ℕ) → broken_sockets r ≡ [] → has (broken_sockets (item.Waited until at (how.Broke x cause) ∷ r)) s ≡ true → x ≡ s
it_broke r until at x cause s none b =
    let p = broken_parts (item.Waited until at (how.Broke x cause) ∷ r) s b in
    elim (either (x == s) (has (broke r) s) p.0) as (λ _. x ≡ s) [ inl same ↦ eqb-true _ _ same | inr there ↦ absurd (no_broken r s none (of_broken r s there p.1)) ]

still_broken : (r : List Item) (x s : ℕ) → has (broken_sockets (item.Closed x ∷ r)) s ≡ true → has (broken_sockets r) s ≡ true
still_broken r x s b = let p = broken_parts (item.Closed x ∷ r) s b in of_broken r s p.0 (was_open r x s p.1)

-- a socket that was just started did not break
old_broken : (r : List Item) (leaf : ℕ) (target : Target) (x at s : ℕ) → Each IsToldRightly r → has (started r) x ≡ false → has (broken_sockets (item.Started leaf target x at ∷ r)) s ≡ true → has (broken_sockets r) s ≡ true
old_broken r leaf target x at s told new b =
    let p = broken_parts (item.Started leaf target x at ∷ r) s b in
    let q = open_parts (item.Started leaf target x at ∷ r) s p.1 in
    elim (either (has (started r) s) ((x == s) || false) (rw list_any-append at q.1)) as (λ _. has (broken_sockets r) s ≡ true) [
      | inl old ↦ of_broken r s p.0 (of_open r s q.0 old)
      | inr same ↦ absurd (never_broke (x == s) refl same)
    ]
  where
    never_broke : (q : Bool) → (x == s) ≡ q → (q || false) ≡ true → ⊥
    never_broke false e h = cc
    never_broke true e h = (let n : has (broke r) s ≡ false = subst (λ v. has (broke r) v ≡ false) (eqb-true _ _ e) (unnamed r x told new).broke in let b = (broken_parts (item.Started leaf target x at ∷ r) s b).0 in cc)

pub one_broken : (rules : Rules) (t : List Item) → Goes rules t → (s other : ℕ) → has (broken_sockets t) s ≡ true → has (broken_sockets t) other ≡ true → s ≡ other
one_broken rules [] h s other b b' = cc
one_broken rules (item.Started leaf target x at ∷ r) h s other b b' = absurd (no_broken r s h.attempts.0.none_broken (old_broken r leaf target x at s h.rightly.1 h.rightly.0 b))
one_broken rules (item.Waited until at (how.Broke x cause) ∷ r) h s other b b' = sym (it_broke r until at x cause s h.waits.0.none_broken b) ∙ it_broke r until at x cause other h.waits.0.none_broken b'
one_broken rules (item.Closed x ∷ r) h s other b b' = one_broken rules r (before (item.Closed x) r h) s other (still_broken r x s b) (still_broken r x other b')
one_broken rules (i ∷ r) h s other b b' = one_broken rules r (before i r h) s other b b'

-- each socket was started once
once_more : (xs : List ℕ) (x : ℕ) → IsOnce xs → has xs x ≡ false → IsOnce (xs ++ x ∷ [])
once_more [] x h new = (refl, tt)
once_more (y ∷ ys) x h new =
    let n : ((y == x) || has ys x) ≡ false = new in
    (list_any-append (λ z. z == y) ys (x ∷ []) ∙ apart (y == x) (has ys x) (has ys y) refl n h.0, once_more ys x h.1 (false_by _ (λ e. (let w = or_right (y == x) _ e in cc))))
  where
    apart : (q more old : Bool) → (y == x) ≡ q → (q || more) ≡ false → old ≡ false → (old || ((x == y) || false)) ≡ false
    apart true more old e n o = cc
    apart false more old e n o = rw (o, false_by (x == y) (λ same. (let z : (y == x) ≡ true = eq-eqb y x (sym (eqb-true _ _ same)) in cc))) refl

started_once : (t : List Item) → Each IsToldRightly t → IsOnce (started t)
started_once [] h = tt
started_once (item.Started leaf target x at ∷ r) h = once_more (started r) x (started_once r h.1) h.0
started_once (i ∷ r) h = started_once r h.1

filter_by : (q : Bool) (x : ℕ) (rest : List ℕ) → (q ≡ true → has rest x ≡ false) → IsOnce rest → IsOnce (if q then x ∷ rest else rest)
filter_by true x rest new h = (new refl, h)
filter_by false x rest new h = h

once_filter : (p : ℕ → Bool) (xs : List ℕ) → IsOnce xs → IsOnce (filter p xs)
once_filter p [] h = tt
once_filter p (x ∷ xs) h = filter_by (p x) x (filter p xs) (λ _. false_by _ (λ e. (let there : has xs x ≡ true = (kept p xs x e).1 in let n = h.0 in cc))) (once_filter p xs h.1)

pub open_once : (t : List Item) → Each IsToldRightly t → IsOnce (open_sockets t)
open_once t h = once_filter (λ s. not (has (closed t) s)) (started t) (started_once t h)
