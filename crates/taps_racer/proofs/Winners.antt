-- The sockets that a race names are those that it started, the winner's leads to its leaf's target, and it may send and receive.
use Rattle.std.proofs.Common.{◌≡◌, ◌⊎◌, ℕ, zero, suc, Bool, true, false, not, ◌&&◌, ◌||◌, List, [], ◌∷◌, ◌++◌, length, refl, ap, sym, ◌∙◌, subst, inl, inr, if◌then◌else◌}
use Rattle.std.specs.Prelude.{◌==◌, slice_get, Option, Some, None}
use Rattle.std.specs.List.{filter_map}
use Rattle.std.proofs.lemmas.Bool.{eqb-true, eq-eqb}
use Rattle.std.proofs.lemmas.List.Folds.{list_any-append}
use Rattle.taps_stack.specs.declared.target.Target.{Target}
use Rattle.taps_socket.specs.declared.item.How.TheVariants as how
use Rattle.taps_socket.specs.declared.item.Item.{Item}
use Rattle.taps_socket.specs.declared.item.Item.TheVariants as item
use Rattle.taps_socket.specs.RaceTrace.{IsRaceTrace, tries}
use Rattle.taps_socket.specs.RaceSockets.{has, started, completed, closed}
use Rattle.taps_socket.specs.LiveSockets.{named, live_sockets}
use Rattle.taps_socket.specs.Sides.{accepted, shut, ended, failed, target_of, may_send, may_receive}
use Rattle.taps_socket.specs.LawfulRace.{Each, HasTarget}
use Rattle.taps_socket.proofs.NamedSockets.{shut_named, ended_named, failed_named}
use Rattle.taps_socket.proofs.Lists.{either, or_left, or_right, false_by, kept}
use Rattle.taps_racer.specs.Stands.{IsToldRightly}
use Rattle.taps_racer.proofs.StandsAlike.{tried_started}
use Rattle.taps_racer.proofs.StandsOn.{was_pending}

-- the socket that an item names, or one that an earlier item names
or_earlier : (x s : ℕ) (names : List ℕ) (more : List ℕ) → has more x ≡ true → (has names s ≡ true → has more s ≡ true) → ((x == s) || has names s) ≡ true → has more s ≡ true
or_earlier x s names more own earlier h =
    elim (either (x == s) (has names s) h) as (λ _. has more s ≡ true) [
      | inl here ↦ subst (λ v. has more v ≡ true) (eqb-true x s here) own
      | inr there ↦ earlier there
    ]

pub named_started : (t : List Item) (s : ℕ) → IsRaceTrace t → Each IsToldRightly t → has (named t) s ≡ true → has (started t) s ≡ true
named_started [] s race told h = cc
named_started (item.Began at ∷ r) s race told h = (let e : has (named []) s ≡ true = subst (λ v. has (named v) s ≡ true) race h in cc)
named_started (item.Started leaf target x at ∷ r) s race told h =
    or_earlier x s (named r) (started r ++ x ∷ []) (rw list_any-append (or_right (has (started r) x) _ (or_left (x == x) false (eq-eqb x x refl)))) (λ there. rw list_any-append (or_left _ _ (named_started r s race told.1 there))) h
named_started (item.Refused leaf target cause at ∷ r) s race told h = named_started r s race told.1 h
named_started (item.Waited until at how.Reached ∷ r) s race told h = named_started r s race told.1 h
named_started (item.Waited until at (how.Completed x) ∷ r) s race told h = or_earlier x s (named r) (started r) (was_pending r x told.0).started (named_started r s race told.1) h
named_started (item.Waited until at (how.Broke x cause) ∷ r) s race told h = or_earlier x s (named r) (started r) (was_pending r x told.0).started (named_started r s race told.1) h
named_started (item.Waited until at how.Faulted ∷ r) s race told h = named_started r s race told.1 h
named_started (item.Closed x ∷ r) s race told h = or_earlier x s (named r) (started r) (kept (λ s. not (has (closed r) s)) (started r) x told.0).1 (named_started r s race told.1) h
named_started (i ∷ r) s race told h = absurd race

-- the last of a list, or one before it
last_or : {X : Type 0} (xs : List X) (y z : X) (k : ℕ) → slice_get (xs ++ y ∷ []) k ≡ Some z → (slice_get xs k ≡ Some z) ⊎ ((k ≡ length xs) × (y ≡ z))
last_or [] y z zero h = inr (refl, (let e : Some y ≡ Some z = h in cc))
last_or [] y z (suc k) h = (let e : None ≡ Some z = h in cc)
last_or (x ∷ xs) y z zero h = inl h
last_or (x ∷ xs) y z (suc k) h =
    elim (last_or xs y z k h) as (λ _. (slice_get (x ∷ xs) (suc k) ≡ Some z) ⊎ ((suc k ≡ length (x ∷ xs)) × (y ≡ z))) [
      | inl there ↦ inl there
      | inr here ↦ inr (ap suc here.0, here.1)
    ]

-- a socket that an attempt gave was started
had : (os : List (Option ℕ)) (s k : ℕ) → slice_get os k ≡ Some (Some s) → has (filter_map (λ o. o) os) s ≡ true
had [] s k h = (let e : None ≡ Some (Some s) = h in cc)
had (None ∷ os) s zero h = (let e : Some None ≡ Some (Some s) = h in cc)
had (None ∷ os) s (suc k) h = had os s k h
had (Some x ∷ os) s zero h = (let e : Some (Some x) ≡ Some (Some s) = h in let same : x ≡ s = cc in or_left (x == s) _ (eq-eqb x s same))
had (Some x ∷ os) s (suc k) h = or_right (x == s) _ (had os s k h)

-- its target is that of its leaf
other_target : (q : Bool) (target : Target) (o : Option Target) → q ≡ false → (if q then Some target else o) ≡ o
other_target q target o h = rw h refl

own_target : (q : Bool) (target : Target) (o : Option Target) → q ≡ true → (if q then Some target else o) ≡ Some target
own_target q target o h = rw h refl

pub aimed : (targets : List Target) (t b : List Item) (leaf s : ℕ) → IsRaceTrace t → Each IsToldRightly t → Each (HasTarget targets) t → slice_get (tries t) leaf ≡ Some (Some s) → target_of (t ++ b) s ≡ slice_get targets leaf
aimed targets [] b leaf s race told aims h = absurd race
aimed targets (item.Began at ∷ r) b leaf s race told aims h = (let e : slice_get (tries []) leaf ≡ Some (Some s) = subst (λ v. slice_get (tries v) leaf ≡ Some (Some s)) race h in let z : None ≡ Some (Some s) = e in cc)
aimed targets (item.Started l target x at ∷ r) b leaf s race told aims h =
    elim (last_or (tries r) (Some x) (Some s) leaf h) as (λ _. (if x == s then Some target else target_of (r ++ b) s) ≡ slice_get targets leaf) [
      | inl there ↦ (let own : has (started r) s ≡ true = rw tried_started at (had (tries r) s leaf there) in
          let apart : (x == s) ≡ false = false_by _ (λ e. (let z : has (started r) x ≡ true = subst (λ v. has (started r) v ≡ true) (sym (eqb-true x s e)) own in let y = told.0 in cc)) in
          other_target (x == s) target (target_of (r ++ b) s) apart ∙ aimed targets r b leaf s race told.1 aims.1 there)
      | inr here ↦ (let same : x ≡ s = (let e = here.1 in cc) in
          own_target (x == s) target (target_of (r ++ b) s) (eq-eqb x s same) ∙ sym (subst (λ k. slice_get targets k ≡ Some target) (sym here.0) aims.0))
    ]
aimed targets (item.Refused l target cause at ∷ r) b leaf s race told aims h =
    elim (last_or (tries r) None (Some s) leaf h) as (λ _. target_of (r ++ b) s ≡ slice_get targets leaf) [
      | inl there ↦ aimed targets r b leaf s race told.1 aims.1 there
      | inr here ↦ (let e : None ≡ Some s = here.1 in cc)
    ]
aimed targets (item.Waited until at end ∷ r) b leaf s race told aims h = aimed targets r b leaf s race told.1 aims.1 h
aimed targets (item.Closed x ∷ r) b leaf s race told aims h = aimed targets r b leaf s race told.1 aims.1 h
aimed targets (i ∷ r) b leaf s race told aims h = absurd race

-- in a race no sending side is ended, no end comes and no send or receive fails
none_shut : (t b : List Item) → IsRaceTrace t → shut (t ++ b) ≡ shut b
none_shut [] b race = refl
none_shut (item.Began at ∷ r) b race = subst (λ v. shut (v ++ b) ≡ shut b) (sym race) refl
none_shut (item.Started leaf target x at ∷ r) b race = none_shut r b race
none_shut (item.Refused leaf target cause at ∷ r) b race = none_shut r b race
none_shut (item.Waited until at end ∷ r) b race = none_shut r b race
none_shut (item.Closed x ∷ r) b race = none_shut r b race
none_shut (i ∷ r) b race = absurd race

none_ended : (t b : List Item) → IsRaceTrace t → ended (t ++ b) ≡ ended b
none_ended [] b race = refl
none_ended (item.Began at ∷ r) b race = subst (λ v. ended (v ++ b) ≡ ended b) (sym race) refl
none_ended (item.Started leaf target x at ∷ r) b race = none_ended r b race
none_ended (item.Refused leaf target cause at ∷ r) b race = none_ended r b race
none_ended (item.Waited until at end ∷ r) b race = none_ended r b race
none_ended (item.Closed x ∷ r) b race = none_ended r b race
none_ended (i ∷ r) b race = absurd race

none_failed : (t b : List Item) → IsRaceTrace t → failed (t ++ b) ≡ failed b
none_failed [] b race = refl
none_failed (item.Began at ∷ r) b race = subst (λ v. failed (v ++ b) ≡ failed b) (sym race) refl
none_failed (item.Started leaf target x at ∷ r) b race = none_failed r b race
none_failed (item.Refused leaf target cause at ∷ r) b race = none_failed r b race
none_failed (item.Waited until at end ∷ r) b race = none_failed r b race
none_failed (item.Closed x ∷ r) b race = none_failed r b race
none_failed (i ∷ r) b race = absurd race

-- so a live socket that completed in it may send and receive
pub record IsBothWays (t : List Item) (s : ℕ) : Type 0 where
  pub sends : may_send t s ≡ true
  pub receives : may_receive t s ≡ true

both_ways_by : (l c a f h e : Bool) → l ≡ true → c ≡ true → f ≡ false → h ≡ false → e ≡ false → (((l && (c || a) && not f) && not h) ≡ true) × (((l && (c || a) && not f) && not e) ≡ true)
both_ways_by l c a f h e live done not_failed not_shut not_ended = rw (live, done, not_failed, not_shut, not_ended) (refl, refl)

pub both_ways : (t b : List Item) (s : ℕ) → IsRaceTrace t → has (named b) s ≡ false → has (live_sockets (t ++ b)) s ≡ true → has (completed (t ++ b)) s ≡ true → IsBothWays (t ++ b) s
both_ways t b s race new live done =
    let unfailed : has (failed (t ++ b)) s ≡ false = ap (λ v. has v s) (none_failed t b race) ∙ false_by _ (λ e. (let z = failed_named b s e in cc)) in
    let unshut : has (shut (t ++ b)) s ≡ false = ap (λ v. has v s) (none_shut t b race) ∙ false_by _ (λ e. (let z = shut_named b s e in cc)) in
    let unended : has (ended (t ++ b)) s ≡ false = ap (λ v. has v s) (none_ended t b race) ∙ false_by _ (λ e. (let z = ended_named b s e in cc)) in
    let h = both_ways_by _ _ (has (accepted (t ++ b)) s) _ _ _ live done unfailed unshut unended in
    record { sends = h.0; receives = h.1 }
