-- A socket that was given, completed, broke, was shut, ended, failed or was closed is named in the trace.
use Rattle.std.specs.Prelude.{◌≡◌, ℕ, Bool, true, false, ◌||◌, ◌==◌, List, [], ◌∷◌, refl}
use Rattle.std.proofs.lemmas.List.Folds.{list_any-append}
use Rattle.taps_socket.specs.declared.item.How.TheVariants as how
use Rattle.taps_socket.specs.declared.item.Item.{Item}
use Rattle.taps_socket.specs.declared.item.Item.TheVariants as item
use Rattle.taps_socket.specs.RaceSockets.{has, started, completed, broke, closed}
use Rattle.taps_socket.specs.LiveSockets.{given, named, named_by}
use Rattle.taps_socket.specs.Sides.{shut, ended, failed}
use Rattle.taps_socket.proofs.Lists.{or_right}

-- one of the first, or what follows
first_or : (q more more' : Bool) → (more ≡ true → more' ≡ true) → (q || more) ≡ true → (q || more') ≡ true
first_or true more more' next h = refl
first_or false more more' next h = next h

last_or : (q more more' : Bool) → (more ≡ true → more' ≡ true) → (more || (q || false)) ≡ true → (q || more') ≡ true
last_or true more more' next h = refl
last_or false true more' next h = next h
last_or false false more' next h = cc

later_named : (i : Item) (earlier : List Item) (s : ℕ) → has (named earlier) s ≡ true → has (named (i ∷ earlier)) s ≡ true
later_named i earlier s h = rw list_any-append (or_right (has (named_by i) s) _ h)

pub closed_named : (trace : List Item) (s : ℕ) → has (closed trace) s ≡ true → has (named trace) s ≡ true
closed_named [] s h = h
closed_named (item.Closed x ∷ earlier) s h = first_or (x == s) (has (closed earlier) s) (has (named earlier) s) (closed_named earlier s) h
closed_named (i ∷ earlier) s h = later_named i earlier s (closed_named earlier s h)

pub completed_named : (trace : List Item) (s : ℕ) → has (completed trace) s ≡ true → has (named trace) s ≡ true
completed_named [] s h = h
completed_named (item.Waited until at (how.Completed x) ∷ earlier) s h = first_or (x == s) (has (completed earlier) s) (has (named earlier) s) (completed_named earlier s) h
completed_named (i ∷ earlier) s h = later_named i earlier s (completed_named earlier s h)

pub broke_named : (trace : List Item) (s : ℕ) → has (broke trace) s ≡ true → has (named trace) s ≡ true
broke_named [] s h = h
broke_named (item.Waited until at (how.Broke x cause) ∷ earlier) s h = first_or (x == s) (has (broke earlier) s) (has (named earlier) s) (broke_named earlier s) h
broke_named (i ∷ earlier) s h = later_named i earlier s (broke_named earlier s h)

pub started_named : (trace : List Item) (s : ℕ) → has (started trace) s ≡ true → has (named trace) s ≡ true
started_named [] s h = h
started_named (item.Started leaf target x at ∷ earlier) s h = last_or (x == s) (has (started earlier) s) (has (named earlier) s) (started_named earlier s) (rw list_any-append at h)
started_named (i ∷ earlier) s h = later_named i earlier s (started_named earlier s h)

pub given_named : (trace : List Item) (s : ℕ) → has (given trace) s ≡ true → has (named trace) s ≡ true
given_named [] s h = h
given_named (item.Started leaf target x at ∷ earlier) s h = last_or (x == s) (has (given earlier) s) (has (named earlier) s) (given_named earlier s) (rw list_any-append at h)
given_named (item.Listening target x at ∷ earlier) s h = last_or (x == s) (has (given earlier) s) (has (named earlier) s) (given_named earlier s) (rw list_any-append at h)
given_named (item.Accepted listener x at ∷ earlier) s h = or_right (listener == s) _ (last_or (x == s) (has (given earlier) s) (has (named earlier) s) (given_named earlier s) (rw list_any-append at h))
given_named (i ∷ earlier) s h = later_named i earlier s (given_named earlier s h)

pub shut_named : (trace : List Item) (s : ℕ) → has (shut trace) s ≡ true → has (named trace) s ≡ true
shut_named [] s h = h
shut_named (item.Shut x ∷ earlier) s h = first_or (x == s) (has (shut earlier) s) (has (named earlier) s) (shut_named earlier s) h
shut_named (i ∷ earlier) s h = later_named i earlier s (shut_named earlier s h)

pub ended_named : (trace : List Item) (s : ℕ) → has (ended trace) s ≡ true → has (named trace) s ≡ true
ended_named [] s h = h
ended_named (item.Ended x ∷ earlier) s h = first_or (x == s) (has (ended earlier) s) (has (named earlier) s) (ended_named earlier s) h
ended_named (i ∷ earlier) s h = later_named i earlier s (ended_named earlier s h)

pub failed_named : (trace : List Item) (s : ℕ) → has (failed trace) s ≡ true → has (named trace) s ≡ true
failed_named [] s h = h
failed_named (item.DataFailed x sending cause ∷ earlier) s h = first_or (x == s) (has (failed earlier) s) (has (named earlier) s) (failed_named earlier s) h
failed_named (i ∷ earlier) s h = later_named i earlier s (failed_named earlier s h)
