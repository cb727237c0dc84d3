-- The pending sockets as items come.
use Rattle.std.proofs.Common.{◌≡◌, ℕ, Bool, true, false, not, ◌&&◌, ◌||◌, List, [], ◌∷◌, ◌++◌, refl, ap, ◌∙◌, if◌then◌else◌}
use Rattle.std.specs.Prelude.{◌==◌, filter}
use Rattle.std.proofs.lemmas.List.Elements.{filter-append}
use Rattle.taps_stack.specs.declared.target.Target.{Target}
use Rattle.taps_socket.specs.declared.cause.Cause.{Cause}
use Rattle.taps_socket.specs.declared.item.How.{How}
use Rattle.taps_socket.specs.declared.item.How.TheVariants as how
use Rattle.taps_socket.specs.declared.item.Item.{Item}
use Rattle.taps_socket.specs.declared.item.Item.TheVariants as item
use Rattle.taps_socket.specs.RaceSockets.{has, started, completed, broke, closed, open_sockets, pending_sockets}
use Rattle.taps_socket.specs.LiveSockets.{named}
use Rattle.taps_socket.proofs.NamedSockets.{closed_named, completed_named, broke_named}
use Rattle.taps_socket.proofs.Lists.{absent}
use Rattle.taps_memory.specs.Kept.{without_told}

-- a filter by one test more
more_by : (q k : Bool) (x s : ℕ) (xs : List ℕ) → (x == s) ≡ q → (if not q && k then s ∷ filter (λ s. not (x == s)) xs else filter (λ s. not (x == s)) xs) ≡ filter (λ s. not (x == s)) (if k then s ∷ xs else xs)
more_by true true x s xs e = rw e refl
more_by true false x s xs e = refl
more_by false true x s xs e = rw e refl
more_by false false x s xs e = refl

filter_more : (k k' : ℕ → Bool) (x : ℕ) (xs : List ℕ) → ((s : ℕ) → k' s ≡ (not (x == s) && k s)) → filter k' xs ≡ filter (λ s. not (x == s)) (filter k xs)
filter_more k k' x [] e = refl
filter_more k k' x (s ∷ xs) e = rw (e s, filter_more k k' x xs e) (more_by (x == s) (k s) x s (filter k xs) refl)

swap_by : (p q : Bool) (f g : ℕ → Bool) (s : ℕ) (xs : List ℕ) → f s ≡ p → g s ≡ q → filter f (filter g xs) ≡ filter g (filter f xs) → filter f (if q then s ∷ filter g xs else filter g xs) ≡ filter g (if p then s ∷ filter f xs else filter f xs)
swap_by true true f g s xs a b e = rw (a, b, e) refl
swap_by true false f g s xs a b e = rw (b, e) refl
swap_by false true f g s xs a b e = rw (a, e) refl
swap_by false false f g s xs a b e = e

filter_swap : (f g : ℕ → Bool) (xs : List ℕ) → filter f (filter g xs) ≡ filter g (filter f xs)
filter_swap f g [] = refl
filter_swap f g (s ∷ xs) = swap_by (f s) (g s) f g s xs refl refl (filter_swap f g xs)

or_and_left : (q c b : Bool) → not ((q || c) || b) ≡ (not q && not (c || b))
or_and_left true c b = refl
or_and_left false c b = refl

or_and_right : (q c b : Bool) → not (c || (q || b)) ≡ (not q && not (c || b))
or_and_right true true b = refl
or_and_right true false b = refl
or_and_right false c b = refl

or_and : (q c : Bool) → not (q || c) ≡ (not q && not c)
or_and true c = refl
or_and false c = refl

completed_pending : (t : List Item) (until at x : ℕ) → pending_sockets (item.Waited until at (how.Completed x) ∷ t) ≡ filter (λ s. not (x == s)) (pending_sockets t)
completed_pending t until at x = filter_more (λ s. not (has (completed t) s || has (broke t) s)) (λ s. not (((x == s) || has (completed t) s) || has (broke t) s)) x (open_sockets t) (λ s. or_and_left (x == s) (has (completed t) s) (has (broke t) s))

broke_pending : (t : List Item) (until at x : ℕ) (cause : Cause) → pending_sockets (item.Waited until at (how.Broke x cause) ∷ t) ≡ filter (λ s. not (x == s)) (pending_sockets t)
broke_pending t until at x cause = filter_more (λ s. not (has (completed t) s || has (broke t) s)) (λ s. not (has (completed t) s || ((x == s) || has (broke t) s))) x (open_sockets t) (λ s. or_and_right (x == s) (has (completed t) s) (has (broke t) s))

-- without the socket of which a wait told
pub waited_pending : (t : List Item) (until at : ℕ) (end : How) → pending_sockets (item.Waited until at end ∷ t) ≡ without_told end (pending_sockets t)
waited_pending t until at how.Reached = refl
waited_pending t until at (how.Completed x) = completed_pending t until at x
waited_pending t until at (how.Broke x cause) = broke_pending t until at x cause
waited_pending t until at how.Faulted = refl

-- without the one that was closed
pub closed_pending : (t : List Item) (x : ℕ) → pending_sockets (item.Closed x ∷ t) ≡ filter (λ s. not (x == s)) (pending_sockets t)
closed_pending t x =
    let pending = λ (s : ℕ). not (has (completed t) s || has (broke t) s) in
    ap (filter pending) (filter_more (λ s. not (has (closed t) s)) (λ s. not ((x == s) || has (closed t) s)) x (started t) (λ s. or_and (x == s) (has (closed t) s)))
    ∙ filter_swap pending (λ s. not (x == s)) (open_sockets t)

-- with the one that was started, behind the others
kept_one : (p : Bool) (n : ℕ) → p ≡ true → (if p then n ∷ [] else []) ≡ n ∷ []
kept_one p n h = rw h refl

pub started_pending : (t : List Item) (leaf n at : ℕ) (target : Target) → has (named t) n ≡ false → pending_sockets (item.Started leaf target n at ∷ t) ≡ pending_sockets t ++ n ∷ []
started_pending t leaf n at target new =
    let closes : has (closed t) n ≡ false = absent (has (closed t) n) (has (named t) n) (closed_named t n) new in
    let completes : has (completed t) n ≡ false = absent (has (completed t) n) (has (named t) n) (completed_named t n) new in
    let breaks : has (broke t) n ≡ false = absent (has (broke t) n) (has (named t) n) (broke_named t n) new in
    let here : not (has (closed t) n) ≡ true = rw closes refl in
    let there : not (has (completed t) n || has (broke t) n) ≡ true = rw (completes, breaks) refl in
    rw (filter-append, kept_one _ n here, filter-append, kept_one _ n there) refl
