-- The events of pending sockets as items come, and the first of them.
use Rattle.std.proofs.Common.{◌≡◌, ℕ, ◌+◌, ◌<◌, ◌^◌, Bool, true, false, not, ◌&&◌, ◌||◌, List, [], ◌∷◌, ◌++◌, refl, ap, ◌∙◌, subst, arith, if◌then◌else◌}
use Rattle.std.specs.Prelude.{◌==◌, filter, fold, nat_lt, Option, None, Some, IfSome}
use Rattle.std.specs.List.{filter_map, cons_option}
use Rattle.std.specs.Option.{option_to_list}
use Rattle.std.proofs.lemmas.Bool.{eqb-true, eq-eqb, ltb-true}
use Rattle.std.proofs.lemmas.Bool.Decides.{nat_tests}
use Rattle.std.proofs.lemmas.List.Elements.{filter-append, filter_map-append}
use Rattle.taps_stack.specs.declared.target.Target.{Target}
use Rattle.taps_socket.specs.declared.cause.Cause.{Cause}
use Rattle.taps_socket.specs.declared.item.How.{How}
use Rattle.taps_socket.specs.declared.item.How.TheVariants as how
use Rattle.taps_socket.specs.declared.item.Item.{Item}
use Rattle.taps_socket.specs.declared.item.Item.TheVariants as item
use Rattle.taps_script.specs.declared.line.Fate.{Fate}
use Rattle.taps_script.specs.declared.line.Fate.TheVariants.{Refuses, Completes, Breaks, Silent}
use Rattle.taps_script.specs.declared.line.Line.{Line}
use Rattle.taps_socket.specs.declared.answers.WaitAnswer.{WaitAnswer}
use Rattle.taps_socket.specs.RaceSockets.{has, started, completed, broke, closed, open_sockets, pending_sockets}
use Rattle.taps_socket.specs.LiveSockets.{named, named_by_end}
use Rattle.taps_socket.proofs.NamedSockets.{closed_named, completed_named, broke_named, started_named}
use Rattle.taps_script.specs.ScriptLines.{fate_under}
use Rattle.taps_script.specs.ScriptAnswers.{to_come, event, events, is_of, earlier}
use Rattle.taps_socket.proofs.Lists.{or_left, or_right, absent, kept}

-- an event is of its socket, and in time
pub record IsEventOf (s : ℕ) (v : WaitAnswer) : Type 0 where
  pub socket : named_by_end v.how ≡ s ∷ []
  pub fits : v.at < 2 ^ 63

timed : (q : Bool) (at s : ℕ) (h : How) (v : WaitAnswer) → nat_lt at (2 ^ 63) ≡ q → named_by_end h ≡ s ∷ [] → (if q then Some (record { at = at; how = h }) else None) ≡ Some v → IsEventOf s v
timed true at s h v e names is =
    let same : record { at = at; how = h } ≡ v = cc in
    subst (IsEventOf s) same (record { socket = names; fits = ltb-true _ _ e })
timed false at s h v e names is = cc

of_fate : (fate : Fate) (s at : ℕ) (v : WaitAnswer) → to_come fate s at ≡ Some v → IsEventOf s v
of_fate (Refuses cause) s at v e = cc
of_fate (Completes delay) s at v e = timed (nat_lt (at + delay) (2 ^ 63)) (at + delay) s (how.Completed s) v refl refl e
of_fate (Breaks delay cause) s at v e = timed (nat_lt (at + delay) (2 ^ 63)) (at + delay) s (how.Broke s cause) v refl refl e
of_fate Silent s at v e = cc

of_start : (q : Bool) (lines : List Line) (t : List Item) (leaf x at s : ℕ) (v : WaitAnswer) → (x == s) ≡ q → (event lines t s ≡ Some v → IsEventOf s v) → (if q then to_come (fate_under leaf lines) x at else event lines t s) ≡ Some v → IsEventOf s v
of_start true lines t leaf x at s v e more h = subst (λ k. IsEventOf k v) (eqb-true x s e) (of_fate (fate_under leaf lines) x at v h)
of_start false lines t leaf x at s v e more h = more h

pub event_of : (lines : List Line) (t : List Item) (s : ℕ) (v : WaitAnswer) → event lines t s ≡ Some v → IsEventOf s v
event_of lines [] s v h = cc
event_of lines (item.Started leaf target x at ∷ r) s v h = of_start (x == s) lines r leaf x at s v refl (event_of lines r s v) h
event_of lines (i ∷ r) s v h = event_of lines r s v h

map_by : (o : Option WaitAnswer) (o' : Option WaitAnswer) (rest rest' : List WaitAnswer) → o ≡ o' → rest ≡ rest' → cons_option o rest ≡ cons_option o' rest'
map_by o o' rest rest' e f = rw (e, f) refl

maps_same : (f g : ℕ → Option WaitAnswer) (xs : List ℕ) → ((s : ℕ) → has xs s ≡ true → f s ≡ g s) → filter_map f xs ≡ filter_map g xs
maps_same f g [] same = refl
maps_same f g (s ∷ xs) same =
    map_by (f s) (g s) (filter_map f xs) (filter_map g xs) (same s (or_left (s == s) (has xs s) (eq-eqb s s refl))) (maps_same f g xs (λ x h. same x (or_right (s == x) (has xs x) h)))

-- without the sockets that are one, no event of it is left
same_either : (x s : ℕ) → (s == x) ≡ (x == s)
same_either x s = grind (arith, nat_tests)

or_false : (q : Bool) → (q || false) ≡ q
or_false true = refl
or_false false = refl

says_of : (x s : ℕ) (v : WaitAnswer) → named_by_end v.how ≡ s ∷ [] → is_of x v ≡ (x == s)
says_of x s v e = ap (λ ns. has ns x) e ∙ or_false (s == x) ∙ same_either x s

less_by : (q : Bool) (x s : ℕ) (o : Option WaitAnswer) (rest : List WaitAnswer) → (x == s) ≡ q → ((v : WaitAnswer) → o ≡ Some v → is_of x v ≡ (x == s)) → (if not q then cons_option o (filter (λ v. not (is_of x v)) rest) else filter (λ v. not (is_of x v)) rest) ≡ filter (λ v. not (is_of x v)) (cons_option o rest)
less_by true x s None rest e of = refl
less_by false x s None rest e of = refl
less_by true x s (Some v) rest e of = rw (of v refl, e) refl
less_by false x s (Some v) rest e of = rw (of v refl, e) refl

filter_step : (q : Bool) (x s : ℕ) (f : ℕ → Option WaitAnswer) (xs : List ℕ) → (x == s) ≡ q → filter_map f (if not q then s ∷ xs else xs) ≡ (if not q then cons_option (f s) (filter_map f xs) else filter_map f xs)
filter_step true x s f xs e = refl
filter_step false x s f xs e = refl

pub less : (f : ℕ → Option WaitAnswer) (x : ℕ) (xs : List ℕ) → ((s : ℕ) (v : WaitAnswer) → f s ≡ Some v → is_of x v ≡ (x == s)) → filter_map f (filter (λ s. not (x == s)) xs) ≡ filter (λ v. not (is_of x v)) (filter_map f xs)
less f x [] of = refl
less f x (s ∷ xs) of =
    filter_step (x == s) x s f (filter (λ s. not (x == s)) xs) refl
    ∙ ap (λ rest. if not (x == s) then cons_option (f s) rest else rest) (less f x xs of)
    ∙ less_by (x == s) x s (f s) (filter_map f xs) refl (of s)

-- a filter by one test more
more_by : (q k : Bool) (x s : ℕ) (xs : List ℕ) → (x == s) ≡ q → (if not q && k then s ∷ filter (λ s. not (x == s)) xs else filter (λ s. not (x == s)) xs) ≡ filter (λ s. not (x == s)) (if k then s ∷ xs else xs)
more_by true true x s xs e = rw e refl
more_by true false x s xs e = refl
more_by false true x s xs e = rw e refl
more_by false false x s xs e = refl

pub filter_more : (k k' : ℕ → Bool) (x : ℕ) (xs : List ℕ) → ((s : ℕ) → k' s ≡ (not (x == s) && k s)) → filter k' xs ≡ filter (λ s. not (x == s)) (filter k xs)
filter_more k k' x [] e = refl
filter_more k k' x (s ∷ xs) e = rw (e s, filter_more k k' x xs e) (more_by (x == s) (k s) x s (filter k xs) refl)

swap_by : (p q : Bool) (f g : ℕ → Bool) (s : ℕ) (xs : List ℕ) → f s ≡ p → g s ≡ q → filter f (filter g xs) ≡ filter g (filter f xs) → filter f (if q then s ∷ filter g xs else filter g xs) ≡ filter g (if p then s ∷ filter f xs else filter f xs)
swap_by true true f g s xs a b e = rw (a, b, e) refl
swap_by true false f g s xs a b e = rw (b, e) refl
swap_by false true f g s xs a b e = rw (a, e) refl
swap_by false false f g s xs a b e = e

filter_swap : (f g : ℕ → Bool) (xs : List ℕ) → filter f (filter g xs) ≡ filter g (filter f xs)
filter_swap f g [] = refl
filter_swap f g (s ∷ xs) = swap_by (f s) (g s) f g s xs refl refl (filter_swap f g xs)

or_and_left : (q c b : Bool) → not ((q || c) || b) ≡ (not q && not (c || b))
or_and_left true c b = refl
or_and_left false c b = refl

or_and_right : (q c b : Bool) → not (c || (q || b)) ≡ (not q && not (c || b))
or_and_right true true b = refl
or_and_right true false b = refl
or_and_right false c b = refl

or_and : (q c : Bool) → not (q || c) ≡ (not q && not c)
or_and true c = refl
or_and false c = refl

pub completed_pending : (t : List Item) (until at x : ℕ) → pending_sockets (item.Waited until at (how.Completed x) ∷ t) ≡ filter (λ s. not (x == s)) (pending_sockets t)
completed_pending t until at x = filter_more (λ s. not (has (completed t) s || has (broke t) s)) (λ s. not (((x == s) || has (completed t) s) || has (broke t) s)) x (open_sockets t) (λ s. or_and_left (x == s) (has (completed t) s) (has (broke t) s))

pub broke_pending : (t : List Item) (until at x : ℕ) (cause : Cause) → pending_sockets (item.Waited until at (how.Broke x cause) ∷ t) ≡ filter (λ s. not (x == s)) (pending_sockets t)
broke_pending t until at x cause = filter_more (λ s. not (has (completed t) s || has (broke t) s)) (λ s. not (has (completed t) s || ((x == s) || has (broke t) s))) x (open_sockets t) (λ s. or_and_right (x == s) (has (completed t) s) (has (broke t) s))

pub closed_pending : (t : List Item) (x : ℕ) → pending_sockets (item.Closed x ∷ t) ≡ filter (λ s. not (x == s)) (pending_sockets t)
closed_pending t x =
    let pending = λ (s : ℕ). not (has (completed t) s || has (broke t) s) in
    ap (filter pending) (filter_more (λ s. not (has (closed t) s)) (λ s. not ((x == s) || has (closed t) s)) x (started t) (λ s. or_and (x == s) (has (closed t) s)))
    ∙ filter_swap pending (λ s. not (x == s)) (open_sockets t)

pub without : (lines : List Line) (t t' : List Item) (x : ℕ) → pending_sockets t' ≡ filter (λ s. not (x == s)) (pending_sockets t) → ((s : ℕ) → event lines t' s ≡ event lines t s) → events lines t' ≡ filter (λ v. not (is_of x v)) (events lines t)
without lines t t' x pending same =
    ap (filter_map (event lines t')) pending
    ∙ maps_same (event lines t') (event lines t) (filter (λ s. not (x == s)) (pending_sockets t)) (λ s _. same s)
    ∙ less (event lines t) x (pending_sockets t) (λ s v e. says_of x s v (event_of lines t s v e).socket)

-- a socket that starts is pending, with its event behind those of the others
kept_one : (p : Bool) (n : ℕ) → p ≡ true → (if p then n ∷ [] else []) ≡ n ∷ []
kept_one p n h = rw h refl

pub pending_started : (t : List Item) (s : ℕ) → has (pending_sockets t) s ≡ true → has (started t) s ≡ true
pending_started t s h = (kept (λ s. not (has (closed t) s)) (started t) s (kept (λ s. not (has (completed t) s || has (broke t) s)) (open_sockets t) s h).1).1

pub started_pending : (t : List Item) (leaf n at : ℕ) (target : Target) → has (named t) n ≡ false → pending_sockets (item.Started leaf target n at ∷ t) ≡ pending_sockets t ++ n ∷ []
started_pending t leaf n at target new =
    let closes : has (closed t) n ≡ false = absent (has (closed t) n) (has (named t) n) (closed_named t n) new in
    let completes : has (completed t) n ≡ false = absent (has (completed t) n) (has (named t) n) (completed_named t n) new in
    let breaks : has (broke t) n ≡ false = absent (has (broke t) n) (has (named t) n) (broke_named t n) new in
    let here : not (has (closed t) n) ≡ true = rw closes refl in
    let there : not (has (completed t) n || has (broke t) n) ≡ true = rw (completes, breaks) refl in
    rw (filter-append, kept_one _ n here, filter-append, kept_one _ n there) refl

one_more : (lines : List Line) (t : List Item) (leaf n at : ℕ) (target : Target) → (q : Bool) → (n == n) ≡ q → cons_option (if q then to_come (fate_under leaf lines) n at else event lines t n) [] ≡ option_to_list (to_come (fate_under leaf lines) n at)
one_more lines t leaf n at target true e = listed (to_come (fate_under leaf lines) n at)
  where
    listed : (o : Option WaitAnswer) → cons_option o [] ≡ option_to_list o
    listed None = refl
    listed (Some v) = refl
one_more lines t leaf n at target false e = absurd (let z : (n == n) ≡ true = eq-eqb n n refl in let y : true ≡ false = cc in cc)

not_it : (lines : List Line) (t : List Item) (leaf n at s : ℕ) (q : Bool) → (n == s) ≡ q → q ≡ false → (if q then to_come (fate_under leaf lines) n at else event lines t s) ≡ event lines t s
not_it lines t leaf n at s q e h = rw h refl

pub started_events : (lines : List Line) (t : List Item) (leaf n at : ℕ) (target : Target) → has (named t) n ≡ false → events lines (item.Started leaf target n at ∷ t) ≡ events lines t ++ option_to_list (to_come (fate_under leaf lines) n at)
started_events lines t leaf n at target new =
    ap (filter_map (event lines (item.Started leaf target n at ∷ t))) (started_pending t leaf n at target new)
    ∙ filter_map-append (event lines (item.Started leaf target n at ∷ t)) (pending_sockets t) (n ∷ [])
    ∙ ap (λ xs. filter_map (event lines (item.Started leaf target n at ∷ t)) (pending_sockets t) ++ xs) (one_more lines t leaf n at target (n == n) refl)
    ∙ ap (λ xs. xs ++ option_to_list (to_come (fate_under leaf lines) n at)) (maps_same (event lines (item.Started leaf target n at ∷ t)) (event lines t) (pending_sockets t) (λ s h. not_it lines t leaf n at s (n == s) refl (unlike s h)))
  where
    unlike : (s : ℕ) → has (pending_sockets t) s ≡ true → (n == s) ≡ false
    unlike s h = by_test (n == s) refl
      where
        by_test : (q : Bool) → (n == s) ≡ q → q ≡ false
        by_test false e = refl
        by_test true e = (let there : has (named t) s ≡ true = started_named t s (pending_started t s h) in let same : n ≡ s = eqb-true n s e in let not_there : has (named t) s ≡ false = subst (λ v. has (named t) v ≡ false) same new in cc)

-- the first of the events is one of them
abbrev All : List ℕ → (ℕ → Option WaitAnswer) → (WaitAnswer → Type 0) → Type 0
All xs f P = (s : ℕ) (v : WaitAnswer) → has xs s ≡ true → f s ≡ Some v → P v

sooner : (P : WaitAnswer → Type 0) (best : Option WaitAnswer) (v : WaitAnswer) → IfSome best P → P v → IfSome (earlier best v) P
sooner P None v b h = h
sooner P (Some w) v b h = by_test (nat_lt v.at w.at)
  where
    by_test : (q : Bool) → IfSome (if q then Some v else Some w) P
    by_test true = h
    by_test false = b

among_by : (P : WaitAnswer → Type 0) (o best : Option WaitAnswer) (rest : List WaitAnswer) → IfSome best P → ((v : WaitAnswer) → o ≡ Some v → P v) → ((best : Option WaitAnswer) → IfSome best P → IfSome (fold earlier best rest) P) → IfSome (fold earlier best (cons_option o rest)) P
among_by P None best rest b here more = more best b
among_by P (Some v) best rest b here more = more (earlier best v) (sooner P best v b (here v refl))

pub first_among : (P : WaitAnswer → Type 0) (f : ℕ → Option WaitAnswer) (xs : List ℕ) (best : Option WaitAnswer) → IfSome best P → All xs f P → IfSome (fold earlier best (filter_map f xs)) P
first_among P f [] best b all = b
first_among P f (s ∷ xs) best b all =
    among_by P (f s) best (filter_map f xs) b (λ v e. all s v (or_left (s == s) (has xs s) (eq-eqb s s refl)) e) (λ best b. first_among P f xs best b (λ x v h e. all x v (or_right (s == x) (has xs x) h) e))
