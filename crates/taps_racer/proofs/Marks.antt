-- What becomes of the searches over attempts once a socket came into a state.
use Rattle.std.proofs.Common.{◌≡◌, ◌≢◌, ◌<◌, ◌≤◌, ℕ, ◌+◌, suc, zero, Bool, true, false, List, [], ◌∷◌, ◌++◌, Option, None, Some, refl, ap, sym, ◌∙◌, subst, inl, inr, map, length, get_or, set, arith}
use Rattle.std.specs.Prelude.{◌==◌, slice_get, if◌then◌else◌}
use Rattle.std.specs.List.{All, filter_map, cons_option}
use Rattle.std.specs.Option.{option_to_list, is_some}
use mathlib.Core.Bool.{true≢false}
use Rattle.std.proofs.lemmas.Bool.{cases_Bool, eqb-true, eqb-false, eq-eqb, ne_eqb}
use Rattle.std.proofs.lemmas.List.Folds.{map_fixed}
use Rattle.std.proofs.lemmas.List.{length-map, length-set, ext_get_or, get_or-map, get_or-set_same, get_or-set_other}
use Rattle.taps_socket.specs.RaceSockets.{has}
use Rattle.taps_racer.specs.declared.attempt.State.{State}
use Rattle.taps_racer.specs.declared.attempt.State.TheVariants.{Pending, Completed, Broken, Closed}
use Rattle.taps_racer.specs.declared.attempt.Attempt.{Attempt}
use Rattle.taps_racer.specs.declared.attempt.Attempt.TheVariants.{Refused, Started}
use Rattle.taps_racer.specs.declared.order.Numbered.{Numbered}
use Rattle.taps_racer.specs.Attempts.{socket_of, open_socket, pending_socket, broken_socket, marked}
use Rattle.taps_racer.specs.Order.{HasSocketAt, AreNumbered, is_pending}
use Rattle.taps_racer.proofs.Numbers.{one_place, at_place, found_has, has_found, there, pending_at}

-- another socket's attempt stays
other_stays : (s : ℕ) (state : State) (x : Attempt) → (socket_of x ≡ Some s → ⊥) → marked s state x ≡ x
other_stays s state Refused other = refl
other_stays s state (Started t before) other = rw (ne_eqb s t (λ same. other (ap Some (sym same)))) refl

get_some : {X : Type 0} (xs : List X) (p : ℕ) (d : X) → p < length xs → slice_get xs p ≡ Some (get_or xs p d)
get_some [] p d lt = absurd (omega arith)
get_some (x ∷ xs) zero d lt = refl
get_some (x ∷ xs) (suc p) d lt = get_some xs p d (omega arith)

some_get : {X : Type 0} (xs : List X) (p : ℕ) (x d : X) → slice_get xs p ≡ Some x → (p < length xs) × (get_or xs p d ≡ x)
some_get [] p x d at = cc
some_get (y ∷ xs) zero x d at = (let same : y ≡ x = cc in (omega arith, same))
some_get (y ∷ xs) (suc p) x d at = let (lt, is) = some_get xs p x d at in (omega (arith, lt), is)

-- only the attempt at the socket's place changes
pub marks_one : (xs : List Attempt) (order : List Numbered) → AreNumbered xs order → (p : ℕ) (x : Attempt) (s : ℕ) (state : State) → HasSocketAt xs p s → slice_get xs p ≡ Some x
    → map (marked s state) xs ≡ set xs p (marked s state x)
marks_one xs order n p x s state at_p is_x =
    let (lt, here) = some_get xs p x x is_x in
    let f : Attempt → Attempt = marked s state in
    ext_get_or x (map f xs) (set xs p (f x)) (length-map xs f ∙ sym (length-set xs p (f x)))
    (λ q within.
    let q_lt : q < length xs = rw (length-map xs f) at within in
    let read : get_or (map f xs) q x ≡ f (get_or xs q x) = get_or-map f xs q x x q_lt in
    elim (cases_Bool (q == p)) [
      | inl same ↦
          let q_is : q ≡ p = eqb-true q p same in
          read ∙ ap (λ k. f (get_or xs k x)) q_is ∙ ap f here ∙ sym (get_or-set_same xs p (f x) x lt) ∙ ap (λ k. get_or (set xs p (f x)) k x) (sym q_is)
      | inr not ↦
          let q_not : q ≢ p = eqb-false q p not in
          read ∙ other_stays s state (get_or xs q x) (λ its. q_not (one_place xs order n q p s (at_place xs q (get_or xs q x) s (get_some xs q x q_lt) its) at_p))
          ∙ sym (get_or-set_other xs p q (f x) x q_not)
    ])

absurd_by : {b : Bool} → b ≡ true → b ≡ false → ⊥
absurd_by {b} h n = true≢false (sym h ∙ n)

-- a socket that no attempt has changes none
pub marks_none : (xs : List Attempt) (s : ℕ) (state : State) → has (filter_map socket_of xs) s ≡ false → map (marked s state) xs ≡ xs
marks_none xs s state none =
    map_fixed (marked s state) xs (λ k d lt. other_stays s state (get_or xs k d) (λ its.
    let there : has (filter_map socket_of xs) s ≡ true = found_has socket_of xs k (get_or xs k d) s (get_some xs k d lt) its in
    absurd_by there none))

-- sockets stay in their places
same_socket : (s : ℕ) (state : State) (x : Attempt) → socket_of (marked s state x) ≡ socket_of x
same_socket s state Refused = refl
same_socket s state (Started t before) = refl

pub same_sockets : (s : ℕ) (state : State) (xs : List Attempt) → map socket_of (map (marked s state) xs) ≡ map socket_of xs
same_sockets s state [] = refl
same_sockets s state (x ∷ xs) = rw (same_socket s state x, same_sockets s state xs) refl

-- how many sockets a search finds, when one attempt changed

counted_cons : (o : Option ℕ) (xs : List ℕ) → length (cons_option o xs) ≡ length (option_to_list o) + length xs
counted_cons None xs = omega arith
counted_cons (Some t) xs = omega arith

pub counted-set : (f : Attempt → Option ℕ) (xs : List Attempt) (p : ℕ) (x y : Attempt) → slice_get xs p ≡ Some x
    → length (filter_map f (set xs p y)) + length (option_to_list (f x)) ≡ length (filter_map f xs) + length (option_to_list (f y))
counted-set f [] p x y at = cc
counted-set f (z ∷ xs) zero x y at =
    let same : z ≡ x = cc in
    rw (same, counted_cons (f y) (filter_map f xs), counted_cons (f x) (filter_map f xs)) (omega arith)
counted-set f (z ∷ xs) (suc p) x y at =
    omega (arith, counted_cons (f z) (filter_map f (set xs p y)), counted_cons (f z) (filter_map f xs), counted-set f xs p x y at)

-- a search that finds of it what it found before finds the same
pub same-set : (f : Attempt → Option ℕ) (xs : List Attempt) (p : ℕ) (x y : Attempt) → slice_get xs p ≡ Some x → f y ≡ f x → filter_map f (set xs p y) ≡ filter_map f xs
same-set f [] p x y at same = cc
same-set f (z ∷ xs) zero x y at same = let here : z ≡ x = cc in ap (λ o. cons_option o (filter_map f xs)) (same ∙ ap f (sym here))
same-set f (z ∷ xs) (suc p) x y at same = ap (cons_option (f z)) (same-set f xs p x y at same)

cons_none : (o : Option ℕ) (xs : List ℕ) → cons_option o xs ≡ [] → (o ≡ None) × (xs ≡ [])
cons_none None xs h = (refl, h)
cons_none (Some t) xs h = cc

-- where it found none, it finds that of the changed one alone
pub first-set : (f : Attempt → Option ℕ) (xs : List Attempt) (p : ℕ) (x y : Attempt) → slice_get xs p ≡ Some x → filter_map f xs ≡ [] → filter_map f (set xs p y) ≡ option_to_list (f y)
first-set f [] p x y at none = cc
first-set f (z ∷ xs) zero x y at none = ap (cons_option (f y)) (cons_none (f z) (filter_map f xs) none).1 ∙ alone (f y)
  where
    alone : (o : Option ℕ) → cons_option o [] ≡ option_to_list o
    alone None = refl
    alone (Some t) = refl
first-set f (z ∷ xs) (suc p) x y at none =
    let parts = cons_none (f z) (filter_map f xs) none in
    ap (λ o. cons_option o (filter_map f (set xs p y))) parts.0 ∙ first-set f xs p x y at parts.1

pub empty_by_length : (xs : List ℕ) → length xs ≡ 0 → xs ≡ []
empty_by_length [] h = refl
empty_by_length (x ∷ xs) h = absurd (omega arith)

-- a write at the socket's place is a mark of all
pub marks_at : (xs ys : List Attempt) (order : List Numbered) → AreNumbered xs order → (p s : ℕ) (state : State) → HasSocketAt xs p s
    → ((d : Attempt) → ys ≡ set xs p (marked s state (get_or xs p d))) → ys ≡ map (marked s state) xs
marks_at xs ys order n p s state at_p written =
    let (x, is_x) = there xs p s at_p in
    written x ∙ ap (λ y. set xs p (marked s state y)) (some_get xs p x x is_x).1 ∙ sym (marks_one xs order n p x s state at_p is_x)

pub place_within : (xs : List Attempt) (p s : ℕ) → HasSocketAt xs p s → p < length xs
place_within xs p s at_p = let (x, is_x) = there xs p s at_p in (some_get xs p x x is_x).0

-- whether the attempt at the place of a socket is pending tells whether the socket is
pub pending_there : (xs : List Attempt) (order : List Numbered) → AreNumbered xs order → (p s : ℕ) (is : Bool) → HasSocketAt xs p s
    → ((d : Attempt) → is ≡ is_pending (get_or xs p d)) → is ≡ has (filter_map pending_socket xs) s
pending_there xs order n p s is at_p tells =
    let (x, is_x) = there xs p s at_p in
    tells x ∙ ap is_pending (some_get xs p x x is_x).1 ∙ pending_at xs order n p x s at_p is_x

-- a pending attempt is nothing else
pending_is : (x : Attempt) (s : ℕ) → pending_socket x ≡ Some s → x ≡ Started s Pending
pending_is Refused s h = cc
pending_is (Started t Pending) s h = let same : t ≡ s = cc in ap (λ u. Started u Pending) same
pending_is (Started t Completed) s h = cc
pending_is (Started t Broken) s h = cc
pending_is (Started t Closed) s h = cc

marked_itself : (s : ℕ) (state before : State) → marked s state (Started s before) ≡ Started s state
marked_itself s state before = rw (eq-eqb s s refl) refl

-- a pending socket is that of some attempt, at which it is marked
pub pending_marks : (xs : List Attempt) (order : List Numbered) → AreNumbered xs order → (s : ℕ) (state : State) → has (filter_map pending_socket xs) s ≡ true
    → (p : ℕ) × (slice_get xs p ≡ Some (Started s Pending)) × (map (marked s state) xs ≡ set xs p (Started s state))
pending_marks xs order n s state h =
    let (p, x, is_x, its) = has_found pending_socket xs s h in
    let same : x ≡ Started s Pending = pending_is x s its in
    let here : slice_get xs p ≡ Some (Started s Pending) = is_x ∙ ap Some same in
    (p, here, marks_one xs order n p (Started s Pending) s state (at_place xs p (Started s Pending) s here refl) here ∙ ap (set xs p) (marked_itself s state Pending))

-- a socket that some attempt has is marked there
started_is : (x : Attempt) (s : ℕ) → socket_of x ≡ Some s → (before : State) × (x ≡ Started s before)
started_is Refused s h = cc
started_is (Started t before) s h = (let same : t ≡ s = cc in (before, ap (λ u. Started u before) same))

pub started_marks : (xs : List Attempt) (order : List Numbered) → AreNumbered xs order → (s : ℕ) (state : State) → has (filter_map socket_of xs) s ≡ true
    → (p : ℕ) × (before : State) × (slice_get xs p ≡ Some (Started s before)) × (map (marked s state) xs ≡ set xs p (Started s state))
started_marks xs order n s state h =
    let (p, x, is_x, its) = has_found socket_of xs s h in
    let (before, same) = started_is x s its in
    let here : slice_get xs p ≡ Some (Started s before) = is_x ∙ ap Some same in
    (p, before, here, marks_one xs order n p (Started s before) s state (at_place xs p (Started s before) s here refl) here ∙ ap (set xs p) (marked_itself s state before))
