-- A list that is sorted by keys which all differ is ranked by them.
use Rattle.std.proofs.Common.{◌≡◌, ◌≢◌, ◌<◌, ◌≤◌, ℕ, ◌+◌, suc, zero, List, [], ◌∷◌, Bool, true, false, Option, Some, None, refl, ap, sym, ◌∙◌, inl, inr, map, length, get_or, eqb, cond, arith, add-zero}
use Rattle.std.specs.Cmp.Lexicographic.{slice_cmp}
use Rattle.std.specs.Ordering.{nat_cmp, is_lt, is_eq, ordering_reverse}
use Rattle.std.specs.declared.cmp.Ordering.{Ordering}
use Rattle.std.specs.declared.cmp.Ordering.TheVariants.{Less, Equal, Greater}
use Rattle.std.specs.Option.{option_map}
use Rattle.std.specs.List.{All, AllPairs, Contains, find, count_by, fold, filter_map, cons_option, range_with_len, enumerate_from}
use Rattle.std.specs.List.Sorted.{IsPermutation, IsSorted, IsSortedByKey}
use Rattle.std.proofs.lemmas.Bool.{cases_Bool, eqb-true, eq-eqb}
use Rattle.std.proofs.lemmas.Cmp.{nat_list_cmp_total, nat_list_eq_equiv}
use Rattle.std.proofs.lemmas.List.{length-map, get_or-map, get_or_default}
use Rattle.std.proofs.lemmas.List.Elements.{All-head, All-tail, All-map}
use Rattle.std.proofs.lemmas.List.Kept.{AllPairs-cons}
use Rattle.std.proofs.lemmas.List.Sums.{sum_by-cons}
use Rattle.std.proofs.lemmas.List.Sorted.{IsPermutation-sym, IsPermutation-map, All-permutation, Contains-permutation, length_permutation, sorted_far, ranks_by, sum_by-IsPermutation}
use Rattle.std.proofs.lemmas.Map.Keys.{IsDistinct-IsPermutation}
use Rattle.std.proofs.lemmas.Map.Lookups.{exact_bytes}
use Rattle.std.proofs.lemmas.Map.Made.{AllPairs-from_IsDistinct, IsDistinct-from_AllPairs}
use Rattle.std.proofs.lemmas.Slice.Eq.{bytes_eq-Decides}
use Rattle.std.specs.Str.{bytes_eq}
use Rattle.std.proofs.lemmas.Simd.{map-map}
use Rattle.taps_endpoint.specs.declared.address.Family.{Family}
use Rattle.taps_rank.specs.Order.{comes_before, smaller_keys, ranked_at, ranked, turn_key, places_in_order}
use Rattle.taps_rank.proofs.Differing.{Differ, Differ-map, Differ-places}

apart_from_Differ : {X : Type 0} (key : X → List ℕ) (xs : List X) → Differ key xs → AllPairs (λ a b. a ≢ b) (map key xs)
apart_from_Differ key [] h = λ i j d lt within. absurd (omega arith)
apart_from_Differ key (x ∷ xs) h =
    AllPairs-cons (λ a b. a ≢ b) (key x) (map key xs) (All-map (λ k. key x ≢ k) key xs h.0) (apart_from_Differ key xs h.1)

-- keys that differ stay so when they change places
stay_apart : {X : Type 0} (key : X → List ℕ) (xs ys : List X) → IsPermutation xs ys → Differ key xs → AllPairs (λ a b. a ≢ b) (map key ys)
stay_apart key xs ys moved differ =
    AllPairs-from_IsDistinct bytes_eq-Decides (map key ys)
    (IsDistinct-IsPermutation bytes_eq nat_list_eq_equiv.symm (map key xs) (map key ys) (IsPermutation-map key xs ys moved)
    (IsDistinct-from_AllPairs bytes_eq-Decides (map key xs) (apart_from_Differ key xs differ)))

not_tied : (o : Ordering) → (o ≡ Equal → ⊥) → is_eq o ≡ false
not_tied Less h = refl
not_tied Equal h = absurd (h refl)
not_tied Greater h = refl

before_from : (o p : Ordering) → p ≡ ordering_reverse o → is_lt p ≡ false → is_eq o ≡ false → is_lt o ≡ true
before_from Less p is not_after apart = refl
before_from Equal p is not_after apart = cc
before_from Greater p is not_after apart = cc

-- what does not come after and has another key comes before
pub before_if : (a b : List ℕ) → comes_before b a ≡ false → a ≢ b → comes_before a b ≡ true
before_if a b not_after apart =
    before_from (slice_cmp nat_cmp a b) (slice_cmp nat_cmp b a) (nat_list_cmp_total.antisymm b a) not_after (not_tied (slice_cmp nat_cmp a b) (λ same. apart (exact_bytes a b same)))

falls_not : {X : Type 0} (key : X → List ℕ) (ys : List X) → IsSortedByKey key (slice_cmp nat_cmp) ys → (i j : ℕ) (d : X)
    → i ≤ j → j < length ys → comes_before (key (get_or ys j d)) (key (get_or ys i d)) ≡ false
falls_not key ys sorted i j d le within =
    sorted_far (λ x y. comes_before (key x) (key y)) (ranks_by nat_list_cmp_total key) ys sorted i j d le within

-- an element of a sorted list comes before each later one
rises : {X : Type 0} (key : X → List ℕ) (ys : List X) → AllPairs (λ a b. a ≢ b) (map key ys) → IsSortedByKey key (slice_cmp nat_cmp) ys → (i j : ℕ) (d : X)
    → i < j → j < length ys → comes_before (key (get_or ys i d)) (key (get_or ys j d)) ≡ true
rises key ys apart sorted i j d lt within =
    before_if (key (get_or ys i d)) (key (get_or ys j d)) (falls_not key ys sorted i j d (omega arith) within)
    (λ same. apart i j (key d) lt (rw (length-map ys key) within) (get_or-map key ys i d (key d) (omega arith) ∙ same ∙ sym (get_or-map key ys j d (key d) within)))

count_by-cons : {X : Type 0} (p : X → Bool) (x : X) (xs : List X) → count_by p (x ∷ xs) ≡ cond (p x) 1 0 + count_by p xs
count_by-cons p x xs = sum_by-cons (λ y. cond (p y) 1 0) x xs

-- those that pass are the first ones
counted_to : {X : Type 0} (p : X → Bool) (xs : List X) (k : ℕ) → k ≤ length xs → ((i : ℕ) (d : X) → i < k → p (get_or xs i d) ≡ true)
    → ((i : ℕ) (d : X) → k ≤ i → i < length xs → p (get_or xs i d) ≡ false) → count_by p xs ≡ k
counted_to p [] zero le before after = refl
counted_to p [] (suc k) le before after = absurd (omega arith)
counted_to p (x ∷ xs) zero le before after =
    rw (count_by-cons p x xs, after 0 x (omega arith) (omega arith), counted_to p xs 0 (omega arith) (λ i d lt. absurd (omega arith)) (λ i d from within. after (suc i) d (omega arith) (omega arith))) refl
counted_to p (x ∷ xs) (suc k) le before after =
    rw (count_by-cons p x xs, before 0 x (omega arith), counted_to p xs k (omega arith) (λ i d lt. before (suc i) d (omega arith)) (λ i d from within. after (suc i) d (omega arith) (omega arith))) (omega arith)

-- in a sorted list each has as many smaller keys as elements before it
smaller_in_sorted : {X : Type 0} (key : X → List ℕ) (ys : List X) → AllPairs (λ a b. a ≢ b) (map key ys) → IsSortedByKey key (slice_cmp nat_cmp) ys → (k : ℕ) (d : X)
    → k < length ys → smaller_keys key ys (get_or ys k d) ≡ k
smaller_in_sorted key ys apart sorted k d within =
    counted_to (λ other. comes_before (key other) (key (get_or ys k d))) ys k (omega arith)
    (λ i e lt. rw (get_or_default ys i e d (omega arith)) (rises key ys apart sorted i k d lt within))
    (λ i e from lt. rw (get_or_default ys i e d lt) (falls_not key ys sorted k i d from lt))

smaller_in_either : {X : Type 0} (key : X → List ℕ) (xs ys : List X) (x : X) → IsPermutation xs ys → smaller_keys key ys x ≡ smaller_keys key xs x
smaller_in_either key xs ys x moved = sum_by-IsPermutation (λ other. cond (comes_before (key other) (key x)) 1 0) xs ys moved

-- the only one that passes is found
find_only : {X : Type 0} (p : X → Bool) (xs : List X) (y : X) → Contains xs y → p y ≡ true → All (λ z. p z ≡ true → z ≡ y) xs → find p xs ≡ Some y
find_only p [] y (k, within, is) passes only = absurd (omega arith)
find_only p (x ∷ xs) y (zero, within, is) passes only = rw (is, passes) refl
find_only p (x ∷ xs) y (suc k, within, is) passes only =
    elim (cases_Bool (p x)) [
      | inl this ↦ rw this (ap Some (All-head (λ z. p z ≡ true → z ≡ y) x xs only this))
      | inr fails ↦ rw fails (find_only p xs y (k, omega arith, is) passes (All-tail (λ z. p z ≡ true → z ≡ y) x xs only))
    ]

-- a list is what is found place by place
collected : {X : Type 0} (f : ℕ → Option X) (n : ℕ) (ys : List X) → ((k : ℕ) (d : X) → k < length ys → f (n + k) ≡ Some (get_or ys k d))
    → filter_map f (range_with_len n (length ys)) ≡ ys
collected f n [] found = refl
collected f n (y ∷ ys) found =
    let here : f n ≡ Some y = ap f (sym (add-zero n)) ∙ found 0 y (omega arith) in
    let rest : filter_map f (range_with_len (n + 1) (length ys)) ≡ ys =
    collected f (n + 1) ys (λ k d within. let place : n + 1 + k ≡ n + suc k = omega arith in ap f place ∙ found (suc k) d (omega arith)) in
    rw (here, rest) refl

at_place : {X : Type 0} (key : X → List ℕ) (xs ys : List X) → IsPermutation xs ys → AllPairs (λ a b. a ≢ b) (map key ys) → IsSortedByKey key (slice_cmp nat_cmp) ys
    → (k : ℕ) (d : X) → k < length ys → ranked_at key xs (0 + k) ≡ Some (get_or ys k d)
at_place key xs ys moved apart sorted k d within =
    let back : IsPermutation ys xs = IsPermutation-sym xs ys moved in
    let counted : (j : ℕ) (e : _) → j < length ys → smaller_keys key xs (get_or ys j e) ≡ j =
    λ j e lt. sym (smaller_in_either key xs ys (get_or ys j e) moved) ∙ smaller_in_sorted key ys apart sorted j e lt in
    find_only (λ x. eqb (smaller_keys key xs x) (0 + k)) xs (get_or ys k d)
    (Contains-permutation ys xs (get_or ys k d) back (k, within, get_or_default ys k (get_or ys k d) d within))
    (eq-eqb (smaller_keys key xs (get_or ys k d)) (0 + k) (counted k d within ∙ omega arith))
    (All-permutation (λ z. eqb (smaller_keys key xs z) (0 + k) ≡ true → z ≡ get_or ys k d) ys xs back
    (λ j e lt passes. let same : j ≡ k = sym (counted j e lt) ∙ eqb-true (smaller_keys key xs (get_or ys j e)) (0 + k) passes ∙ omega arith in
    ap (λ place. get_or ys place e) same ∙ get_or_default ys k e d within))

pub ranked_if_sorted : {X : Type 0} (key : X → List ℕ) (xs ys : List X) → Differ key xs → IsPermutation xs ys → IsSortedByKey key (slice_cmp nat_cmp) ys → ranked key xs ≡ ys
unfolding ranked
ranked_if_sorted key xs ys differ moved sorted =
    let apart : AllPairs (λ a b. a ≢ b) (map key ys) = stay_apart key xs ys moved differ in
    rw (← length_permutation xs ys moved) (collected (ranked_at key xs) 0 ys (λ k d within. at_place key xs ys moved apart sorted k d within))

-- what a function gives is ranked as what it is given is

find-map : {A B : Type 0} (p : B → Bool) (f : A → B) (xs : List A) → find p (map f xs) ≡ option_map f (find (λ x. p (f x)) xs)
find-map p f [] = refl
find-map p f (x ∷ xs) = elim (cases_Bool (p (f x))) [ inl passes ↦ rw passes refl | inr fails ↦ rw (fails, find-map p f xs) refl ]

fold-map : {A B C : Type 0} (g : C → B → C) (f : A → B) (start : C) (xs : List A) → fold g start (map f xs) ≡ fold (λ so_far x. g so_far (f x)) start xs
fold-map g f start [] = refl
fold-map g f start (x ∷ xs) = fold-map g f (g start (f x)) xs

count_by-map : {A B : Type 0} (p : B → Bool) (f : A → B) (xs : List A) → count_by p (map f xs) ≡ count_by (λ x. p (f x)) xs
count_by-map p f xs = fold-map (λ count x. count + cond (p x) 1 0) f 0 xs

cons_option-map : {A B : Type 0} (f : A → B) (o : Option A) (xs : List A) → cons_option (option_map f o) (map f xs) ≡ map f (cons_option o xs)
cons_option-map f None xs = refl
cons_option-map f (Some x) xs = refl

filter_map-option_map : {A B : Type 0} (f : A → B) (g : ℕ → Option B) (h : ℕ → Option A) → ((k : ℕ) → g k ≡ option_map f (h k)) → (ks : List ℕ) → filter_map g ks ≡ map f (filter_map h ks)
filter_map-option_map f g h same [] = refl
filter_map-option_map f g h same (k ∷ ks) = rw (same k, filter_map-option_map f g h same ks) (cons_option-map f (h k) (filter_map h ks))

pub ranked-map : {A B : Type 0} (key : B → List ℕ) (f : A → B) (xs : List A) → ranked key (map f xs) ≡ map f (ranked (λ x. key (f x)) xs)
unfolding ranked
ranked-map key f xs =
    rw (length-map xs f)
    (filter_map-option_map f (ranked_at key (map f xs)) (ranked_at (λ x. key (f x)) xs)
    (λ place. find-map (λ y. eqb (smaller_keys key (map f xs) y) place) f xs ∙ simp (count_by-map) refl)
    (range_with_len 0 (length xs)))

-- the places of keys that were sorted
pub sorted_places : (families : List Family) (keys sorted : List (List ℕ)) → keys ≡ map (turn_key (enumerate_from 0 families)) (enumerate_from 0 families)
    → IsPermutation keys sorted → IsSorted (slice_cmp nat_cmp) sorted → map (λ key. get_or key 2 0) sorted ≡ places_in_order families
sorted_places families keys sorted is moved rising =
    let all : List (ℕ × Family) = enumerate_from 0 families in
    let differ : Differ (λ key. key) (map (turn_key all) all) =
    Differ-map (λ key. key) (λ e. e.0) (turn_key all) (λ key. get_or key 2 0) (λ e. refl) all (Differ-places 0 families) in
    let same : ranked (λ key. key) (map (turn_key all) all) ≡ sorted =
    ranked_if_sorted (λ key. key) (map (turn_key all) all) sorted differ (rw (← is) moved) rising in
    ap (map (λ key. get_or key 2 0)) (sym same ∙ ranked-map (λ key. key) (turn_key all) all) ∙ map-map (λ key. get_or key 2 0) (turn_key all) (ranked (turn_key all) all)
