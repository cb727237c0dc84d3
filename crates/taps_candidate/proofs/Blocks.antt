-- The ranking of a list of which one part comes before all others.
use Rattle.std.proofs.Common.{◌≡◌, ◌<◌, ℕ, ◌+◌, suc, zero, List, [], ◌∷◌, ◌++◌, Bool, true, false, Option, Some, None, refl, ap, sym, ◌∙◌, inl, inr, length, get_or, eqb, cond, arith, length-append}
use Rattle.std.specs.Option.{option_or}
use Rattle.std.specs.List.{All, find, count_by, filter_map, range_with_len}
use Rattle.std.proofs.lemmas.Bool.{cases_Bool, eqb-true, eq-eqb, ne_eqb}
use Rattle.std.proofs.lemmas.Cmp.{nat_list_cmp_total}
use Rattle.std.proofs.lemmas.List.Elements.{All-nil, All-cons, All-head, All-tail, All-weaker, filter_map-append}
use Rattle.std.proofs.lemmas.List.Folds.{find-append}
use Rattle.std.proofs.lemmas.List.Sorted.{ranks_by}
use Rattle.std.proofs.lemmas.List.Sums.{sum_by-cons, sum_by-append, count_by-le-length}
use Rattle.std.specs.Cmp.{IsStrictWeakOrder}
use Rattle.taps_rank.specs.Order.{comes_before, smaller_keys, ranked_at, ranked}

count_by-cons : {X : Type 0} (p : X → Bool) (x : X) (xs : List X) → count_by p (x ∷ xs) ≡ cond (p x) 1 0 + count_by p xs
count_by-cons p x xs = sum_by-cons (λ y. cond (p y) 1 0) x xs

none_counted : {X : Type 0} (p : X → Bool) (xs : List X) → All (λ x. p x ≡ false) xs → count_by p xs ≡ 0
none_counted p [] h = refl
none_counted p (x ∷ xs) h =
    rw (count_by-cons p x xs, All-head (λ x. p x ≡ false) x xs h, none_counted p xs (All-tail (λ x. p x ≡ false) x xs h)) refl

all_counted : {X : Type 0} (p : X → Bool) (xs : List X) → All (λ x. p x ≡ true) xs → count_by p xs ≡ length xs
all_counted p [] h = refl
all_counted p (x ∷ xs) h =
    rw (count_by-cons p x xs, All-head (λ x. p x ≡ true) x xs h, all_counted p xs (All-tail (λ x. p x ≡ true) x xs h)) (omega arith)

-- where one fails, not all are counted
one_fails : {X : Type 0} (p : X → Bool) (xs : List X) (i : ℕ) (d : X) → i < length xs → p (get_or xs i d) ≡ false → count_by p xs < length xs
one_fails p [] i d lt fails = absurd (omega arith)
one_fails p (x ∷ xs) zero d lt fails = rw (count_by-cons p x xs, fails) (omega (arith, count_by-le-length p xs))
one_fails p (x ∷ xs) (suc i) d lt fails =
    let rest : count_by p xs < length xs = one_fails p xs i d (omega arith) fails in
    elim (cases_Bool (p x)) [
      | inl passes ↦ rw (count_by-cons p x xs, passes) (omega (arith, rest))
      | inr not ↦ rw (count_by-cons p x xs, not) (omega (arith, rest))
    ]

find_none : {X : Type 0} (p : X → Bool) (xs : List X) → All (λ x. p x ≡ false) xs → find p xs ≡ None
find_none p [] h = refl
find_none p (x ∷ xs) h = rw (All-head (λ x. p x ≡ false) x xs h) (find_none p xs (All-tail (λ x. p x ≡ false) x xs h))

find_same : {X : Type 0} (p q : X → Bool) (xs : List X) → All (λ x. p x ≡ q x) xs → find p xs ≡ find q xs
find_same p q [] h = refl
find_same p q (x ∷ xs) h =
    rw (All-head (λ x. p x ≡ q x) x xs h, find_same p q xs (All-tail (λ x. p x ≡ q x) x xs h)) refl

or_none : {X : Type 0} (o : Option X) → option_or o None ≡ o
or_none None = refl
or_none (Some x) = refl

range-append : (a n m : ℕ) → range_with_len a (n + m) ≡ range_with_len a n ++ range_with_len (a + n) m
range-append a zero m = let here : a + 0 ≡ a = omega arith in let size : 0 + m ≡ m = omega arith in rw (here, size) refl
range-append a (suc n) m =
    let size : suc n + m ≡ suc (n + m) = omega arith in
    let next : a + suc n ≡ a + 1 + n = omega arith in
    rw (size, next) (ap (λ xs. a ∷ xs) (range-append (a + 1) n m))

-- what is found place by place, from different places on
along : {X : Type 0} (f g : ℕ → Option X) (m n len : ℕ) → ((k : ℕ) → k < len → f (m + k) ≡ g (n + k))
    → filter_map f (range_with_len m len) ≡ filter_map g (range_with_len n len)
along f g m n zero same = refl
along f g m n (suc len) same =
    let zero_m : m + 0 ≡ m = omega arith in
    let zero_n : n + 0 ≡ n = omega arith in
    let here : f m ≡ g n = ap f (sym zero_m) ∙ same 0 (omega arith) ∙ ap g zero_n in
    let rest : filter_map f (range_with_len (m + 1) len) ≡ filter_map g (range_with_len (n + 1) len) =
    along f g (m + 1) (n + 1) len (λ k lt.
    let in_m : m + 1 + k ≡ m + suc k = omega arith in
    let in_n : n + suc k ≡ n + 1 + k = omega arith in
    ap f in_m ∙ same (suc k) (omega arith) ∙ ap g in_n) in
    rw (here, rest) refl

same_test : (b c : Bool) → (b ≡ true → c ≡ true) → (c ≡ true → b ≡ true) → b ≡ c
same_test true true f g = refl
same_test true false f g = sym (f refl)
same_test false true f g = g refl
same_test false false f g = refl

eqb-add : (n a b : ℕ) → eqb (n + a) (n + b) ≡ eqb a b
eqb-add n a b =
    same_test (eqb (n + a) (n + b)) (eqb a b)
    (λ h. let same : n + a ≡ n + b = eqb-true (n + a) (n + b) h in eq-eqb a b (omega (arith, same)))
    (λ h. let same : a ≡ b = eqb-true a b h in eq-eqb (n + a) (n + b) (omega (arith, same)))

-- the part in the middle comes before what is around it
abbrev pub ComesFirst : {X : Type 0} → (X → List ℕ) → List X → List X → Type 0
ComesFirst key first others = All (λ x. All (λ y. comes_before (key x) (key y) ≡ true) others) first

order : {X : Type 0} (key : X → List ℕ) → IsStrictWeakOrder (λ x y. comes_before (key x) (key y))
order key = ranks_by nat_list_cmp_total key

pub not_before_itself : {X : Type 0} (key : X → List ℕ) (x : X) → comes_before (key x) (key x) ≡ false
not_before_itself key x = elim (cases_Bool (comes_before (key x) (key x))) [
  | inl so ↦ (order key).one_way x x so
  | inr not ↦ not
]

-- those of the first part have no smaller keys around it
none_smaller : {X : Type 0} (key : X → List ℕ) (first others : List X) → ComesFirst key first others
    → All (λ x. smaller_keys key others x ≡ 0) first
none_smaller key first others h =
    All-weaker (λ x. All (λ y. comes_before (key x) (key y) ≡ true) others) (λ x. smaller_keys key others x ≡ 0)
    (λ x before. none_counted (λ y. comes_before (key y) (key x)) others
    (All-weaker (λ y. comes_before (key x) (key y) ≡ true) (λ y. comes_before (key y) (key x) ≡ false) (λ y so. (order key).one_way x y so) others before)) first h

-- the first part is turned round: each of the others has all of it before
turned : {X : Type 0} (key : X → List ℕ) (first others : List X) → ComesFirst key first others
    → All (λ y. All (λ x. comes_before (key x) (key y) ≡ true) first) others
turned key first others h = λ j e within i d lt. h i d lt j e within

all_smaller : {X : Type 0} (key : X → List ℕ) (first others : List X) → ComesFirst key first others
    → All (λ y. smaller_keys key first y ≡ length first) others
all_smaller key first others h =
    All-weaker (λ y. All (λ x. comes_before (key x) (key y) ≡ true) first) (λ y. smaller_keys key first y ≡ length first)
    (λ y all. all_counted (λ x. comes_before (key x) (key y)) first all) others (turned key first others h)

-- none has as many smaller keys as there are elements
fewer_smaller : {X : Type 0} (key : X → List ℕ) (xs : List X) → All (λ x. smaller_keys key xs x < length xs) xs
fewer_smaller key xs = λ i d lt. one_fails (λ other. comes_before (key other) (key (get_or xs i d))) xs i d lt (not_before_itself key (get_or xs i d))

counted_apart : {X : Type 0} (key : X → List ℕ) (before first after : List X) (x : X)
    → smaller_keys key (before ++ (first ++ after)) x ≡ smaller_keys key first x + smaller_keys key (before ++ after) x
counted_apart {X} key before first after x =
    let count : X → ℕ = λ y. cond (comes_before (key y) (key x)) 1 0 in
    rw (sum_by-append count before (first ++ after), sum_by-append count first after, sum_by-append count before after) (omega arith)

-- in the whole list, one of the first part has as many smaller keys as in it alone
counted_first : {X : Type 0} (key : X → List ℕ) (before first after : List X) → ComesFirst key first (before ++ after)
    → All (λ x. smaller_keys key (before ++ (first ++ after)) x ≡ smaller_keys key first x) first
counted_first key before first after comes =
    All-weaker (λ x. smaller_keys key (before ++ after) x ≡ 0) (λ x. smaller_keys key (before ++ (first ++ after)) x ≡ smaller_keys key first x)
    (λ x none. counted_apart key before first after x ∙ omega (arith, none)) first (none_smaller key first (before ++ after) comes)

-- and one of the others has all of the first part besides
counted_other : {X : Type 0} (key : X → List ℕ) (before first after : List X) → ComesFirst key first (before ++ after)
    → All (λ y. smaller_keys key (before ++ (first ++ after)) y ≡ length first + smaller_keys key (before ++ after) y) (before ++ after)
counted_other key before first after comes =
    All-weaker (λ y. smaller_keys key first y ≡ length first) (λ y. smaller_keys key (before ++ (first ++ after)) y ≡ length first + smaller_keys key (before ++ after) y)
    (λ y all. counted_apart key before first after y ∙ omega (arith, all)) (before ++ after) (all_smaller key first (before ++ after) comes)

-- what is found in three parts
find_parts : {X : Type 0} (p : X → Bool) (before first after : List X) → find p (before ++ (first ++ after)) ≡ option_or (find p before) (option_or (find p first) (find p after))
find_parts p before first after = find-append p before (first ++ after) ∙ ap (option_or (find p before)) (find-append p first after)

pub All-left : {X : Type 0} (P : X → Type 0) (xs ys : List X) → All P (xs ++ ys) → All P xs
All-left P [] ys h = All-nil P
All-left P (x ∷ xs) ys h = All-cons P x xs (All-head P x (xs ++ ys) h) (All-left P xs ys (All-tail P x (xs ++ ys) h))

pub All-right : {X : Type 0} (P : X → Type 0) (xs ys : List X) → All P (xs ++ ys) → All P ys
All-right P [] ys h = h
All-right P (x ∷ xs) ys h = All-right P xs ys (All-tail P x (xs ++ ys) h)

-- an early place is found in the first part
early : {X : Type 0} (key : X → List ℕ) (before first after : List X) → ComesFirst key first (before ++ after)
    → (k : ℕ) → k < length first → ranked_at key (before ++ (first ++ after)) (0 + k) ≡ ranked_at key first (0 + k)
early {X} key before first after comes k lt =
    let whole : List X = before ++ (first ++ after) in
    let place : ℕ = 0 + k in
    let p : X → Bool = λ x. eqb (smaller_keys key whole x) place in
    let q : X → Bool = λ x. eqb (smaller_keys key first x) place in
    let others : All (λ y. p y ≡ false) (before ++ after) =
    All-weaker (λ y. smaller_keys key whole y ≡ length first + smaller_keys key (before ++ after) y) (λ y. p y ≡ false)
    (λ y is. ne_eqb (smaller_keys key whole y) place (λ same. absurd (omega (arith, is, same, lt)))) (before ++ after) (counted_other key before first after comes) in
    let these : All (λ x. p x ≡ q x) first =
    All-weaker (λ x. smaller_keys key whole x ≡ smaller_keys key first x) (λ x. p x ≡ q x) (λ x is. ap (λ n. eqb n place) is) first (counted_first key before first after comes) in
    find_parts p before first after
    ∙ ap (λ o. option_or o (option_or (find p first) (find p after))) (find_none p before (All-left (λ y. p y ≡ false) before after others))
    ∙ ap (option_or (find p first)) (find_none p after (All-right (λ y. p y ≡ false) before after others))
    ∙ or_none (find p first)
    ∙ find_same p q first these

-- and a late one among the others
late : {X : Type 0} (key : X → List ℕ) (before first after : List X) → ComesFirst key first (before ++ after)
    → (k : ℕ) → k < length (before ++ after) → ranked_at key (before ++ (first ++ after)) (0 + length first + k) ≡ ranked_at key (before ++ after) (0 + k)
late {X} key before first after comes k lt =
    let whole : List X = before ++ (first ++ after) in
    let place : ℕ = 0 + length first + k in
    let p : X → Bool = λ x. eqb (smaller_keys key whole x) place in
    let q : X → Bool = λ x. eqb (smaller_keys key (before ++ after) x) (0 + k) in
    let is_place : place ≡ length first + k = omega arith in
    let is_k : k ≡ 0 + k = omega arith in
    let others : All (λ y. p y ≡ q y) (before ++ after) =
    All-weaker (λ y. smaller_keys key whole y ≡ length first + smaller_keys key (before ++ after) y) (λ y. p y ≡ q y)
    (λ y is. ap (λ n. eqb n place) is ∙ ap (eqb (length first + smaller_keys key (before ++ after) y)) is_place
    ∙ eqb-add (length first) (smaller_keys key (before ++ after) y) k ∙ ap (eqb (smaller_keys key (before ++ after) y)) is_k) (before ++ after) (counted_other key before first after comes) in
    let none : All (λ x. p x ≡ false) first = λ i d within.
    ne_eqb (smaller_keys key whole (get_or first i d)) place
    (λ same. absurd (omega (arith, counted_first key before first after comes i d within, fewer_smaller key first i d within, same))) in
    find_parts p before first after
    ∙ ap (λ o. option_or (find p before) (option_or o (find p after))) (find_none p first none)
    ∙ ap (λ o. option_or o (find p after)) (find_same p q before (All-left (λ y. p y ≡ q y) before after others))
    ∙ ap (option_or (find q before)) (find_same p q after (All-right (λ y. p y ≡ q y) before after others))
    ∙ sym (find-append q before after)

-- a part that comes first is ranked first
pub ranked_apart : {X : Type 0} (key : X → List ℕ) (before first after : List X) → ComesFirst key first (before ++ after)
    → ranked key (before ++ (first ++ after)) ≡ ranked key first ++ ranked key (before ++ after)
unfolding ranked
ranked_apart {X} key before first after comes =
    let whole : List X = before ++ (first ++ after) in
    let size : length whole ≡ length first + length (before ++ after) =
    omega (arith, length-append before (first ++ after), length-append first after, length-append before after) in
    rw size
    (ap (filter_map (ranked_at key whole)) (range-append 0 (length first) (length (before ++ after)))
    ∙ filter_map-append (ranked_at key whole) (range_with_len 0 (length first)) (range_with_len (0 + length first) (length (before ++ after)))
    ∙ ap (λ xs. xs ++ filter_map (ranked_at key whole) (range_with_len (0 + length first) (length (before ++ after))))
    (along (ranked_at key whole) (ranked_at key first) 0 0 (length first) (early key before first after comes))
    ∙ ap (λ xs. filter_map (ranked_at key first) (range_with_len 0 (length first)) ++ xs)
    (along (ranked_at key whole) (ranked_at key (before ++ after)) (0 + length first) 0 (length (before ++ after)) (late key before first after comes)))
