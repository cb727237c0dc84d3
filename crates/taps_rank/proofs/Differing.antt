-- Lists in which no two elements have the same key.
use Rattle.std.proofs.Common.{◌≡◌, ◌≢◌, ◌<◌, ◌≤◌, ℕ, ◌+◌, List, [], ◌∷◌, ◌++◌, Bool, ap, sym, ◌∙◌, inl, inr, map, length, arith}
use Rattle.std.specs.List.{All, filter, flat_map, enumerate_from}
use Rattle.std.proofs.lemmas.Bool.{cases_Bool}
use Rattle.std.proofs.lemmas.List.Elements.{All-nil, All-cons, All-head, All-tail, All-append, All-weaker, All-map, All-filter}

-- each key differs from all later ones
abbrev pub Differ : {X K : Type 0} → (X → K) → List X → Type 0
Differ key [] = Unit {0}
Differ key (x ∷ xs) = All (λ y. key x ≢ key y) xs × Differ key xs

pub Differ-filter : {X K : Type 0} (key : X → K) (p : X → Bool) (xs : List X) → Differ key xs → Differ key (filter p xs)
Differ-filter key p [] h = h
Differ-filter key p (x ∷ xs) h =
    let kept : Differ key (filter p xs) = Differ-filter key p xs h.1 in
    elim (cases_Bool (p x)) [ inl passes ↦ rw passes (All-filter p (λ y. key x ≢ key y) xs h.0, kept) | inr fails ↦ rw fails kept ]

pub Differ-append : {X K : Type 0} (key : X → K) (xs ys : List X) → Differ key xs → Differ key ys
    → All (λ x. All (λ y. key x ≢ key y) ys) xs → Differ key (xs ++ ys)
Differ-append key [] ys h k apart = k
Differ-append key (x ∷ xs) ys h k apart = (
  All-append (λ y. key x ≢ key y) xs ys h.0 (All-head (λ z. All (λ y. key z ≢ key y) ys) x xs apart),
  Differ-append key xs ys h.1 k (All-tail (λ z. All (λ y. key z ≢ key y) ys) x xs apart),
)

-- where the keys of what a function gives tell what it was given
pub Differ-map : {X Y K J : Type 0} (key : Y → K) (tag : X → J) (f : X → Y) (part : K → J) → ((x : X) → part (key (f x)) ≡ tag x)
    → (xs : List X) → Differ tag xs → Differ key (map f xs)
Differ-map key tag f part tells [] h = tt
Differ-map {X} {J = J} key tag f part tells (x ∷ xs) h = (
  All-map (λ y. key (f x) ≢ key y) f xs
      (All-weaker (λ y. tag x ≢ tag y) (λ y. key (f x) ≢ key (f y)) (λ y apart same. apart (sym (tells x) ∙ ap part same ∙ tells y)) xs h.0),
  Differ-map key tag f part tells xs h.1,
)

apart_from : {X Y K J : Type 0} (key : Y → K) (tag : X → J) (f : X → List Y) (part : K → J) → ((x : X) → All (λ y. part (key y) ≡ tag x) (f x))
    → (x : X) (y : Y) → part (key y) ≡ tag x → (xs : List X) → All (λ z. tag x ≢ tag z) xs → All (λ z. key y ≢ key z) (flat_map f xs)
apart_from key tag f part tells x y is [] h = All-nil (λ z. key y ≢ key z)
apart_from key tag f part tells x y is (w ∷ ws) h =
    All-append (λ z. key y ≢ key z) (f w) (flat_map f ws)
    (All-weaker (λ z. part (key z) ≡ tag w) (λ z. key y ≢ key z) (λ z told same. All-head (λ z. tag x ≢ tag z) w ws h (sym is ∙ ap part same ∙ told)) (f w) (tells w))
    (apart_from key tag f part tells x y is ws (All-tail (λ z. tag x ≢ tag z) w ws h))

-- the same for lists, one after another
pub Differ-flat_map : {X Y K J : Type 0} (key : Y → K) (tag : X → J) (f : X → List Y) (part : K → J) → ((x : X) → All (λ y. part (key y) ≡ tag x) (f x))
    → ((x : X) → Differ key (f x)) → (xs : List X) → Differ tag xs → Differ key (flat_map f xs)
Differ-flat_map key tag f part tells each [] h = tt
Differ-flat_map key tag f part tells each (x ∷ xs) h =
    Differ-append key (f x) (flat_map f xs) (each x) (Differ-flat_map key tag f part tells each xs h.1)
    (All-weaker (λ y. part (key y) ≡ tag x) (λ y. All (λ z. key y ≢ key z) (flat_map f xs)) (λ y is. apart_from key tag f part tells x y is xs h.0) (f x) (tells x))

-- places rise
pub places_from : {X : Type 0} (low n : ℕ) (xs : List X) → low ≤ n → All (λ e. low ≤ e.0) (enumerate_from n xs)
places_from low n [] le = All-nil (λ e. low ≤ e.0)
places_from low n (x ∷ xs) le = All-cons (λ e. low ≤ e.0) (n, x) (enumerate_from (n + 1) xs) le (places_from low (n + 1) xs (omega arith))

pub places_below : {X : Type 0} (high n : ℕ) (xs : List X) → n + length xs ≤ high → All (λ e. e.0 < high) (enumerate_from n xs)
places_below high n [] le = All-nil (λ e. e.0 < high)
places_below high n (x ∷ xs) le =
    let here : n < high = omega arith in
    All-cons (λ e. e.0 < high) (n, x) (enumerate_from (n + 1) xs) here (places_below high (n + 1) xs (omega arith))

pub Differ-places : {X : Type 0} (n : ℕ) (xs : List X) → Differ (λ e. e.0) (enumerate_from n xs)
Differ-places n [] = tt
Differ-places n (x ∷ xs) = (
  All-weaker (λ e. n + 1 ≤ e.0) (λ e. n ≢ e.0) (λ e le same. omega arith) (enumerate_from (n + 1) xs) (places_from (n + 1) (n + 1) xs (omega arith)),
  Differ-places (n + 1) xs,
)
