-- The least loser is the first one in the order of the numbers.
use mathlib.Core.Bool.{true≢false}
use Rattle.std.proofs.Common.{◌≡◌, ◌<◌, ◌≤◌, ℕ, Bool, true, false, not, List, [], ◌∷◌, Option, None, Some, refl, ap, sym, ◌∙◌, subst, inl, inr, length, get_or, arith}
use Rattle.std.specs.Prelude.{◌==◌, slice_get, min, fold, ◌&&◌, ◌||◌}
use Rattle.std.specs.List.{filter, filter_map, reduce}
use Rattle.std.specs.Option.{option_map_or, is_some}
use Rattle.std.proofs.lemmas.Bool.{cases_order, eqb-true, eq-eqb}
use Rattle.std.proofs.lemmas.List.{get_or_default}
use Rattle.taps_socket.specs.declared.race_answer.RaceAnswer.{RaceAnswer}
use Rattle.taps_socket.specs.RaceSockets.{has}
use Rattle.taps_socket.specs.Winner.{is_winner}
use Rattle.taps_socket.proofs.Lists.{both, either, or_left, or_right, kept, keeps}
use Rattle.taps_racer.specs.declared.attempt.Attempt.{Attempt}
use Rattle.taps_racer.specs.declared.order.Numbered.{Numbered}
use Rattle.taps_racer.specs.Attempts.{socket_of, open_socket}
use Rattle.taps_racer.specs.Order.{HasSocketAt, AreNumbered, is_open, is_loser, ArePassed}
use Rattle.taps_racer.proofs.Lists.{least_has}
use Rattle.taps_racer.proofs.Numbers.{found_has, has_found, at_place, socket_at, open_tells, there}

fold_le : (x : ℕ) (xs : List ℕ) → fold min x xs ≤ x
fold_le x [] = omega arith
fold_le x (y ∷ xs) = omega (arith, fold_le (min x y) xs)

fold_lower : (x : ℕ) (xs : List ℕ) (s : ℕ) → has xs s ≡ true → fold min x xs ≤ s
fold_lower x [] s h = absurd (true≢false (sym h))
fold_lower x (y ∷ xs) s h = elim (either (y == s) (has xs s) h) [
  | inl here ↦ omega (arith, fold_le (min x y) xs, eqb-true y s here)
  | inr there ↦ fold_lower (min x y) xs s there
]

-- a member that is no greater than any is the least
least_is : (xs : List ℕ) (m : ℕ) → has xs m ≡ true → ((s : ℕ) → has xs s ≡ true → m ≤ s) → reduce min xs ≡ Some m
least_is [] m h least = absurd (true≢false (sym h))
least_is (x ∷ xs) m h least =
    let low : m ≤ fold min x xs = least (fold min x xs) (least_has (x ∷ xs) (fold min x xs) refl) in
    elim (either (x == m) (has xs m) h) [
      | inl here ↦ ap Some (omega (arith, low, fold_le x xs, eqb-true x m here))
      | inr there ↦ ap Some (omega (arith, low, fold_lower x xs m there))
    ]

none_least : (xs : List ℕ) → ((s : ℕ) → has xs s ≡ true → ⊥) → reduce min xs ≡ None
none_least [] h = refl
none_least (x ∷ xs) h = absurd (h x (or_left (x == x) (has xs x) (eq-eqb x x refl)))

abbrev losers_of : List Attempt → Option RaceAnswer → List ℕ
losers_of xs ready = filter (λ s. not (is_winner ready s)) (filter_map open_socket xs)

some_of : (o : Option ℕ) → is_some o ≡ true → (s : ℕ) × (o ≡ Some s)
some_of None h = absurd (true≢false (sym h))
some_of (Some s) h = (s, refl)

in_losers : (xs : List Attempt) (ready : Option RaceAnswer) (n : Numbered) → HasSocketAt xs n.place n.socket → is_loser xs ready n ≡ true → has (losers_of xs ready) n.socket ≡ true
in_losers xs ready n at h =
    let (y, is_y) = there xs n.place n.socket at in
    let parts = both (option_map_or is_open (slice_get xs n.place) false) (not (is_winner ready n.socket)) h in
    let opened : is_open y ≡ true = (rw is_y at parts.0) in
    let (t, its) = some_of (open_socket y) opened in
    let one : Some t ≡ Some n.socket = sym (open_tells y t its) ∙ socket_at xs n.place y n.socket is_y at in
    keeps (λ s. not (is_winner ready s)) (filter_map open_socket xs) n.socket parts.1 (found_has open_socket xs n.place y n.socket is_y (its ∙ one))

-- where a loser stands in the order
record StandsAt (xs : List Attempt) (ready : Option RaceAnswer) (order : List Numbered) (s : ℕ) : Type 0 where
  place : ℕ
  it : Numbered
  within : place < length order
  is : get_or order place it ≡ it
  socket : it.socket ≡ s
  loser : is_loser xs ready it ≡ true

stands_at : (xs : List Attempt) (ready : Option RaceAnswer) (order : List Numbered) (s : ℕ) → AreNumbered xs order → has (losers_of xs ready) s ≡ true → StandsAt xs ready order s
stands_at xs ready order s n h =
    let parts = kept (λ s. not (is_winner ready s)) (filter_map open_socket xs) s h in
    let (p, y, is_y, its) = has_found open_socket xs s parts.1 in
    let (k, lt, is) = n.all p s (at_place xs p y s is_y (open_tells y s its)) in
    record {
      place = k;
      it = record { socket = s; place = p };
      within = lt;
      is = is;
      socket = refl;
      loser = rw (is_y, its, parts.0) refl;
    }

-- the first loser in the order is the least one
pub first_is_least : (xs : List Attempt) (ready : Option RaceAnswer) (order : List Numbered) (place : ℕ) (it : Numbered) → AreNumbered xs order → ArePassed xs ready order place
    → place < length order → it ≡ get_or order place it → is_loser xs ready it ≡ true → reduce min (losers_of xs ready) ≡ Some it.socket
first_is_least xs ready order place it n passed within is loser =
    let number : Numbered → ℕ = λ m. m.socket in
    let here : HasSocketAt xs it.place it.socket = subst (λ (m : Numbered). HasSocketAt xs m.place m.socket) (sym is) (n.each place it within) in
    least_is (losers_of xs ready) it.socket (in_losers xs ready it here loser)
    (λ s h.
    let at = stands_at xs ready order s n h in
    elim (cases_order place at.place) [
      | inl same ↦
          let one : it ≡ at.it = is ∙ get_or_default order place it at.it within ∙ ap (λ k. get_or order k at.it) same ∙ at.is in
          omega (arith, ap number one, at.socket)
      | inr other ↦ elim other [
        | inl before ↦
            let rises = n.rise place at.place it before at.within in
            omega (arith, rises, ap number is, ap number (get_or_default order at.place it at.it at.within ∙ at.is), at.socket)
        | inr after ↦ absurd (true≢false (sym at.loser ∙ ap (is_loser xs ready) (sym at.is) ∙ passed.none at.place at.it after))
      ]
    ])

-- where all are passed there is none
pub none_is_least : (xs : List Attempt) (ready : Option RaceAnswer) (order : List Numbered) (place : ℕ) → AreNumbered xs order → ArePassed xs ready order place
    → length order ≤ place → reduce min (losers_of xs ready) ≡ None
none_is_least xs ready order place n passed all =
    none_least (losers_of xs ready) (λ s h.
    let at = stands_at xs ready order s n h in
    true≢false (sym at.loser ∙ ap (is_loser xs ready) (sym at.is) ∙ passed.none at.place at.it (omega (arith, at.within, all))))
