-- What is kept beside the attempts goes on with them.
use Rattle.std.proofs.Common.{◌≡◌, ◌≢◌, ◌⊎◌, ◌<◌, ◌≤◌, ℕ, ◌+◌, ◌-◌, suc, zero, Bool, true, false, not, List, [], ◌∷◌, ◌++◌, Option, None, Some, refl, ap, sym, ◌∙◌, subst, inl, inr, map, length, get_or, set, take, drop, eqb, arith, length-append}
use Rattle.std.specs.Prelude.{◌==◌, slice_get, min, if◌then◌else◌, ◌&&◌, ◌||◌}
use Rattle.std.specs.List.{All, Contains, filter, filter_map, cons_option, insert}
use Rattle.std.specs.Option.{option_map_or, option_to_list, is_some}
use mathlib.Core.Bool.{true≢false}
use Rattle.std.proofs.lemmas.Bool.{cases_Bool, cases_order, cases_eq, cases_lt, eqb-true, eqb-false, eq-eqb}
use Rattle.std.proofs.lemmas.List.{length-map, length-set, map-append, append-nil, get_or_default}
use Rattle.std.proofs.lemmas.List.Edits.{length-insert, get_or-insert_below, get_or-insert_at, get_or-insert_above}
use Rattle.std.proofs.lemmas.List.Elements.{filter_map-append, All-nil}
use Rattle.taps_socket.specs.declared.race_answer.RaceAnswer.{RaceAnswer}
use Rattle.taps_socket.specs.RaceSockets.{has}
use Rattle.taps_socket.specs.Winner.{is_winner}
use Rattle.taps_socket.proofs.Lists.{both, kept, keeps, or_left}
use Rattle.taps_racer.specs.declared.attempt.State.{State}
use Rattle.taps_racer.specs.declared.attempt.State.TheVariants.{Pending, Completed, Broken, Closed}
use Rattle.taps_racer.specs.declared.attempt.Attempt.{Attempt}
use Rattle.taps_racer.specs.declared.attempt.Attempt.TheVariants.{Refused, Started}
use Rattle.taps_racer.specs.declared.order.Numbered.{Numbered}
use Rattle.taps_racer.specs.Attempts.{socket_of, open_socket, pending_socket, broken_socket, marked}
use Rattle.taps_racer.specs.Order.{Rise, HasSocketAt, AreNumbered, is_open, is_loser, ArePassed, IsIndex, one_if, without}
use Rattle.taps_racer.proofs.Lists.{least_has, least_none}
use Rattle.taps_racer.proofs.Numbers.{found_has, at_place, socket_at, search_at, search_none, pending_at, pending_tells, broken_tells, there}
use Rattle.taps_racer.proofs.Marks.{counted-set, same-set, first-set, empty_by_length, pending_marks, started_marks, marks_none}

-- before the first attempt
pub index_new : IsIndex [] None [] 0 0 None
index_new = record {
  numbered = record { rise = λ i j d lt within. absurd (omega arith); each = All-nil (λ n. HasSocketAt [] n.place n.socket); all = λ place socket h. cc };
  few = omega arith;
  passed_over = record { within = omega arith; none = λ k d lt. absurd (omega arith) };
  count = refl;
  one_broke = refl;
}

-- an attempt more leaves the others in their places
slice_get-left : {X : Type 0} (xs ys : List X) (p : ℕ) (x : X) → slice_get xs p ≡ Some x → slice_get (xs ++ ys) p ≡ Some x
slice_get-left [] ys p x at = cc
slice_get-left (z ∷ xs) ys zero x at = at
slice_get-left (z ∷ xs) ys (suc p) x at = slice_get-left xs ys p x at

slice_get-last : {X : Type 0} (xs : List X) (p : ℕ) (x y : X) → slice_get (xs ++ y ∷ []) p ≡ Some x → (slice_get xs p ≡ Some x) ⊎ ((p ≡ length xs) × (x ≡ y))
slice_get-last [] zero x y at = inr (refl, cc)
slice_get-last [] (suc p) x y at = cc
slice_get-last (z ∷ xs) zero x y at = inl at
slice_get-last (z ∷ xs) (suc p) x y at = elim (slice_get-last xs p x y at) [
  | inl before ↦ inl before
  | inr (place, same) ↦ inr (ap suc place, same)
]

slice_get-end : {X : Type 0} (xs : List X) (y : X) → slice_get (xs ++ y ∷ []) (length xs) ≡ Some y
slice_get-end [] y = refl
slice_get-end (x ∷ xs) y = slice_get-end xs y

has_more : (xs : List Attempt) (x : Attempt) (place socket : ℕ) → HasSocketAt xs place socket → HasSocketAt (xs ++ x ∷ []) place socket
has_more xs x place socket h = ap (λ os. slice_get os place) (map-append socket_of xs (x ∷ [])) ∙ slice_get-left (map socket_of xs) (socket_of x ∷ []) place (Some socket) h

-- the loser at a place that is there is judged as before
judged : (xs ys : List Attempt) (ready : Option RaceAnswer) (n : Numbered) → slice_get ys n.place ≡ slice_get xs n.place → is_loser ys ready n ≡ is_loser xs ready n
judged xs ys ready n same = ap (λ o. option_map_or is_open o false && not (is_winner ready n.socket)) same

passed_more : (xs : List Attempt) (x : Attempt) (ready : Option RaceAnswer) (order : List Numbered) (passed : ℕ) → AreNumbered xs order
    → ArePassed xs ready order passed → ArePassed (xs ++ x ∷ []) ready order passed
passed_more xs x ready order passed n h = record {
  within = h.within;
  none = λ k d lt.
      let at : Numbered = get_or order k d in
      let (y, is_y) = there xs at.place at.socket (n.each k d (omega (arith, h.within))) in
      judged xs (xs ++ x ∷ []) ready at (slice_get-left xs (x ∷ []) at.place y is_y ∙ sym is_y) ∙ h.none k d lt;
}

-- an attempt that was refused
pub index_refused : (xs : List Attempt) (ready : Option RaceAnswer) (order : List Numbered) (passed pending : ℕ) (broken : Option ℕ) → IsIndex xs ready order passed pending broken
    → IsIndex (xs ++ Refused ∷ []) ready order passed pending broken
index_refused xs ready order passed pending broken h = record {
  numbered = record {
    rise = h.numbered.rise;
    each = λ k d lt. has_more xs Refused (get_or order k d).place (get_or order k d).socket (h.numbered.each k d lt);
    all = λ place socket at. elim (slice_get-last (map socket_of xs) place (Some socket) None (ap (λ os. slice_get os place) (sym (map-append socket_of xs (Refused ∷ []))) ∙ at)) [
      | inl before ↦ h.numbered.all place socket before
      | inr (here, same) ↦ cc
    ];
  };
  few = omega (arith, h.few, length-append xs (Refused ∷ []));
  passed_over = passed_more xs Refused ready order passed h.numbered h.passed_over;
  count = h.count ∙ ap length (sym (filter_map-append pending_socket xs (Refused ∷ []) ∙ append-nil (filter_map pending_socket xs)));
  one_broke = filter_map-append broken_socket xs (Refused ∷ []) ∙ append-nil (filter_map broken_socket xs) ∙ h.one_broke;
}

-- where an element of a list with one more comes from: it was before the place, or it is the one, or it was from there on
record Before (order : List Numbered) (i k : ℕ) (d : Numbered) (it : Numbered) : Type 0 where
  place : k < i
  is : it ≡ get_or order k d

record After (order : List Numbered) (i k : ℕ) (d : Numbered) (it : Numbered) : Type 0 where
  from : ℕ
  place : i ≤ from
  next : k ≡ from + 1
  is : it ≡ get_or order from d

above_place : (order : List Numbered) (i : ℕ) (n : Numbered) (k : ℕ) (d : Numbered) → i ≤ length order → i < k → After order i k d (get_or (insert order i n) k d)
above_place order i n zero d le past = absurd (omega arith)
above_place order i n (suc k) d le past =
    let from : i ≤ k = omega arith in
    let next : suc k ≡ k + 1 = omega arith in
    record { from = k; place = from; next = next; is = ap (λ j. get_or (insert order i n) j d) next ∙ get_or-insert_above order i n d k from le }

abbrev Spot : List Numbered → ℕ → Numbered → ℕ → Numbered → Type 0
Spot order i n k d =
    Before order i k d (get_or (insert order i n) k d) ⊎ (((k ≡ i) × (get_or (insert order i n) k d ≡ n)) ⊎ After order i k d (get_or (insert order i n) k d))

spot : (order : List Numbered) (i : ℕ) (n : Numbered) (k : ℕ) (d : Numbered) → i ≤ length order → Spot order i n k d
spot order i n k d le = elim (cases_order k i) [
  | inl at ↦ inr (inl (at, ap (λ j. get_or (insert order i n) j d) at ∙ get_or-insert_at order i n d le))
  | inr other ↦ elim other [
    | inl below ↦ inl (record { place = below; is = get_or-insert_below order i n d k below le })
    | inr past ↦ inr (inr (above_place order i n k d le past))
  ]
]

-- the numbers rise with one more at its place
rises_with : (order : List Numbered) (i : ℕ) (n : Numbered) → i ≤ length order → Rise order
    → ((k : ℕ) (d : Numbered) → k < i → (get_or order k d).socket < n.socket)
    → ((k : ℕ) (d : Numbered) → i ≤ k → k < length order → n.socket < (get_or order k d).socket) → Rise (insert order i n)
rises_with order i n le rise below above a b d lt within =
    let size : length (insert order i n) ≡ length order + 1 = length-insert order i n le in
    let number : Numbered → ℕ = λ m. m.socket in
    elim (spot order i n a d le) [
      | inl x ↦ elim (spot order i n b d le) [
        | inl y ↦ (let now = rise a b d lt (omega (arith, y.place, le)) in omega (arith, now, ap number x.is, ap number y.is))
        | inr other ↦ elim other [
          | inl (at, y) ↦ (let now = below a d x.place in omega (arith, now, ap number x.is, ap number y))
          | inr y ↦ (let now = rise a y.from d (omega (arith, x.place, y.place)) (omega (arith, y.next, size, within)) in omega (arith, now, ap number x.is, ap number y.is))
        ]
      ]
      | inr first ↦ elim first [
        | inl (at_a, x) ↦ elim (spot order i n b d le) [
          | inl y ↦ absurd (omega (arith, at_a, y.place, lt))
          | inr other ↦ elim other [
            | inl (at, y) ↦ absurd (omega (arith, at_a, at, lt))
            | inr y ↦ (let now = above y.from d y.place (omega (arith, y.next, size, within)) in omega (arith, now, ap number x, ap number y.is))
          ]
        ]
        | inr x ↦ elim (spot order i n b d le) [
          | inl y ↦ absurd (omega (arith, x.place, x.next, y.place, lt))
          | inr other ↦ elim other [
            | inl (at, y) ↦ absurd (omega (arith, x.place, x.next, at, lt))
            | inr y ↦ (let now = rise x.from y.from d (omega (arith, x.next, y.next, lt)) (omega (arith, y.next, size, within)) in omega (arith, now, ap number x.is, ap number y.is))
          ]
        ]
      ]
    ]

contains_with : (order : List Numbered) (i : ℕ) (n m : Numbered) → i ≤ length order → Contains order m → Contains (insert order i n) m
contains_with order i n m le (j, within, is) =
    let size : length (insert order i n) ≡ length order + 1 = length-insert order i n le in
    elim (cases_lt j i) [
      | inl below ↦ (j, omega (arith, size, within), get_or-insert_below order i n m j below le ∙ is)
      | inr from ↦ (j + 1, omega (arith, size, within), get_or-insert_above order i n m j from le ∙ is)
    ]

-- an attempt that has a new socket
pub index_started : (xs : List Attempt) (ready : Option RaceAnswer) (order : List Numbered) (passed pending : ℕ) (broken : Option ℕ) (s i : ℕ) → IsIndex xs ready order passed pending broken
    → has (filter_map socket_of xs) s ≡ false → i ≤ length order → ((k : ℕ) (d : Numbered) → k < i → (get_or order k d).socket < s)
    → ((k : ℕ) (d : Numbered) → i ≤ k → k < length order → s ≤ (get_or order k d).socket)
    → IsIndex (xs ++ Started s Pending ∷ []) ready (insert order i (record { socket = s; place = length xs })) (min passed i) (pending + 1) broken
index_started xs ready order passed pending broken s i h fresh le below above =
    let n : Numbered = record { socket = s; place = length xs } in
    let x : Attempt = Started s Pending in
    let ys : List Attempt = xs ++ x ∷ [] in
    let size : length (insert order i n) ≡ length order + 1 = length-insert order i n le in
    let sockets : map socket_of ys ≡ map socket_of xs ++ Some s ∷ [] = map-append socket_of xs (x ∷ []) in
    let at_end : HasSocketAt ys (length xs) s =
    ap (λ os. slice_get os (length xs)) sockets ∙ ap (slice_get (map socket_of xs ++ Some s ∷ [])) (sym (length-map xs socket_of)) ∙ slice_get-end (map socket_of xs) (Some s) in
    let other : (k : ℕ) (d : Numbered) → k < length order → (get_or order k d).socket ≡ s → ⊥ = λ k d lt same.
    (let (y, is_y) = there xs (get_or order k d).place (get_or order k d).socket (h.numbered.each k d lt) in
    let its : socket_of y ≡ Some (get_or order k d).socket = socket_at xs (get_or order k d).place y (get_or order k d).socket is_y (h.numbered.each k d lt) in
    let had : has (filter_map socket_of xs) s ≡ true = found_has socket_of xs (get_or order k d).place y s is_y (its ∙ ap Some same) in
    true≢false (sym had ∙ fresh)) in
    record {
      numbered = record {
        rise = rises_with order i n le h.numbered.rise below (λ k d from lt. omega (arith, above k d from lt, other k d lt));
        each = λ k d lt. elim (spot order i n k d le) [
          | inl y ↦ subst (λ (m : Numbered). HasSocketAt ys m.place m.socket) (sym y.is) (has_more xs x (get_or order k d).place (get_or order k d).socket (h.numbered.each k d (omega (arith, y.place, le))))
          | inr more ↦ elim more [
            | inl (at, y) ↦ subst (λ (m : Numbered). HasSocketAt ys m.place m.socket) (sym y) at_end
            | inr y ↦ subst (λ (m : Numbered). HasSocketAt ys m.place m.socket) (sym y.is)
                (has_more xs x (get_or order y.from d).place (get_or order y.from d).socket (h.numbered.each y.from d (omega (arith, y.next, size, lt))))
          ]
        ];
        all = λ place socket at. elim (slice_get-last (map socket_of xs) place (Some socket) (Some s) (ap (λ os. slice_get os place) (sym sockets) ∙ at)) [
          | inl before ↦ contains_with order i n (record { socket = socket; place = place }) le (h.numbered.all place socket before)
          | inr (here, same) ↦
              let place_is : place ≡ length xs = here ∙ length-map xs socket_of in
              let socket_is : socket ≡ s = cc in
              let this : n ≡ record { socket = socket; place = place } = rw (place_is, socket_is) refl in
              subst (Contains (insert order i n)) this (i, omega (arith, size, le), get_or-insert_at order i n n le)
        ];
      };
      few = omega (arith, size, h.few, length-append xs (x ∷ []));
      passed_over = record {
        within = omega (arith, size, h.passed_over.within);
        none = λ k d lt.
            let early : k < i = omega arith in
            let before : k < passed = omega arith in
            ap (is_loser ys ready) (get_or-insert_below order i n d k early le) ∙ (passed_more xs x ready order passed h.numbered h.passed_over).none k d before;
      };
      count = omega (arith, h.count, ap length (filter_map-append pending_socket xs (x ∷ [])), length-append (filter_map pending_socket xs) (s ∷ []));
      one_broke = filter_map-append broken_socket xs (x ∷ []) ∙ append-nil (filter_map broken_socket xs) ∙ h.one_broke;
    }

-- what depends on the sockets alone
numbered_same : (xs ys : List Attempt) (order : List Numbered) → map socket_of ys ≡ map socket_of xs → AreNumbered xs order → AreNumbered ys order
numbered_same xs ys order same n = record {
  rise = n.rise;
  each = λ k d lt. ap (λ os. slice_get os (get_or order k d).place) same ∙ n.each k d lt;
  all = λ place socket at. n.all place socket (ap (λ os. slice_get os place) (sym same) ∙ at);
}

slice_get-set : {X : Type 0} (xs : List X) (p q : ℕ) (y : X) → q ≢ p → slice_get (set xs p y) q ≡ slice_get xs q
slice_get-set [] p q y apart = refl
slice_get-set (x ∷ xs) zero zero y apart = absurd (apart refl)
slice_get-set (x ∷ xs) zero (suc q) y apart = refl
slice_get-set (x ∷ xs) (suc p) zero y apart = refl
slice_get-set (x ∷ xs) (suc p) (suc q) y apart = slice_get-set xs p q y (λ same. apart (ap suc same))

slice_get-set_same : {X : Type 0} (xs : List X) (p : ℕ) (x y : X) → slice_get xs p ≡ Some x → slice_get (set xs p y) p ≡ Some y
slice_get-set_same [] p x y at = cc
slice_get-set_same (z ∷ xs) zero x y at = refl
slice_get-set_same (z ∷ xs) (suc p) x y at = slice_get-set_same xs p x y at

set-socket : (xs : List Attempt) (p : ℕ) (x y : Attempt) → slice_get xs p ≡ Some x → socket_of y ≡ socket_of x → map socket_of (set xs p y) ≡ map socket_of xs
set-socket [] p x y at same = refl
set-socket (z ∷ xs) zero x y at same = let here : z ≡ x = cc in ap (λ o. o ∷ map socket_of xs) (same ∙ ap socket_of (sym here))
set-socket (z ∷ xs) (suc p) x y at same = ap (λ os. socket_of z ∷ os) (set-socket xs p x y at same)

no_loser_by : (was is wins : Bool) → (is ≡ true → was ≡ true) → (was && not wins) ≡ false → (is && not wins) ≡ false
no_loser_by was false wins only h = refl
no_loser_by was true wins only h = ap (λ b. b && not wins) (sym (only refl)) ∙ h

-- where a socket is open only if it was, those that were passed are still no losers
passed_set : (xs : List Attempt) (p : ℕ) (x y : Attempt) (ready : Option RaceAnswer) (order : List Numbered) (passed : ℕ) → slice_get xs p ≡ Some x → (is_open y ≡ true → is_open x ≡ true)
    → ArePassed xs ready order passed → ArePassed (set xs p y) ready order passed
passed_set xs p x y ready order passed is_x only h = record {
  within = h.within;
  none = λ k d lt.
      let n : Numbered = get_or order k d in
      elim (cases_eq n.place p) [
        | inl here ↦
            let now : slice_get (set xs p y) n.place ≡ Some y = ap (slice_get (set xs p y)) here ∙ slice_get-set_same xs p x y is_x in
            let before : slice_get xs n.place ≡ Some x = ap (slice_get xs) here ∙ is_x in
            let old : (is_open x && not (is_winner ready n.socket)) ≡ false = ap (λ o. option_map_or is_open o false && not (is_winner ready n.socket)) (sym before) ∙ h.none k d lt in
            rw now (no_loser_by (is_open x) (is_open y) (is_winner ready n.socket) only old)
        | inr apart ↦ judged xs (set xs p y) ready n (slice_get-set xs p n.place y apart) ∙ h.none k d lt
      ];
}

-- a pending socket completed
set_completed : (xs : List Attempt) (ready : Option RaceAnswer) (order : List Numbered) (passed pending : ℕ) (broken : Option ℕ) (p s : ℕ) → IsIndex xs ready order passed pending broken
    → slice_get xs p ≡ Some (Started s Pending) → IsIndex (set xs p (Started s Completed)) ready order passed (pending - 1) broken
set_completed xs ready order passed pending broken p s h is_x =
    let x : Attempt = Started s Pending in
    let y : Attempt = Started s Completed in
    record {
      numbered = numbered_same xs (set xs p y) order (set-socket xs p x y is_x refl) h.numbered;
      few = omega (arith, h.few, length-set xs p y);
      passed_over = passed_set xs p x y ready order passed is_x (λ _. refl) h.passed_over;
      count = omega (arith, h.count, counted-set pending_socket xs p x y is_x);
      one_broke = same-set broken_socket xs p x y is_x refl ∙ h.one_broke;
    }

-- one broke, where no other did
set_broke : (xs : List Attempt) (ready : Option RaceAnswer) (order : List Numbered) (passed pending : ℕ) (broken : Option ℕ) (p s : ℕ) → IsIndex xs ready order passed pending broken
    → slice_get xs p ≡ Some (Started s Pending) → filter_map broken_socket xs ≡ [] → IsIndex (set xs p (Started s Broken)) ready order passed (pending - 1) (Some s)
set_broke xs ready order passed pending broken p s h is_x none =
    let x : Attempt = Started s Pending in
    let y : Attempt = Started s Broken in
    record {
      numbered = numbered_same xs (set xs p y) order (set-socket xs p x y is_x refl) h.numbered;
      few = omega (arith, h.few, length-set xs p y);
      passed_over = passed_set xs p x y ready order passed is_x (λ _. refl) h.passed_over;
      count = omega (arith, h.count, counted-set pending_socket xs p x y is_x);
      one_broke = first-set broken_socket xs p x y is_x none;
    }

-- the socket that broke is the one whose attempt says so
broken_one : (xs : List Attempt) (order : List Numbered) → AreNumbered xs order → (p s : ℕ) (x : Attempt) (broken : Option ℕ) → slice_get xs p ≡ Some x → socket_of x ≡ Some s
    → filter_map broken_socket xs ≡ option_to_list broken → broken ≡ Some s → broken_socket x ≡ Some s
broken_one xs order n p s x broken is_x its listed is =
    let here : has (filter_map broken_socket xs) s ≡ true = rw (listed, is) (or_left (s == s) false (eq-eqb s s refl)) in
    search_at broken_socket broken_tells xs order n p x s (at_place xs p x s is_x its) is_x here

or_false : (b : Bool) → (b || false) ≡ true → b ≡ true
or_false true h = refl
or_false false h = h

not_broken : (s : ℕ) (before : State) → (broken_socket (Started s before) ≡ Some s → ⊥) → broken_socket (Started s before) ≡ None
not_broken s Pending h = refl
not_broken s Completed h = refl
not_broken s Broken h = absurd (h refl)
not_broken s Closed h = refl

still_none : (it wins : Bool) → (it && true) ≡ false → (it && not wins) ≡ false
still_none true wins h = absurd (true≢false h)
still_none false wins h = refl

-- a socket was closed
set_closed : (xs : List Attempt) (ready : Option RaceAnswer) (order : List Numbered) (passed pending : ℕ) (broken : Option ℕ) (p s : ℕ) (before : State) → IsIndex xs ready order passed pending broken
    → slice_get xs p ≡ Some (Started s before)
    → IsIndex (set xs p (Started s Closed)) ready order passed (pending - length (option_to_list (pending_socket (Started s before)))) (without broken s)
set_closed xs ready order passed pending broken p s before h is_x =
    let x : Attempt = Started s before in
    let y : Attempt = Started s Closed in
    record {
      numbered = numbered_same xs (set xs p y) order (set-socket xs p x y is_x refl) h.numbered;
      few = omega (arith, h.few, length-set xs p y);
      passed_over = passed_set xs p x y ready order passed is_x (λ is. absurd (true≢false (sym is))) h.passed_over;
      count = omega (arith, h.count, counted-set pending_socket xs p x y is_x);
      one_broke = by_broken broken h.one_broke;
    }
  where
    by_broken : (broken : Option ℕ) → filter_map broken_socket xs ≡ option_to_list broken
        → filter_map broken_socket (set xs p (Started s Closed)) ≡ option_to_list (without broken s)
    by_broken None listed =
        empty_by_length (filter_map broken_socket (set xs p (Started s Closed))) (omega (arith, counted-set broken_socket xs p (Started s before) (Started s Closed) is_x, ap length listed))
    by_broken (Some b) listed = elim (cases_Bool (b == s)) [
      | inl same ↦
          let b_is : b ≡ s = eqb-true b s same in
          let broke : broken_socket (Started s before) ≡ Some s = broken_one xs order h.numbered p s (Started s before) (Some b) is_x refl listed (ap Some b_is) in
          rw same (empty_by_length (filter_map broken_socket (set xs p (Started s Closed)))
          (omega (arith, counted-set broken_socket xs p (Started s before) (Started s Closed) is_x, ap length listed, ap (λ o. length (option_to_list o)) broke)))
      | inr apart ↦
          let other : broken_socket (Started s before) ≡ None = not_broken s before (λ broke.
          let found : has (filter_map broken_socket xs) s ≡ true = found_has broken_socket xs p (Started s before) s is_x broke in
          let one : (b == s || false) ≡ true = rw listed at found in
          true≢false (sym (or_false (b == s) one) ∙ apart)) in
          rw apart (same-set broken_socket xs p (Started s before) (Started s Closed) is_x (sym other) ∙ listed)
    ]

-- the first completion
pub index_won : (xs : List Attempt) (ready won : Option RaceAnswer) (order : List Numbered) (passed pending : ℕ) (broken : Option ℕ) → IsIndex xs ready order passed pending broken
    → ready ≡ None → IsIndex xs won order passed pending broken
index_won xs ready won order passed pending broken h none = record {
  numbered = h.numbered;
  few = h.few;
  passed_over = record {
    within = h.passed_over.within;
    none = λ k d lt.
        let it : Bool = option_map_or is_open (slice_get xs (get_or order k d).place) false in
        still_none it (is_winner won (get_or order k d).socket) (ap (λ r. it && not (is_winner r (get_or order k d).socket)) (sym none) ∙ h.passed_over.none k d lt);
  };
  count = h.count;
  one_broke = h.one_broke;
}

-- the same of a mark of all attempts
pub index_completed : (xs : List Attempt) (ready : Option RaceAnswer) (order : List Numbered) (passed pending : ℕ) (broken : Option ℕ) (s : ℕ) → IsIndex xs ready order passed pending broken
    → has (filter_map pending_socket xs) s ≡ true → IsIndex (map (marked s Completed) xs) ready order passed (pending - 1) broken
index_completed xs ready order passed pending broken s h is =
    let (p, here, marks) = pending_marks xs order h.numbered s Completed is in
    subst (λ ys. IsIndex ys ready order passed (pending - 1) broken) (sym marks) (set_completed xs ready order passed pending broken p s h here)

pub index_broke : (xs : List Attempt) (ready : Option RaceAnswer) (order : List Numbered) (passed pending : ℕ) (broken : Option ℕ) (s : ℕ) → IsIndex xs ready order passed pending broken
    → has (filter_map pending_socket xs) s ≡ true → filter_map broken_socket xs ≡ [] → IsIndex (map (marked s Broken) xs) ready order passed (pending - 1) (Some s)
index_broke xs ready order passed pending broken s h is none =
    let (p, here, marks) = pending_marks xs order h.numbered s Broken is in
    subst (λ ys. IsIndex ys ready order passed (pending - 1) (Some s)) (sym marks) (set_broke xs ready order passed pending broken p s h here none)

-- how many are pending of one attempt
pending_ones : (xs : List Attempt) (order : List Numbered) → AreNumbered xs order → (p s : ℕ) (before : State) → slice_get xs p ≡ Some (Started s before)
    → length (option_to_list (pending_socket (Started s before))) ≡ one_if (has (filter_map pending_socket xs) s)
pending_ones xs order n p s before here = as_number (pending_socket (Started s before)) ∙ ap one_if (pending_at xs order n p (Started s before) s (at_place xs p (Started s before) s here refl) here)
  where
    as_number : (o : Option ℕ) → length (option_to_list o) ≡ one_if (is_some o)
    as_number None = refl
    as_number (Some t) = refl

without_other : (xs : List Attempt) (broken : Option ℕ) (s : ℕ) → filter_map broken_socket xs ≡ option_to_list broken → has (filter_map broken_socket xs) s ≡ false → without broken s ≡ broken
without_other xs None s listed none = refl
without_other xs (Some b) s listed none = elim (cases_Bool (b == s)) [
  | inl same ↦ absurd (true≢false (sym (or_left (b == s) false same) ∙ (rw listed at none)))
  | inr apart ↦ rw apart refl
]

pub index_closed : (xs : List Attempt) (ready : Option RaceAnswer) (order : List Numbered) (passed pending : ℕ) (broken : Option ℕ) (s : ℕ) → IsIndex xs ready order passed pending broken
    → IsIndex (map (marked s Closed) xs) ready order passed (pending - one_if (has (filter_map pending_socket xs) s)) (without broken s)
index_closed xs ready order passed pending broken s h = elim (cases_Bool (has (filter_map socket_of xs) s)) [
  | inl had ↦
      let (p, before, here, marks) = started_marks xs order h.numbered s Closed had in
      subst (λ ys. IsIndex ys ready order passed (pending - one_if (has (filter_map pending_socket xs) s)) (without broken s)) (sym marks)
      (subst (λ m. IsIndex (set xs p (Started s Closed)) ready order passed (pending - m) (without broken s)) (pending_ones xs order h.numbered p s before here)
      (set_closed xs ready order passed pending broken p s before h here))
  | inr not ↦
      let none : has (filter_map pending_socket xs) s ≡ false = search_none pending_socket pending_tells xs s not in
      let left : pending - one_if (has (filter_map pending_socket xs) s) ≡ pending = ap (λ b. pending - one_if b) none ∙ omega arith in
      let kept : without broken s ≡ broken = without_other xs broken s h.one_broke (search_none broken_socket broken_tells xs s not) in
      rw (marks_none xs s Closed not, left, kept) h
]

-- some socket is pending, and there are few
pub one_pending : (xs : List Attempt) (s n : ℕ) → n ≡ length (filter_map pending_socket xs) → has (filter_map pending_socket xs) s ≡ true → 1 ≤ n
one_pending xs s n count is = at_least (filter_map pending_socket xs) count is
  where
    at_least : (ys : List ℕ) → n ≡ length ys → has ys s ≡ true → 1 ≤ n
    at_least [] count is = absurd (true≢false (sym is))
    at_least (y ∷ ys) count is = omega (arith, count)

pub pending_enough : (xs : List Attempt) (s n : ℕ) → n ≡ length (filter_map pending_socket xs) → one_if (has (filter_map pending_socket xs) s) ≤ n
pending_enough xs s n count = elim (cases_Bool (has (filter_map pending_socket xs) s)) [
  | inl is ↦ rw is (one_pending xs s n count is)
  | inr not ↦ rw not (omega arith)
]

few_found : (f : Attempt → Option ℕ) (xs : List Attempt) → length (filter_map f xs) ≤ length xs
few_found f [] = omega arith
few_found f (x ∷ xs) = cons_few (f x) (filter_map f xs) (length xs) (few_found f xs)
  where
    cons_few : (o : Option ℕ) (ys : List ℕ) (n : ℕ) → length ys ≤ n → length (cons_option o ys) ≤ suc n
    cons_few None ys n h = omega arith
    cons_few (Some t) ys n h = omega arith

pub few_pending : (xs : List Attempt) (n : ℕ) → n ≡ length (filter_map pending_socket xs) → n ≤ length xs
few_pending xs n count = omega (arith, count, few_found pending_socket xs)

-- those that are passed anew
pub index_passed : (xs : List Attempt) (ready : Option RaceAnswer) (order : List Numbered) (passed now pending : ℕ) (broken : Option ℕ) → IsIndex xs ready order passed pending broken
    → ArePassed xs ready order now → IsIndex xs ready order now pending broken
index_passed xs ready order passed now pending broken h passed_now = record {
  numbered = h.numbered;
  few = h.few;
  passed_over = passed_now;
  count = h.count;
  one_broke = h.one_broke;
}
