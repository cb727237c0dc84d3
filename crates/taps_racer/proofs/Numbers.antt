-- What the order of sockets by their numbers tells of the attempts.
use Rattle.std.proofs.Common.{◌≡◌, ◌≢◌, ◌⊎◌, ◌<◌, ◌≤◌, ℕ, ◌+◌, suc, zero, Bool, true, false, not, List, [], ◌∷◌, ◌++◌, Option, None, Some, refl, ap, sym, ◌∙◌, subst, inl, inr, map, length, get_or, set, take, drop, arith}
use Rattle.std.specs.Prelude.{◌==◌, slice_get, min, if◌then◌else◌, ◌&&◌, ◌||◌}
use Rattle.std.specs.List.{All, Contains, filter, filter_map, reduce, cons_option, insert}
use Rattle.std.specs.List.Sorted.{IsNonDecreasingBy}
use Rattle.std.specs.Option.{option_map_or, option_to_list, option_map, is_some}
use Rattle.std.proofs.lemmas.Bool.{cases_Bool, cases_eq, cases_lt, eqb-true, eqb-false, eq-eqb}
use Rattle.std.proofs.lemmas.List.{length-map, length-set, ext_get_or, get_or-map, get_or_default, get_or-set_same, get_or-set_other}
use Rattle.taps_socket.specs.declared.race_answer.RaceAnswer.{RaceAnswer}
use Rattle.taps_socket.specs.RaceSockets.{has}
use Rattle.taps_socket.specs.Winner.{is_winner}
use Rattle.taps_socket.proofs.Lists.{both, either, or_left, or_right, false_by, kept, keeps, absent}
use Rattle.taps_racer.specs.declared.attempt.State.{State}
use Rattle.taps_racer.specs.declared.attempt.State.TheVariants.{Pending, Completed, Broken, Closed}
use Rattle.taps_racer.specs.declared.attempt.Attempt.{Attempt}
use Rattle.taps_racer.specs.declared.attempt.Attempt.TheVariants.{Refused, Started}
use Rattle.taps_racer.specs.declared.order.Numbered.{Numbered}
use Rattle.taps_racer.specs.Attempts.{socket_of, open_socket, pending_socket, broken_socket, marked}
use Rattle.taps_racer.specs.Order.{Rise, HasSocketAt, AreNumbered, FindsIn, place_if, is_open, is_loser, ArePassed}
use Rattle.taps_racer.proofs.Lists.{least_has}

-- at some place is one of which this tells the socket
abbrev Found : (Attempt → Option ℕ) → List Attempt → ℕ → Type 0
Found f xs s = (p : ℕ) × (x : Attempt) × (slice_get xs p ≡ Some x) × (f x ≡ Some s)

has_later : (o : Option ℕ) (xs : List ℕ) (s : ℕ) → has xs s ≡ true → has (cons_option o xs) s ≡ true
has_later None xs s h = h
has_later (Some t) xs s h = or_right (t == s) (has xs s) h

-- what is at a place is among what a search finds
pub found_has : (f : Attempt → Option ℕ) (xs : List Attempt) (p : ℕ) (x : Attempt) (s : ℕ) → slice_get xs p ≡ Some x → f x ≡ Some s → has (filter_map f xs) s ≡ true
found_has f [] p x s at is = cc
found_has f (y ∷ xs) zero x s at is =
    let same : y ≡ x = cc in
    let here : f y ≡ Some s = ap f same ∙ is in
    rw here (or_left (s == s) (has (filter_map f xs) s) (eq-eqb s s refl))
found_has f (y ∷ xs) (suc p) x s at is = has_later (f y) (filter_map f xs) s (found_has f xs p x s at is)

found_by : (f : Attempt → Option ℕ) (y : Attempt) (xs : List Attempt) (s : ℕ) (o : Option ℕ) → f y ≡ o → (has (filter_map f xs) s ≡ true → Found f xs s)
    → has (cons_option o (filter_map f xs)) s ≡ true → Found f (y ∷ xs) s
found_by f y xs s None e rest h = let (p, x, at, is) = rest h in (suc p, x, at, is)
found_by f y xs s (Some t) e rest h = elim (either (t == s) (has (filter_map f xs) s) h) [
  | inl here ↦ (0, y, refl, e ∙ ap Some (eqb-true t s here))
  | inr there ↦ (let (p, x, at, is) = rest there in (suc p, x, at, is))
]

-- and what a search finds is at some place
pub has_found : (f : Attempt → Option ℕ) (xs : List Attempt) (s : ℕ) → has (filter_map f xs) s ≡ true → Found f xs s
has_found f [] s h = cc
has_found f (y ∷ xs) s h = found_by f y xs s (f y) refl (has_found f xs s) h

slice_get-map : {X Y : Type 0} (f : X → Y) (xs : List X) (p : ℕ) (x : X) → slice_get xs p ≡ Some x → slice_get (map f xs) p ≡ Some (f x)
slice_get-map f [] p x at = cc
slice_get-map f (y ∷ xs) zero x at = let same : y ≡ x = cc in ap (λ z. Some (f z)) same
slice_get-map f (y ∷ xs) (suc p) x at = slice_get-map f xs p x at

pub at_place : (xs : List Attempt) (p : ℕ) (x : Attempt) (s : ℕ) → slice_get xs p ≡ Some x → socket_of x ≡ Some s → HasSocketAt xs p s
at_place xs p x s at is = slice_get-map socket_of xs p x at ∙ ap Some is

-- and the other way
pub socket_at : (xs : List Attempt) (p : ℕ) (x : Attempt) (s : ℕ) → slice_get xs p ≡ Some x → HasSocketAt xs p s → socket_of x ≡ Some s
socket_at xs p x s at has = let same : Some (socket_of x) ≡ Some (Some s) = sym (slice_get-map socket_of xs p x at) ∙ has in cc

-- where an attempt has a socket there is one
pub there : (xs : List Attempt) (place socket : ℕ) → HasSocketAt xs place socket → (x : Attempt) × (slice_get xs place ≡ Some x)
there [] place socket h = cc
there (x ∷ xs) zero socket h = (x, refl)
there (x ∷ xs) (suc place) socket h = there xs place socket h

-- a socket has one place
pub one_place : (xs : List Attempt) (order : List Numbered) → AreNumbered xs order → (p q s : ℕ) → HasSocketAt xs p s → HasSocketAt xs q s → p ≡ q
one_place xs order n p q s at_p at_q =
    let d : Numbered = record { socket = s; place = p } in
    let e : Numbered = record { socket = s; place = q } in
    let (i, i_lt, i_is) = n.all p s at_p in
    let (j, j_lt, j_is) = n.all q s at_q in
    let j_there : get_or order j d ≡ e = get_or_default order j d e j_lt ∙ j_is in
    let i_socket : (get_or order i d).socket ≡ s = ap (λ (m : Numbered). m.socket) i_is in
    let j_socket : (get_or order j d).socket ≡ s = ap (λ (m : Numbered). m.socket) j_there in
    let not_before : i < j → ⊥ = λ lt. omega (arith, n.rise i j d lt j_lt, i_socket, j_socket) in
    let not_after : j < i → ⊥ = λ lt. omega (arith, n.rise j i d lt i_lt, i_socket, j_socket) in
    let same : i ≡ j = omega (arith, not_before, not_after) in
    ap (λ (m : Numbered). m.place) (sym i_is ∙ ap (λ k. get_or order k d) same ∙ j_there)

-- a search that tells sockets of attempts tells no other
abbrev pub Tells : (Attempt → Option ℕ) → Type 0
Tells f = (x : Attempt) (s : ℕ) → f x ≡ Some s → socket_of x ≡ Some s

pub pending_tells : Tells pending_socket
pending_tells Refused s is = cc
pending_tells (Started t Pending) s is = is
pending_tells (Started t Completed) s is = cc
pending_tells (Started t Broken) s is = cc
pending_tells (Started t Closed) s is = cc

pub open_tells : Tells open_socket
open_tells Refused s is = cc
open_tells (Started t Pending) s is = is
open_tells (Started t Completed) s is = is
open_tells (Started t Broken) s is = is
open_tells (Started t Closed) s is = cc

pub broken_tells : Tells broken_socket
broken_tells Refused s is = cc
broken_tells (Started t Pending) s is = cc
broken_tells (Started t Completed) s is = cc
broken_tells (Started t Broken) s is = is
broken_tells (Started t Closed) s is = cc

-- what a search finds of the socket at a place
pub search_at : (f : Attempt → Option ℕ) → Tells f → (xs : List Attempt) (order : List Numbered) → AreNumbered xs order → (p : ℕ) (x : Attempt) (s : ℕ) → HasSocketAt xs p s → slice_get xs p ≡ Some x
    → has (filter_map f xs) s ≡ true → f x ≡ Some s
search_at f tells xs order n p x s at_p is_x h =
    let (q, y, is_y, its) = has_found f xs s h in
    let same : q ≡ p = one_place xs order n q p s (at_place xs q y s is_y (tells y s its)) at_p in
    let alike : Some y ≡ Some x = sym is_y ∙ ap (slice_get xs) same ∙ is_x in
    let one : y ≡ x = cc in
    ap f (sym one) ∙ its

-- a socket that no attempt has is not found
pub search_none : (f : Attempt → Option ℕ) → Tells f → (xs : List Attempt) (s : ℕ) → has (filter_map socket_of xs) s ≡ false → has (filter_map f xs) s ≡ false
search_none f tells xs s none = false_by (has (filter_map f xs) s) (λ h.
    let (q, y, is_y, its) = has_found f xs s h in
    let there : has (filter_map socket_of xs) s ≡ true = found_has socket_of xs q y s is_y (tells y s its) in
    cc)

-- whether the attempt at the place of a socket is pending tells whether the socket is
pub pending_at : (xs : List Attempt) (order : List Numbered) → AreNumbered xs order → (p : ℕ) (x : Attempt) (s : ℕ) → HasSocketAt xs p s → slice_get xs p ≡ Some x
    → is_some (pending_socket x) ≡ has (filter_map pending_socket xs) s
pending_at xs order n p x s at_p is_x = by_case (pending_socket x) refl
  where
    by_case : (o : Option ℕ) → pending_socket x ≡ o → is_some o ≡ has (filter_map pending_socket xs) s
    by_case None e = sym (false_by (has (filter_map pending_socket xs) s) (λ h. let its = search_at pending_socket pending_tells xs order n p x s at_p is_x h in cc))
    by_case (Some t) e =
        let a = pending_tells x t e in
        let b = socket_at xs p x s is_x at_p in
        let same : t ≡ s = cc in
        sym (found_has pending_socket xs p x s is_x (e ∙ ap Some same))

-- numbers that rise do not fall
pub rise_weakly : (order : List Numbered) → Rise order → IsNonDecreasingBy (λ (n : Numbered). n.socket) order
rise_weakly order rise i j d le lt = elim (cases_eq i j) [
  | inl same ↦ (let is : (get_or order i d).socket ≡ (get_or order j d).socket = ap (λ k. (get_or order k d).socket) same in omega (arith, is))
  | inr apart ↦ (let now = rise i j d (omega (arith, apart)) lt in omega (arith, now))
]

-- a socket with a smaller number before a place and none as small from there on is not there
pub not_numbered : (xs : List Attempt) (order : List Numbered) (i s : ℕ) → AreNumbered xs order → ((k : ℕ) (d : Numbered) → k < i → (get_or order k d).socket < s)
    → ((k : ℕ) (d : Numbered) → i ≤ k → k < length order → s < (get_or order k d).socket) → has (filter_map socket_of xs) s ≡ false
not_numbered xs order i s n below above = false_by (has (filter_map socket_of xs) s) (λ h.
    let (p, y, is_y, its) = has_found socket_of xs s h in
    let m : Numbered = record { socket = s; place = p } in
    let (k, lt, is) = n.all p s (at_place xs p y s is_y its) in
    let same = ap (λ (m : Numbered). m.socket) is in
    elim (cases_lt k i) [
      | inl before ↦ (let now = below k m before in omega (arith, now, same))
      | inr from ↦ (let now = above k m from lt in omega (arith, now, same))
    ])

-- a socket at a place of the order is found there
pub finds_some : (xs : List Attempt) (order : List Numbered) (i s : ℕ) (m : Numbered) → AreNumbered xs order → i < length order → m ≡ get_or order i m → m.socket ≡ s → HasSocketAt xs m.place s
finds_some xs order i s m n lt is same =
    let now = n.each i m lt in
    subst (HasSocketAt xs m.place) same (subst (λ (m : Numbered). HasSocketAt xs m.place m.socket) (sym is) now)

-- and where it is not at its place, no attempt has it
pub finds_none : (xs : List Attempt) (order : List Numbered) (i s : ℕ) → AreNumbered xs order → ((k : ℕ) (d : Numbered) → k < i → (get_or order k d).socket < s)
    → ((k : ℕ) (d : Numbered) → i ≤ k → k < length order → s ≤ (get_or order k d).socket) → ((d : Numbered) → i < length order → (get_or order i d).socket ≢ s)
    → has (filter_map socket_of xs) s ≡ false
finds_none xs order i s n below above other = not_numbered xs order i s n below (λ k d from lt. elim (cases_eq i k) [
  | inl same ↦ (let here = above k d from lt in let apart = other d (omega (arith, same, lt)) in let at = ap (λ j. (get_or order j d).socket) same in omega (arith, here, apart, at))
  | inr apart ↦
      let past : i < k = omega (arith, from, apart) in
      let rises = n.rise i k d past lt in
      let here = above i d (omega arith) (omega (arith, past, lt)) in
      omega (arith, rises, here)
])

-- one more is passed
pub pass_one : (xs : List Attempt) (ready : Option RaceAnswer) (order : List Numbered) (place : ℕ) (it : Numbered) → ArePassed xs ready order place → place < length order
    → it ≡ get_or order place it → is_loser xs ready it ≡ false → ArePassed xs ready order (place + 1)
pass_one xs ready order place it h lt is not = record {
  within = omega (arith, lt);
  none = λ k d within. elim (cases_eq k place) [
    | inl same ↦ ap (λ j. is_loser xs ready (get_or order j d)) same ∙ ap (is_loser xs ready) (get_or_default order place d it lt ∙ sym is) ∙ not
    | inr apart ↦ h.none k d (omega (arith, within, apart))
  ];
}

-- a socket at a place is among those that there were
pub has_at : (xs : List Attempt) (p s : ℕ) → HasSocketAt xs p s → has (filter_map socket_of xs) s ≡ true
has_at xs p s at_p = let (x, is_x) = there xs p s at_p in found_has socket_of xs p x s is_x (socket_at xs p x s is_x at_p)

-- what is found at a place, with smaller numbers before it and none smaller from there on
pub finds_at : (xs : List Attempt) (order : List Numbered) (i s : ℕ) (m : Numbered) → AreNumbered xs order → i < length order → m ≡ get_or order i m
    → ((k : ℕ) (d : Numbered) → k < i → (get_or order k d).socket < s) → ((k : ℕ) (d : Numbered) → i ≤ k → k < length order → s ≤ (get_or order k d).socket)
    → FindsIn xs s (place_if m s)
finds_at xs order i s m n lt is below above = elim (cases_Bool (m.socket == s)) [
  | inl same ↦ rw same (finds_some xs order i s m n lt is (eqb-true m.socket s same))
  | inr apart ↦ rw apart (finds_none xs order i s n below above (λ d within at. eqb-false m.socket s apart (ap (λ (k : Numbered). k.socket) (is ∙ get_or_default order i m d lt) ∙ at)))
]
