-- The turn of an address is known from the families before it.
use Rattle.std.proofs.Common.{◌≡◌, ◌<◌, ◌≤◌, ℕ, ◌+◌, ◌-◌, suc, zero, min, List, [], ◌∷◌, ◌++◌, Bool, true, Some, refl, ap, sym, ◌∙◌, map, length, get_or, take, drop, cond, ltb, ◌&&◌, arith, add-zero, zero-add, le_refl}
use Rattle.std.specs.List.{All, filter, enumerate_from}
use Rattle.std.proofs.lemmas.Bool.{lt-ltb, le-ltb}
use Rattle.std.proofs.lemmas.List.{take-append-drop, take_more, drop_more, map_more, map-append, length-take, length-drop, get_or-take, get_or-drop}
use Rattle.std.proofs.lemmas.List.Elements.{All-head, All-tail, All-cons, All-map, All-filter, filter-append}
use Rattle.std.proofs.lemmas.List.FromFn.{length-enumerate_from, get_or-enumerate_from}
use Rattle.std.proofs.lemmas.List.Sums.{sum_by-cons, sum_by-append, sum_by_push}
use Rattle.std.proofs.lemmas.Simd.{map-map}
use Rattle.taps_endpoint.specs.declared.address.Address.{Address}
use Rattle.taps_endpoint.specs.declared.address.Family.{Family}
use Rattle.taps_endpoint.specs.declared.address.Family.TheVariants.{Inet4, Inet6, Unix}
use Rattle.taps_endpoint.specs.Families.{family_of, is_same_family}
use Rattle.taps_rank.specs.declared.turn.Turn.{Turn}
use Rattle.taps_rank.specs.declared.turn.Turns.{Turns}
use Rattle.taps_rank.specs.Order.{turn_key}
use Rattle.taps_rank.specs.Turns.{placed_family, round_of, side_of, turn_of, count_of, first_of, first_or, turns_after, round_in, turn_in, turns_with}

round_after : (families : List Family) (family : Family) → round_in (turns_after families) family ≡ count_of family families
round_after families Inet4 = refl
round_after families Inet6 = refl
round_after families Unix = refl

count_of_push : (family other : Family) (families : List Family) → count_of family (families ++ other ∷ []) ≡ count_of family families + cond (is_same_family other family) 1 0
count_of_push family other families = sum_by_push (λ f. cond (is_same_family f family) 1 0) families other

first_more : (families : List Family) (family : Family) → first_of (families ++ family ∷ []) ≡ Some (first_or (first_of families) family)
first_more [] family = refl
first_more (first ∷ others) family = refl

-- what is left once one more had its turn
pub turns_more : (families : List Family) (family : Family) → turns_with family (turns_after families) ≡ turns_after (families ++ family ∷ [])
turns_more families Inet4 = rw (first_more families Inet4, count_of_push Inet4 Inet4 families, count_of_push Inet6 Inet4 families, count_of_push Unix Inet4 families) (simp (add-zero) refl)
turns_more families Inet6 = rw (first_more families Inet6, count_of_push Inet4 Inet6 families, count_of_push Inet6 Inet6 families, count_of_push Unix Inet6 families) (simp (add-zero) refl)
turns_more families Unix = rw (first_more families Unix, count_of_push Inet4 Unix families, count_of_push Inet6 Unix families, count_of_push Unix Unix families) (simp (add-zero) refl)

round_of-cons : (e : ℕ × Family) (es : List (ℕ × Family)) (place : ℕ) (family : Family)
    → round_of (e ∷ es) place family ≡ cond (ltb e.0 place && is_same_family e.1 family) 1 0 + round_of es place family
round_of-cons e es place family = sum_by-cons (λ (x : ℕ × Family). cond (ltb x.0 place && is_same_family x.1 family) 1 0) e es

-- all stand before the place
round_before : (es : List (ℕ × Family)) (place : ℕ) (family : Family) → All (λ e. e.0 < place) es → round_of es place family ≡ count_of family (map (λ e. e.1) es)
round_before [] place family all = refl
round_before (e ∷ es) place family all =
    rw (round_of-cons e es place family, lt-ltb e.0 place (All-head (λ x. x.0 < place) e es all), round_before es place family (All-tail (λ x. x.0 < place) e es all))
    (sym (sum_by-cons (λ f. cond (is_same_family f family) 1 0) e.1 (map (λ x. x.1) es)))

-- none stands before the place
round_from : (es : List (ℕ × Family)) (place : ℕ) (family : Family) → All (λ e. place ≤ e.0) es → round_of es place family ≡ 0
round_from [] place family all = refl
round_from (e ∷ es) place family all =
    rw (round_of-cons e es place family, le-ltb e.0 place (All-head (λ x. place ≤ x.0) e es all), round_from es place family (All-tail (λ x. place ≤ x.0) e es all)) refl

side_first : (done rest : List (ℕ × Family)) (place : ℕ) (family : Family) → side_of (done ++ (place, family) ∷ rest) family ≡ (turn_in (turns_after (map (λ e. e.1) done)) family).side
side_first [] rest place family = refl
side_first (e ∷ done) rest place family = refl

round_first : (done rest : List (ℕ × Family)) (place : ℕ) (family : Family) → All (λ e. e.0 < place) done → All (λ e. place ≤ e.0) rest
    → round_of (done ++ rest) place family ≡ round_in (turns_after (map (λ e. e.1) done)) family
round_first done rest place family before from =
    rw (round_after (map (λ e. e.1) done) family, sum_by-append (λ (x : ℕ × Family). cond (ltb x.0 place && is_same_family x.1 family) 1 0) done rest, round_before done place family before, round_from rest place family from)
    (add-zero (count_of family (map (λ e. e.1) done)))

-- the turn of one is what the families of those before it leave
pub turn_first : (done rest : List (ℕ × Family)) (place : ℕ) (family : Family) → All (λ e. e.0 < place) done → All (λ e. place ≤ e.0) rest
    → turn_of (done ++ (place, family) ∷ rest) (place, family) ≡ turn_in (turns_after (map (λ e. e.1) done)) family
turn_first done rest place family before from =
    rw (round_first done ((place, family) ∷ rest) place family before (All-cons (λ e. place ≤ e.0) (place, family) rest (le_refl place) from), side_first done rest place family) refl

-- an element with its place, among all of them
pub placed : {A : Type 0} (xs : List A) (i : ℕ) (x : A) → i < length xs → x ≡ get_or xs i x → get_or (enumerate_from 0 xs) i (i, x) ≡ (i, x)
placed xs i x lt is = rw (get_or-enumerate_from 0 xs i (i, x) lt, ← is, zero-add i) refl

split_placed : {A : Type 0} (xs : List A) (i : ℕ) (x : A) → i < length xs → x ≡ get_or xs i x
    → enumerate_from 0 xs ≡ take i (enumerate_from 0 xs) ++ (i, x) ∷ drop (i + 1) (enumerate_from 0 xs)
split_placed xs i x lt is =
    let within : i < length (enumerate_from 0 xs) = rw (length-enumerate_from 0 xs) lt in
    sym (take-append-drop i (enumerate_from 0 xs))
    ∙ ap (λ more. take i (enumerate_from 0 xs) ++ more) (drop_more (enumerate_from 0 xs) i (i, x) within ∙ ap (λ e. e ∷ drop (i + 1) (enumerate_from 0 xs)) (placed xs i x lt is))

before_place : {A : Type 0} (xs : List A) (i : ℕ) → All (λ e. e.0 < i) (take i (enumerate_from 0 xs))
before_place xs i k d lt =
    let counted : k < min i (length (enumerate_from 0 xs)) = rw (← length-take i (enumerate_from 0 xs)) lt in
    let within : k < length xs = rw (← length-enumerate_from 0 xs) (omega arith) in
    rw (get_or-take i (enumerate_from 0 xs) k d (omega arith), get_or-enumerate_from 0 xs k d within) (omega arith)

after_place : {A : Type 0} (xs : List A) (i : ℕ) → All (λ e. i ≤ e.0) (drop (i + 1) (enumerate_from 0 xs))
after_place xs i k d lt =
    let counted : k < length (enumerate_from 0 xs) - (i + 1) = rw (← length-drop (i + 1) (enumerate_from 0 xs)) lt in
    let within : i + 1 + k < length xs = rw (← length-enumerate_from 0 xs) (omega arith) in
    rw (get_or-drop (i + 1) (enumerate_from 0 xs) k d, get_or-enumerate_from 0 xs (i + 1 + k) d within) (omega arith)

taken_families : (n i : ℕ) (families : List Family) → map (λ e. e.1) (take i (enumerate_from n families)) ≡ take i families
taken_families n zero families = refl
taken_families n (suc i) [] = refl
taken_families n (suc i) (family ∷ families) = ap (λ more. family ∷ more) (taken_families (n + 1) i families)

turn_at : (families : List Family) (i : ℕ) (family : Family) → i < length families → family ≡ get_or families i family
    → turn_of (enumerate_from 0 families) (i, family) ≡ turn_in (turns_after (take i families)) family
turn_at families i family lt is =
    ap (λ es. turn_of es (i, family)) (split_placed families i family lt is)
    ∙ turn_first (take i (enumerate_from 0 families)) (drop (i + 1) (enumerate_from 0 families)) i family (before_place families i) (after_place families i)
    ∙ ap (λ earlier. turn_in (turns_after earlier) family) (taken_families 0 i families)

-- those that pass a test, split at one of them
split_kept : (passes : Address → Bool) (addresses : List Address) (i : ℕ) (address : Address) → i < length addresses → address ≡ get_or addresses i address → passes address ≡ true
    → map placed_family (filter (λ e. passes e.1) (enumerate_from 0 addresses))
    ≡ map placed_family (filter (λ e. passes e.1) (take i (enumerate_from 0 addresses)))
    ++ (i, family_of address) ∷ map placed_family (filter (λ e. passes e.1) (drop (i + 1) (enumerate_from 0 addresses)))
split_kept passes addresses i address lt is this =
    let test : ℕ × Address → Bool = λ e. passes e.1 in
    let done : List (ℕ × Address) = take i (enumerate_from 0 addresses) in
    let rest : List (ℕ × Address) = drop (i + 1) (enumerate_from 0 addresses) in
    ap (λ es. map placed_family (filter test es)) (split_placed addresses i address lt is)
    ∙ ap (map placed_family) (filter-append test done ((i, address) ∷ rest))
    ∙ map-append placed_family (filter test done) (filter test ((i, address) ∷ rest))
    ∙ ap (λ b. map placed_family (filter test done) ++ map placed_family (cond b ((i, address) ∷ filter test rest) (filter test rest))) this

-- the turn of an address among those that pass a test
pub turn_among : (passes : Address → Bool) (addresses : List Address) (i : ℕ) (address : Address) → i < length addresses → address ≡ get_or addresses i address → passes address ≡ true
    → turn_of (map placed_family (filter (λ e. passes e.1) (enumerate_from 0 addresses))) (i, family_of address)
    ≡ turn_in (turns_after (map (λ e. family_of e.1) (filter (λ e. passes e.1) (take i (enumerate_from 0 addresses))))) (family_of address)
turn_among passes addresses i address lt is this =
    let test : ℕ × Address → Bool = λ e. passes e.1 in
    let done : List (ℕ × Address) = take i (enumerate_from 0 addresses) in
    let rest : List (ℕ × Address) = drop (i + 1) (enumerate_from 0 addresses) in
    ap (λ es. turn_of es (i, family_of address)) (split_kept passes addresses i address lt is this)
    ∙ turn_first (map placed_family (filter test done)) (map placed_family (filter test rest)) i (family_of address)
    (All-map (λ e. e.0 < i) placed_family (filter test done) (All-filter test (λ e. e.0 < i) done (before_place addresses i)))
    (All-map (λ e. i ≤ e.0) placed_family (filter test rest) (All-filter test (λ e. i ≤ e.0) rest (after_place addresses i)))
    ∙ ap (λ families. turn_in (turns_after families) (family_of address)) (map-map (λ e. e.1) placed_family (filter test done))

-- one more key of a loop over families
pub key_more : (families : List Family) (i : ℕ) (family : Family) (turns : Turns) (keys now : List (List ℕ)) → i < length families → family ≡ get_or families i family
    → turns ≡ turns_after (take i families) → keys ≡ map (turn_key (enumerate_from 0 families)) (take i (enumerate_from 0 families))
    → now ≡ keys ++ ((turn_in turns family).round ∷ (turn_in turns family).side ∷ i ∷ []) ∷ []
    → now ≡ map (turn_key (enumerate_from 0 families)) (take (i + 1) (enumerate_from 0 families))
key_more families i family turns keys now lt is left so_far grown =
    let all : List (ℕ × Family) = enumerate_from 0 families in
    let within : i < length all = rw (length-enumerate_from 0 families) lt in
    let same : turn_in turns family ≡ turn_of all (i, family) = ap (λ t. turn_in t family) left ∙ sym (turn_at families i family lt is) in
    grown
    ∙ ap (λ (t : Turn). keys ++ (t.round ∷ t.side ∷ i ∷ []) ∷ []) same
    ∙ ap (λ ks. ks ++ turn_key all (i, family) ∷ []) so_far
    ∙ ap (λ e. map (turn_key all) (take i all) ++ turn_key all e ∷ []) (sym (placed families i family lt is))
    ∙ sym (map_more (turn_key all) all i (i, family) within)

-- what the families leave once one more had its turn
pub turns_taken : (families : List Family) (i : ℕ) (family : Family) (turns now : Turns) → i < length families → family ≡ get_or families i family
    → turns ≡ turns_after (take i families) → now ≡ turns_with family turns → now ≡ turns_after (take (i + 1) families)
turns_taken families i family turns now lt is left taken =
    taken
    ∙ ap (turns_with family) left
    ∙ turns_more (take i families) family
    ∙ ap turns_after (ap (λ f. take i families ++ f ∷ []) is ∙ sym (take_more families i family lt))
