-- The plan of Listen leads to streams alone, over few addresses.
use Rattle.std.proofs.Common.{sym, ◌≡◌, ◌≤◌, ◌<◌, Err, ◌+◌, ℕ, Bool, true, false, List, [], ◌∷◌, ◌++◌, Option, Some, None, refl, ap, ◌∙◌, subst, inl, inr, map, get_or, length, length-append, fold, arith, if◌then◌else◌}
use Rattle.std.specs.List.{All, list_any, find, filter_map, cons_option, flat_map, range_with_len}
use Rattle.std.proofs.lemmas.Bool.{cases_Bool}
use Rattle.std.proofs.lemmas.List.Elements.{All-nil, All-cons, All-head, All-tail, All-map, filter_passes}
use Rattle.taps_rank.specs.Order.{ranked_at, ranked}
use Rattle.taps_endpoint.specs.declared.address.Address.{Address}
use Rattle.taps_endpoint.specs.declared.address.Ip.{Ip}
use Rattle.taps_endpoint.specs.declared.local.Local.{Local}
use Rattle.taps_endpoint.specs.declared.remote.Remote.{Remote}
use Rattle.taps_endpoint.specs.declared.remote.Remote.TheVariants.{Literal}
use Rattle.taps_endpoint.specs.DerivedAddresses.{Derives, addresses_of, derived_addresses, same_address, with_address}
use Rattle.taps_endpoint.specs.declared.derive.DeriveError.{DeriveError}
use Rattle.taps_endpoint.specs.declared.derive.DeriveError.TheVariants.{TooMany}
use Rattle.taps_preconnection.specs.declared.preconnection.Preconnection.{Preconnection}
use Rattle.taps_property.specs.declared.role.Role.TheVariants.{Listen}
use Rattle.taps_prune.specs.Survival.{meets_all, stack_survives, is_reachable}
use Rattle.taps_socket.proofs.Lists.{both}
use Rattle.taps_stack.specs.StackTable.{is_stream}
use Rattle.taps_candidate.specs.Gathering.{Candidate, gathering_of, candidates, survives, survivors}
use Rattle.taps_candidate.specs.declared.plan.Leaf.{Leaf}
use Rattle.taps_candidate.specs.Plan.{leaf_of, leaves_of}
use Rattle.taps_candidate.specs.Ranking.{rank_key}
use Rattle.taps_session.specs.FileSessions.{plan_in, address_of, local_addresses}

-- it is so of what is there
abbrev IfThere : {X : Type 0} → (X → Type 0) → Option X → Type 0
IfThere P None = Unit {0}
IfThere P (Some x) = P x

found : {X : Type 0} (P : X → Type 0) (p : X → Bool) (xs : List X) → All P xs → IfThere P (find p xs)
found P p [] h = tt
found P p (x ∷ xs) h = elim (cases_Bool (p x)) [
  | inl passes ↦ rw passes (All-head P x xs h)
  | inr fails ↦ rw fails (found P p xs (All-tail P x xs h))
]

one_more : {X : Type 0} (P : X → Type 0) (o : Option X) (xs : List X) → IfThere P o → All P xs → All P (cons_option o xs)
one_more P None xs h all = all
one_more P (Some x) xs h all = All-cons P x xs h all

each_found : {X : Type 0} (P : X → Type 0) (f : ℕ → Option X) → ((n : ℕ) → IfThere P (f n)) → (ns : List ℕ) → All P (filter_map f ns)
each_found P f h [] = All-nil P
each_found P f h (n ∷ ns) = one_more P (f n) (filter_map f ns) (h n) (each_found P f h ns)

all_ranked : {X : Type 0} (P : X → Type 0) (key : X → List ℕ) (xs : List X) → All P xs → All P (ranked key xs)
unfolding ranked
all_ranked P key xs all = each_found P (ranked_at key xs) (λ place. found P _ xs all) (range_with_len 0 (length xs))

-- a triple that survives for Listen carries a stream
survives_as_stream : (pre : Preconnection) (addresses : List Address) (c : Candidate) → survives (gathering_of pre Listen addresses) c.path c.stack c.address ≡ true → is_stream c.stack ≡ true
survives_as_stream pre addresses c h =
    let (first, reachable) = both _ (is_reachable c.path c.stack c.address) h in
    let (path, stack) = both _ (stack_survives pre.listening Listen c.stack) first in
    (both (meets_all pre.listening c.stack) (is_stream c.stack) stack).1

each_survivor : (pre : Preconnection) (addresses : List Address) (cs : List Candidate) → All (λ (c : Candidate). survives (gathering_of pre Listen addresses) c.path c.stack c.address ≡ true) cs → All (λ (c : Candidate). is_stream c.stack ≡ true) cs
each_survivor pre addresses [] h = All-nil (λ (c : Candidate). is_stream c.stack ≡ true)
each_survivor pre addresses (c ∷ cs) h =
    let P : Candidate → Type 0 = λ (c : Candidate). survives (gathering_of pre Listen addresses) c.path c.stack c.address ≡ true in
    All-cons (λ (c : Candidate). is_stream c.stack ≡ true) c cs (survives_as_stream pre addresses c (All-head P c cs h)) (each_survivor pre addresses cs (All-tail P c cs h))

pub streams : (pre : Preconnection) (addresses : List Address) → All (λ (leaf : Leaf). is_stream leaf.target.stack ≡ true) (plan_in Listen pre addresses).leaves
unfolding leaves_of
streams pre addresses =
    let g = gathering_of pre Listen addresses in
    let passed : All (λ (c : Candidate). is_stream c.stack ≡ true) (survivors g) =
    each_survivor pre addresses (survivors g) (filter_passes (λ (c : Candidate). survives g c.path c.stack c.address) (candidates g)) in
    All-map (λ (leaf : Leaf). is_stream leaf.target.stack ≡ true) leaf_of (ranked (rank_key g) (survivors g)) (all_ranked (λ (c : Candidate). is_stream c.stack ≡ true) (rank_key g) (survivors g) passed)

-- so does the first leaf
pub first_streams : (pre : Preconnection) (addresses : List Address) (leaves : List Leaf) (leaf : Leaf) → leaves ≡ (plan_in Listen pre addresses).leaves → 1 ≤ length leaves → leaf ≡ get_or leaves 0 leaf → is_stream leaf.target.stack ≡ true
first_streams pre addresses [] leaf same some first = absurd (omega arith)
first_streams pre addresses (x ∷ xs) leaf same some first =
    let all : All (λ (l : Leaf). is_stream l.target.stack ≡ true) (x ∷ xs) = subst (All (λ (l : Leaf). is_stream l.target.stack ≡ true)) (sym same) (streams pre addresses) in
    subst (λ (l : Leaf). is_stream l.target.stack ≡ true) (sym first) (All-head (λ (l : Leaf). is_stream l.target.stack ≡ true) x xs all)

-- literals stand for their addresses
literals : (hosts : List (List ℕ × List Ip)) (xs : List Address) → flat_map (addresses_of hosts) (map Literal xs) ≡ xs
literals hosts [] = refl
literals hosts (x ∷ xs) = ap (λ v. x ∷ v) (literals hosts xs)

pub as_literals : (pre : Preconnection) (hosts : List (List ℕ × List Ip)) (remotes : List Remote) → remotes ≡ map Literal (flat_map address_of pre.locals.items) → derived_addresses hosts remotes ≡ local_addresses pre
as_literals pre hosts remotes e =
    ap (λ v. fold with_address [] (flat_map (addresses_of hosts) v)) e ∙ ap (fold with_address []) (literals hosts (flat_map address_of pre.locals.items))

-- they are no more than the locals
one_longer : (others : List Address) (address : Address) (q : Bool) → length (if q then others else others ++ address ∷ []) ≤ length others + 1
one_longer others address true = omega arith
one_longer others address false = omega (arith, length-append others (address ∷ []))

all_longer : (xs others : List Address) → length (fold with_address others xs) ≤ length others + length xs
all_longer [] others = omega arith
all_longer (x ∷ xs) others =
    let one = one_longer others x (list_any (same_address x) others) in
    let more = all_longer xs (with_address others x) in
    omega arith

some_longer : (o : Option Address) → length (cons_option o []) ≤ 1
some_longer None = omega arith
some_longer (Some x) = omega arith

few_given : (locals : List Local) → length (flat_map address_of locals) ≤ length locals
few_given [] = omega arith
few_given (l ∷ ls) =
    let one = some_longer l.address in
    let more = few_given ls in
    let both = length-append (address_of l) (flat_map address_of ls) in
    omega arith

pub few_locals : (pre : Preconnection) → length (local_addresses pre) ≤ length pre.locals.items
few_locals pre =
    let one = all_longer (flat_map address_of pre.locals.items) [] in
    let two = few_given pre.locals.items in
    omega arith

-- so there are not too many
pub not_too_many : (pre : Preconnection) (hosts : List (List ℕ × List Ip)) (remotes : List Remote) (e : DeriveError) (count : ℕ) → length pre.locals.items ≤ 8 → e ≡ TooMany count → remotes ≡ map Literal (flat_map address_of pre.locals.items) → Derives (Err e) (derived_addresses hosts remotes) → ⊥
not_too_many pre hosts remotes e count few many same h =
    let (all, over) : (count ≡ length (derived_addresses hosts remotes)) × (32 < length (derived_addresses hosts remotes)) = subst (λ v. Derives (Err v) (derived_addresses hosts remotes)) many h in
    let is : length (derived_addresses hosts remotes) ≡ length (local_addresses pre) = ap length (as_literals pre hosts remotes same) in
    let few_all = few_locals pre in
    omega arith
