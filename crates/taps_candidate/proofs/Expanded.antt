-- The branch that comes first has the first leaves.
use Rattle.std.proofs.Common.{◌≡◌, ◌≢◌, ◌≤◌, ◌<◌, ℕ, ◌+◌, suc, zero, List, [], ◌∷◌, ◌++◌, Bool, true, false, refl, ap, sym, ◌∙◌, subst, map, length, get_or, take, drop, cond, eqb, inl, inr, arith}
use Rattle.std.specs.Cmp.Lexicographic.{slice_cmp}
use Rattle.std.specs.declared.cmp.Ordering.{Ordering}
use Rattle.std.specs.declared.cmp.Ordering.TheVariants.{Less, Equal, Greater}
use Rattle.std.specs.Ordering.{nat_cmp, is_lt, ordering_then}
use Rattle.std.specs.List.{All, flat_map, enumerate_from, remove}
use Rattle.std.specs.List.Sorted.{IsPermutation, IsSortedByKey}
use Rattle.std.proofs.lemmas.Bool.{cases_Bool, eqb-true, eqb-false}
use Rattle.std.proofs.lemmas.Cmp.{nat_list_cmp_total}
use Rattle.std.specs.Cmp.{IsStrictWeakOrder}
use Rattle.std.proofs.lemmas.Grind.{flat_map-append}
use Rattle.std.proofs.lemmas.List.{length-map, map-append, take-append-drop, drop_more, get_or_default}
use Rattle.std.proofs.lemmas.List.Elements.{All-append, All-take, All-drop, All-weaker, All-map}
use Rattle.std.proofs.lemmas.List.FromFn.{length-enumerate_from}
use Rattle.std.proofs.lemmas.List.Sorted.{length_permutation, ranks_by}
use Rattle.std.proofs.lemmas.List.Sums.{length-filter, count_by-le-length}
use Rattle.std.specs.Prelude.{slice_index_or}
use Rattle.taps_endpoint.specs.declared.address.Address.{Address}
use Rattle.taps_preconnection.specs.declared.path.Path.{Path}
use Rattle.taps_preconnection.specs.Paths.{any_path}
use Rattle.taps_prune.specs.Survival.{is_reachable}
use Rattle.taps_rank.specs.Order.{comes_before, ranked}
use Rattle.taps_rank.proofs.Differing.{Differ, Differ-filter, Differ-map, Differ-places}
use Rattle.taps_rank.proofs.Ranked.{ranked_if_sorted, before_if}
use Rattle.taps_stack.specs.declared.stack.Stack.TheVariants.{Tcp}
use Rattle.taps_candidate.specs.declared.candidate.Candidate as code
use Rattle.taps_candidate.specs.declared.candidate.Level.{Level}
use Rattle.taps_candidate.specs.Candidates.{leaf, keyed_among, of_level, reached}
use Rattle.taps_candidate.specs.Branches.{branch_key, of_branch, of_branches, leaves_from, AreApart, AreBranches, Expands}
use Rattle.taps_candidate.proofs.Apart.{All-flat_map, apart_without, apart_from_others}
use Rattle.taps_candidate.proofs.Blocks.{ComesFirst, ranked_apart, not_before_itself}

-- where the first numbers of two keys decide, the keys are so ordered
then_less : (o p q : Ordering) → (is_lt p ≡ true → is_lt q ≡ true) → is_lt (ordering_then o p) ≡ true → is_lt (ordering_then o q) ≡ true
then_less Less p q f h = refl
then_less Equal p q f h = f h
then_less Greater p q f h = h

front_decides : (n : ℕ) (a b : List ℕ) → comes_before (take n a) (take n b) ≡ true → comes_before a b ≡ true
front_decides zero a b h = cc
front_decides (suc n) [] [] h = h
front_decides (suc n) [] (y ∷ b) h = refl
front_decides (suc n) (x ∷ a) [] h = h
front_decides (suc n) (x ∷ a) (y ∷ b) h = then_less (nat_cmp x y) (slice_cmp nat_cmp (take n a) (take n b)) (slice_cmp nat_cmp a b) (front_decides n a b) h

-- the candidates of a branch begin their keys with its own
keys_begin : (paths : List Path) (addresses : List Address) (level : Level) → All (λ c. take 4 c.key ≡ branch_key level) (of_branch paths addresses level)
keys_begin paths addresses level =
    let path : Path = slice_index_or paths level.path any_path in
    All-map (λ c. take 4 c.key ≡ branch_key level) (keyed_among level path addresses) (reached path level.stack addresses) (λ _ _ _. refl)

-- and their keys differ
keys_differ : (level : Level) (path : Path) (addresses : List Address) → Differ (λ c. c.key) (of_level level path addresses)
keys_differ level path addresses =
    Differ-map (λ c. c.key) (λ e. e.0) (keyed_among level path addresses) (λ key. get_or key 6 0) (λ e. refl) (reached path level.stack addresses)
    (Differ-filter (λ e. e.0) (λ e. is_reachable path level.stack e.1) (enumerate_from 0 addresses) (Differ-places 0 addresses))

pub few_of_level : (level : Level) (path : Path) (addresses : List Address) → length (of_level level path addresses) ≤ length addresses
few_of_level level path addresses =
    let test : ℕ × Address → Bool = λ e. is_reachable path level.stack e.1 in
    omega (
      arith,
      length-map (reached path level.stack addresses) (keyed_among level path addresses),
      length-filter test (enumerate_from 0 addresses),
      count_by-le-length test (enumerate_from 0 addresses),
      length-enumerate_from 0 addresses,
    )

-- the candidates of the branch that comes first come before those of the others
comes_first : (paths : List Path) (addresses : List Address) (level : Level) (others : List Level)
    → All (λ other. comes_before (branch_key level) (branch_key other) ≡ true) others
    → ComesFirst (λ c. c.key) (of_branch paths addresses level) (of_branches paths addresses others)
comes_first paths addresses level others before =
    let key : code.Candidate → List ℕ = λ c. c.key in
    All-weaker (λ c. take 4 (key c) ≡ branch_key level) (λ c. All (λ y. comes_before (key c) (key y) ≡ true) (of_branches paths addresses others))
    (λ c is. All-flat_map (λ y. comes_before (key c) (key y) ≡ true) (λ other. comes_before (branch_key level) (branch_key other) ≡ true) (of_branch paths addresses)
    (λ other so. All-weaker (λ y. take 4 (key y) ≡ branch_key other) (λ y. comes_before (key c) (key y) ≡ true)
    (λ y its. front_decides 4 (key c) (key y) (rw (is, its) so)) (of_branch paths addresses other) (keys_begin paths addresses other))
    others before)
    (of_branch paths addresses level) (keys_begin paths addresses level)

-- of the branches before a place none comes before the one at this other place
pub record IsFirstSoFar (levels : List Level) (place it : ℕ) : Type 0 where
  pub within : it < length levels
  pub first : (k : ℕ) (d : Level) → k < place → comes_before (branch_key (get_or levels k d)) (branch_key (get_or levels it d)) ≡ false

any_level : Level
any_level = record { path_key = 0; path = 0; stack_key = 0; stack = Tcp }

branch_order : IsStrictWeakOrder (λ (x y : Level). comes_before (branch_key x) (branch_key y))
branch_order = ranks_by nat_list_cmp_total branch_key

one_more_place : (levels : List Level) (i first : ℕ) → ((k : ℕ) (d : Level) → k < i → comes_before (branch_key (get_or levels k d)) (branch_key (get_or levels first d)) ≡ false)
    → ((d : Level) → comes_before (branch_key (get_or levels i d)) (branch_key (get_or levels first d)) ≡ false)
    → (k : ℕ) (d : Level) → k < i + 1 → comes_before (branch_key (get_or levels k d)) (branch_key (get_or levels first d)) ≡ false
one_more_place levels i first before here k d lt = elim (cases_Bool (eqb k i)) [
  | inl same ↦ rw (eqb-true k i same) (here d)
  | inr not ↦ (let apart : k ≢ i = eqb-false k i not in before k d (omega (arith, apart)))
]

-- one more place, by which of the two comes first
pub first_more : (levels : List Level) (i b now : ℕ) → i < length levels → IsFirstSoFar levels i b
    → ((d : Level) → now ≡ cond (comes_before (branch_key (get_or levels i d)) (branch_key (get_or levels b d))) i b) → IsFirstSoFar levels (i + 1) now
first_more levels i b now within so_far is =
    let x : Level = get_or levels i any_level in
    let y : Level = get_or levels b any_level in
    let at_i : (d : Level) → get_or levels i d ≡ x = λ d. get_or_default levels i d any_level within in
    let at_b : (d : Level) → get_or levels b d ≡ y = λ d. get_or_default levels b d any_level so_far.within in
    elim (cases_Bool (comes_before (branch_key x) (branch_key y))) [
      | inl so ↦
          let now_is : now ≡ i = is any_level ∙ ap (λ t. cond t i b) so in
          subst (IsFirstSoFar levels (i + 1)) (sym now_is) (record {
            within = within;
            first = one_more_place levels i i
                (λ k d lt. branch_order.chain (get_or levels k d) (get_or levels b d) (get_or levels i d) (so_far.first k d lt) (rw (at_b d, at_i d) (branch_order.one_way x y so)))
                (λ d. not_before_itself branch_key (get_or levels i d));
          })
      | inr not ↦
          let now_is : now ≡ b = is any_level ∙ ap (λ t. cond t i b) not in
          subst (IsFirstSoFar levels (i + 1)) (sym now_is) (record {
            within = so_far.within;
            first = one_more_place levels i b so_far.first (λ d. rw (at_i d, at_b d) not);
          })
    ]

-- the place of one among them parts a list
parted : {X : Type 0} (xs : List X) (i : ℕ) (x : X) → i < length xs → x ≡ get_or xs i x → xs ≡ take i xs ++ x ∷ drop (suc i) xs
parted xs i x lt is =
    let next : i + 1 ≡ suc i = omega arith in
    sym (take-append-drop i xs) ∙ ap (λ ys. take i xs ++ ys) (drop_more xs i x lt ∙ ap (λ y. y ∷ drop (i + 1) xs) (sym is) ∙ ap (λ n. x ∷ drop n xs) next)

-- a branch that none comes before, comes before all others
first_before : (before : List Level) (level : Level) (after : List Level)
    → All (λ other. branch_key level ≢ branch_key other) (before ++ after) → All (λ other. comes_before (branch_key other) (branch_key level) ≡ false) (before ++ after)
    → All (λ other. comes_before (branch_key level) (branch_key other) ≡ true) (before ++ after)
first_before before level after apart least k d lt = before_if (branch_key level) (branch_key (get_or (before ++ after) k d)) (least k d lt) (apart k d lt)

-- the leaves of the branches are those of the first one, once it is sorted, and those of the others
leaves_parted : (paths : List Path) (addresses : List Address) (before : List Level) (level : Level) (after : List Level) (sorted : List code.Candidate)
    → All (λ other. comes_before (branch_key level) (branch_key other) ≡ true) (before ++ after)
    → IsPermutation (of_branch paths addresses level) sorted → IsSortedByKey (λ (c : code.Candidate). c.key) (slice_cmp nat_cmp) sorted
    → leaves_from paths addresses (before ++ level ∷ after) ≡ map leaf sorted ++ leaves_from paths addresses (before ++ after)
unfolding leaves_from
leaves_parted paths addresses before level after sorted first moved rising =
    let f : Level → List code.Candidate = of_branch paths addresses in
    let key : code.Candidate → List ℕ = λ c. c.key in
    let others : flat_map f (before ++ after) ≡ flat_map f before ++ flat_map f after = flat_map-append f before after in
    let comes : ComesFirst key (f level) (flat_map f before ++ flat_map f after) =
    subst (ComesFirst key (f level)) others (comes_first paths addresses level (before ++ after) first) in
    ap (λ cs. map leaf (ranked key cs)) (flat_map-append f before (level ∷ after))
    ∙ ap (map leaf) (ranked_apart key (flat_map f before) (f level) (flat_map f after) comes)
    ∙ ap (λ cs. map leaf (ranked key (f level) ++ ranked key cs)) (sym others)
    ∙ ap (λ cs. map leaf (cs ++ ranked key (flat_map f (before ++ after))))
    (ranked_if_sorted key (f level) sorted (keys_differ level (slice_index_or paths level.path any_path) addresses) moved rising)
    ∙ map-append leaf sorted (ranked key (flat_map f (before ++ after)))

pub expands : (paths : List Path) (addresses : List Address) (levels : List Level) (i : ℕ) (level : Level) (sorted : List code.Candidate)
    → AreBranches paths levels → i < length levels → level ≡ get_or levels i level
    → ((k : ℕ) (d : Level) → k < length levels → comes_before (branch_key (get_or levels k d)) (branch_key (get_or levels i d)) ≡ false)
    → IsPermutation (of_branch paths addresses level) sorted → IsSortedByKey (λ (c : code.Candidate). c.key) (slice_cmp nat_cmp) sorted
    → Expands paths addresses levels (remove levels i) sorted
expands paths addresses levels i level sorted fine lt is none_before moved rising =
    let least : All (λ other. comes_before (branch_key other) (branch_key level) ≡ false) levels = λ k d within.
    ap (λ l. comes_before (branch_key (get_or levels k d)) (branch_key l)) (is ∙ get_or_default levels i level d lt) ∙ none_before k d within in
    let before : List Level = take i levels in
    let after : List Level = drop (suc i) levels in
    let parts : levels ≡ before ++ level ∷ after = parted levels i level lt is in
    let apart : AreApart (before ++ level ∷ after) = subst AreApart parts fine.apart in
    let least_left : All (λ other. comes_before (branch_key other) (branch_key level) ≡ false) (before ++ after) =
    All-append (λ other. comes_before (branch_key other) (branch_key level) ≡ false) before after
    (All-take (λ other. comes_before (branch_key other) (branch_key level) ≡ false) i levels least) (All-drop (λ other. comes_before (branch_key other) (branch_key level) ≡ false) (suc i) levels least) in
    let first = first_before before level after (apart_from_others before level after apart) least_left in
    record {
      leaves = ap (leaves_from paths addresses) parts ∙ leaves_parted paths addresses before level after sorted first moved rising;
      short = omega (arith, length_permutation (of_branch paths addresses level) sorted moved, few_of_level level (slice_index_or paths level.path any_path) addresses);
      branches = record {
        placed = All-append (λ l. l.path < length paths) before after (All-take (λ l. l.path < length paths) i levels fine.placed) (All-drop (λ l. l.path < length paths) (suc i) levels fine.placed);
        apart = apart_without before level after apart;
      };
    }

-- one more branch, where none waits
pub expands_on : (paths : List Path) (addresses : List Address) (old now new : List Level) (empty expanded : List code.Candidate) → empty ≡ []
    → Expands paths addresses old now empty → Expands paths addresses now new expanded → Expands paths addresses old new expanded
expands_on paths addresses old now new empty expanded none before after = record {
  leaves = before.leaves ∙ ap (λ cs. map leaf cs ++ leaves_from paths addresses now) none ∙ after.leaves;
  short = after.short;
  branches = after.branches;
}

pub expands_none : (paths : List Path) (addresses : List Address) (levels : List Level) → AreBranches paths levels → Expands paths addresses levels levels []
expands_none paths addresses levels fine = record { leaves = refl; short = omega arith; branches = fine }
