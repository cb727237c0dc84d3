-- The survivors, branch by branch.
use Rattle.std.proofs.Common.{◌≡◌, ◌<◌, ℕ, List, [], ◌∷◌, ◌++◌, Bool, true, false, refl, ap, sym, ◌∙◌, inl, inr, map, length, get_or}
use Rattle.std.specs.Prelude.{slice_index_or}
use Rattle.std.specs.List.{All, filter, flat_map, enumerate_from}
use Rattle.std.proofs.lemmas.Bool.{cases_Bool}
use Rattle.std.proofs.lemmas.Grind.{flat_map-append}
use Rattle.std.proofs.lemmas.List.{map-append, append-nil, get_or_default}
use Rattle.std.proofs.lemmas.List.Elements.{All-head, All-tail, All-weaker, filter-append}
use Rattle.std.proofs.lemmas.List.FromFn.{length-enumerate_from}
use Rattle.std.proofs.lemmas.Simd.{map-map}
use Rattle.taps_preconnection.specs.declared.path.Path.{Path}
use Rattle.taps_preconnection.specs.Paths.{any_path}
use Rattle.taps_prune.specs.Survival.{path_survives, stack_survives}
use Rattle.taps_endpoint.specs.Families.{family_of}
use Rattle.taps_rank.specs.Turns.{placed_family, turn_of}
use Rattle.taps_rank.proofs.Turned.{placed}
use Rattle.taps_stack.specs.declared.stack.Stack.{Stack}
use Rattle.taps_stack.specs.StackTable.{stacks}
use Rattle.taps_candidate.specs.declared.candidate.Candidate as code
use Rattle.taps_candidate.specs.declared.candidate.Level.{Level}
use Rattle.taps_candidate.specs.Branches.{of_stack, of_path, branches, of_branch, of_branches}
use Rattle.taps_candidate.specs.Candidates.{keyed, keyed_by, keyed_among, level_of, of_level, reached}
use Rattle.taps_candidate.specs.Gathering.{Gathering, Candidate, candidate_of, survives, survivors}
use Rattle.taps_candidate.specs.Ranking.{kept}

-- a filter of what a function gives is what it gives of a filter
filter-map : {A B : Type 0} (p : B → Bool) (f : A → B) (xs : List A) → filter p (map f xs) ≡ map f (filter (λ x. p (f x)) xs)
filter-map p f [] = refl
filter-map p f (x ∷ xs) = elim (cases_Bool (p (f x))) [ inl passes ↦ rw (passes, filter-map p f xs) refl | inr fails ↦ rw (fails, filter-map p f xs) refl ]

filter_none : {A : Type 0} (xs : List A) → filter (λ _. false) xs ≡ []
filter_none [] = refl
filter_none (x ∷ xs) = filter_none xs

-- what is kept of lists, one after another, is what is kept of each
map-filter-flat_map : {A B C : Type 0} (g : B → C) (p : B → Bool) (f : A → List B) (h : A → List C) (xs : List A) → All (λ x. map g (filter p (f x)) ≡ h x) xs
    → map g (filter p (flat_map f xs)) ≡ flat_map h xs
map-filter-flat_map g p f h [] same = refl
map-filter-flat_map g p f h (x ∷ xs) same =
    rw (
      filter-append p (f x) (flat_map f xs),
      map-append g (filter p (f x)) (filter p (flat_map f xs)),
      All-head (λ x. map g (filter p (f x)) ≡ h x) x xs same,
      map-filter-flat_map g p f h xs (All-tail (λ x. map g (filter p (f x)) ≡ h x) x xs same),
    ) refl

flat_map-flat_map : {A B C : Type 0} (f : B → List C) (h : A → List B) (xs : List A) → flat_map f (flat_map h xs) ≡ flat_map (λ x. flat_map f (h x)) xs
flat_map-flat_map f h [] = refl
flat_map-flat_map f h (x ∷ xs) = flat_map-append f (h x) (flat_map h xs) ∙ ap (λ ys. flat_map f (h x) ++ ys) (flat_map-flat_map f h xs)

-- the triple survives
abbrev passes : Gathering → Candidate → Bool
passes g c = survives g c.path c.stack c.address

-- the triples of one path and one stack
abbrev of_both : Gathering → ℕ × Path → Stack → List Candidate
of_both g path stack = map (candidate_of path stack) (enumerate_from 0 g.addresses)

-- the triples of one path
abbrev of_one : Gathering → ℕ × Path → List Candidate
of_one g path = flat_map (of_both g path) stacks

map_same : {A B : Type 0} (f h : A → B) → ((x : A) → f x ≡ h x) → (xs : List A) → map f xs ≡ map h xs
map_same f h same [] = refl
map_same f h same (x ∷ xs) = rw (same x, map_same f h same xs) refl

-- with a path and a stack that survive, what is kept is what is reached
kept_is_reached : (g : Gathering) (path : Path) (stack : Stack) → path_survives g.selection g.locals path ≡ true → stack_survives g.selection g.role stack ≡ true
    → kept g path stack ≡ reached path stack g.addresses
kept_is_reached g path stack this that = rw (this, that) refl

-- the path is in its place
abbrev IsInPlace : Gathering → ℕ × Path → Type 0
IsInPlace g path = slice_index_or g.paths path.0 any_path ≡ path.1

paths_in_place : (g : Gathering) → All (IsInPlace g) (enumerate_from 0 g.paths)
paths_in_place g k d lt =
    let within : k < length g.paths = rw (length-enumerate_from 0 g.paths) at lt in
    let path : Path = get_or g.paths k any_path in
    let here : get_or (enumerate_from 0 g.paths) k d ≡ (k, path) =
    get_or_default (enumerate_from 0 g.paths) k d (k, path) lt ∙ placed g.paths k path within (get_or_default g.paths k any_path path within) in
    rw here refl

abbrev branch_of : Gathering → Level → List code.Candidate
branch_of g level = of_branch g.paths g.addresses level

of_both_kept : (g : Gathering) (path : ℕ × Path) (stack : Stack) → path_survives g.selection g.locals path.1 ≡ true → IsInPlace g path
    → map (keyed g) (filter (passes g) (of_both g path stack)) ≡ of_branches g.paths g.addresses (of_stack g path stack)
of_both_kept g path stack this in_place =
    ap (map (keyed g)) (filter-map (passes g) (candidate_of path stack) (enumerate_from 0 g.addresses))
    ∙ elim (cases_Bool (stack_survives g.selection g.role stack)) [
      | inl that ↦
          ap (λ es. map (keyed g) (map (candidate_of path stack) es)) (kept_is_reached g path.1 stack this that)
          ∙ map-map (keyed g) (candidate_of path stack) (reached path.1 stack g.addresses)
          ∙ map_same (λ e. keyed g (candidate_of path stack e)) (keyed_among (level_of g path stack) path.1 g.addresses)
          (λ e. ap (λ es. keyed_by (level_of g path stack) (turn_of (map placed_family es) (e.0, family_of e.1)) e) (kept_is_reached g path.1 stack this that)) (reached path.1 stack g.addresses)
          ∙ ap (λ p. of_level (level_of g path stack) p g.addresses) (sym in_place)
          ∙ sym (append-nil (branch_of g (level_of g path stack)))
          ∙ rw that refl
      | inr not ↦ rw (this, not) (ap (λ es. map (keyed g) (map (candidate_of path stack) es)) (filter_none (enumerate_from 0 g.addresses)))
    ]

of_both_pruned : (g : Gathering) (path : ℕ × Path) (stack : Stack) → path_survives g.selection g.locals path.1 ≡ false
    → map (keyed g) (filter (passes g) (of_both g path stack)) ≡ []
of_both_pruned g path stack this =
    ap (map (keyed g)) (filter-map (passes g) (candidate_of path stack) (enumerate_from 0 g.addresses))
    ∙ rw this (ap (λ es. map (keyed g) (map (candidate_of path stack) es)) (filter_none (enumerate_from 0 g.addresses)))

of_one_is : (g : Gathering) (path : ℕ × Path) → IsInPlace g path → map (keyed g) (filter (passes g) (of_one g path)) ≡ of_branches g.paths g.addresses (of_path g path)
of_one_is g path in_place =
    elim (cases_Bool (path_survives g.selection g.locals path.1)) [
      | inl this ↦
          map-filter-flat_map (keyed g) (passes g) (of_both g path) (λ stack. of_branches g.paths g.addresses (of_stack g path stack)) stacks
          (λ k d lt. of_both_kept g path (get_or stacks k d) this in_place)
          ∙ sym (flat_map-flat_map (branch_of g) (of_stack g path) stacks) ∙ rw this refl
      | inr not ↦ map-filter-flat_map (keyed g) (passes g) (of_both g path) (λ _. []) stacks (λ k d lt. of_both_pruned g path (get_or stacks k d) not) ∙ rw not refl
    ]

-- the triples that survive are those of the branches
pub survivors_by_branch : (g : Gathering) → map (keyed g) (survivors g) ≡ of_branches g.paths g.addresses (branches g)
survivors_by_branch g =
    map-filter-flat_map (keyed g) (passes g) (of_one g) (λ path. of_branches g.paths g.addresses (of_path g path)) (enumerate_from 0 g.paths)
    (All-weaker (IsInPlace g) (λ path. map (keyed g) (filter (passes g) (of_one g path)) ≡ of_branches g.paths g.addresses (of_path g path)) (of_one_is g) (enumerate_from 0 g.paths) (paths_in_place g))
    ∙ sym (flat_map-flat_map (branch_of g) (of_path g) (enumerate_from 0 g.paths))
