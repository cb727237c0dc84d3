-- A plan has at most as many leaves as there are triples.
use Rattle.std.proofs.Common.{ℕ, suc, zero, ◌+◌, ◌*◌, ◌≤◌, List, [], ◌∷◌, Bool, Option, Some, None, inl, inr, map, length, arith, length-append}
use Rattle.std.proofs.Math.Nat.{suc-mul}
use Rattle.std.specs.List.{filter, filter_map, flat_map, cons_option, enumerate_from, range_with_len}
use Rattle.std.proofs.lemmas.Bool.{cases_Bool}
use Rattle.std.proofs.lemmas.List.{length-map}
use Rattle.std.proofs.lemmas.List.FromFn.{length-enumerate_from, length-range_with_len}
use Rattle.taps_preconnection.specs.declared.path.Path.{Path}
use Rattle.taps_rank.specs.Order.{ranked_at, ranked}
use Rattle.taps_stack.specs.declared.stack.Stack.{Stack}
use Rattle.taps_stack.specs.StackTable.{stacks}
use Rattle.taps_candidate.specs.Gathering.{Gathering, candidate_of, candidates, survives, survivors}
use Rattle.taps_candidate.specs.Plan.{leaf_of, leaves_of}
use Rattle.taps_candidate.specs.Ranking.{rank_key}

filter_short : {A : Type 0} (p : A → Bool) (xs : List A) → length (filter p xs) ≤ length xs
filter_short p [] = omega arith
filter_short p (x ∷ xs) = elim (cases_Bool (p x)) [
  | inl passes ↦ rw passes (omega (arith, filter_short p xs))
  | inr fails ↦ rw fails (omega (arith, filter_short p xs))
]

cons_short : {A : Type 0} (o : Option A) (xs : List A) (n : ℕ) → length xs ≤ n → length (cons_option o xs) ≤ n + 1
cons_short None xs n h = omega arith
cons_short (Some x) xs n h = omega arith

filter_map_short : {A B : Type 0} (f : A → Option B) (xs : List A) → length (filter_map f xs) ≤ length xs
filter_map_short f [] = omega arith
filter_map_short f (x ∷ xs) = omega (arith, cons_short (f x) (filter_map f xs) (length xs) (filter_map_short f xs))

-- so many lists, each of which is short
flat_map_short : {A B : Type 0} (f : A → List B) (short : ℕ) → ((x : A) → length (f x) ≤ short) → (few : ℕ) (xs : List A) → length xs ≤ few → length (flat_map f xs) ≤ few * short
flat_map_short f short each few [] h = omega arith
flat_map_short f short each zero (x ∷ xs) h = absurd (omega arith)
flat_map_short f short each (suc few) (x ∷ xs) h =
    omega (arith, each x, flat_map_short f short each few xs (omega arith), length-append (f x) (flat_map f xs), suc-mul few short)

-- the triples of one path and one stack, and those of one path
of_both : (g : Gathering) (path : ℕ × Path) (stack : Stack) → length (map (candidate_of path stack) (enumerate_from 0 g.addresses)) ≤ length g.addresses
of_both g path stack = omega (arith, length-map (enumerate_from 0 g.addresses) (candidate_of path stack), length-enumerate_from 0 g.addresses)

of_one : (g : Gathering) (path : ℕ × Path) → length (flat_map (λ stack. map (candidate_of path stack) (enumerate_from 0 g.addresses)) stacks) ≤ 3 * length g.addresses
of_one g path = flat_map_short (λ stack. map (candidate_of path stack) (enumerate_from 0 g.addresses)) (length g.addresses) (of_both g path) 3 stacks (omega arith)

few_candidates : (g : Gathering) → length g.paths ≤ 8 → length (candidates g) ≤ 24 * length g.addresses
few_candidates g few =
    let all = flat_map_short (λ path. flat_map (λ stack. map (candidate_of path stack) (enumerate_from 0 g.addresses)) stacks) (3 * length g.addresses) (of_one g) 8 (enumerate_from 0 g.paths) (omega (arith, length-enumerate_from 0 g.paths)) in
    omega (arith, all)

pub few_leaves : (g : Gathering) → length g.paths ≤ 8 → length (leaves_of g) ≤ 24 * length g.addresses
unfolding leaves_of ranked
few_leaves g few =
    let in_order = filter_map_short (ranked_at (rank_key g) (survivors g)) (range_with_len 0 (length (survivors g))) in
    omega (
      arith,
      length-map (filter_map (ranked_at (rank_key g) (survivors g)) (range_with_len 0 (length (survivors g)))) leaf_of,
      in_order,
      length-range_with_len 0 (length (survivors g)),
      filter_short (λ c. survives g c.path c.stack c.address) (candidates g),
      few_candidates g few,
    )
