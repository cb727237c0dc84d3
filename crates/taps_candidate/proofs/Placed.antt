-- The leaves of a plan are all those of the branches, and each leaf's path is in place.
use Rattle.std.proofs.Common.{◌≡◌, ◌<◌, ℕ, List, [], ◌∷◌, Bool, Option, Some, None, ap, sym, ◌∙◌, inl, inr, map, length, arith}
use Rattle.std.specs.List.{All, find, filter_map, cons_option, flat_map, enumerate_from, range_with_len}
use Rattle.std.proofs.lemmas.Bool.{cases_Bool}
use Rattle.std.proofs.lemmas.List.Elements.{All-nil, All-cons, All-head, All-tail, All-map, All-filter}
use Rattle.std.proofs.lemmas.Simd.{map-map}
use Rattle.taps_rank.specs.Order.{ranked_at, ranked}
use Rattle.taps_rank.proofs.Differing.{places_below}
use Rattle.taps_rank.proofs.Ranked.{ranked-map}
use Rattle.taps_preconnection.specs.declared.path.Path.{Path}
use Rattle.taps_stack.specs.declared.stack.Stack.{Stack}
use Rattle.taps_stack.specs.StackTable.{stacks}
use Rattle.taps_candidate.specs.Branches.{branches, leaves_from}
use Rattle.taps_candidate.specs.Candidates.{keyed, leaf}
use Rattle.taps_candidate.specs.Gathering.{Gathering, Candidate, candidate_of, candidates, survives, survivors}
use Rattle.taps_candidate.specs.Plan.{leaf_of, leaves_of}
use Rattle.taps_candidate.specs.Ranking.{rank_key}
use Rattle.taps_candidate.proofs.Apart.{All-flat_map}
use Rattle.taps_candidate.proofs.Levels.{survivors_by_branch}

pub leaves_by_branch : (g : Gathering) → leaves_of g ≡ leaves_from g.paths g.addresses (branches g)
unfolding leaves_of leaves_from
leaves_by_branch g =
    sym (map-map leaf (keyed g) (ranked (rank_key g) (survivors g)))
    ∙ ap (map leaf) (sym (ranked-map (λ c. c.key) (keyed g) (survivors g)))
    ∙ ap (λ cs. map leaf (ranked (λ c. c.key) cs)) (survivors_by_branch g)

-- it is so of what is there
abbrev IfThere : {X : Type 0} → (X → Type 0) → Option X → Type 0
IfThere P None = Unit {0}
IfThere P (Some x) = P x

found : {X : Type 0} (P : X → Type 0) (p : X → Bool) (xs : List X) → All P xs → IfThere P (find p xs)
found P p [] h = tt
found P p (x ∷ xs) h = elim (cases_Bool (p x)) [
  | inl passes ↦ rw passes (All-head P x xs h)
  | inr fails ↦ rw fails (found P p xs (All-tail P x xs h))
]

one_more : {X : Type 0} (P : X → Type 0) (o : Option X) (xs : List X) → IfThere P o → All P xs → All P (cons_option o xs)
one_more P None xs h all = all
one_more P (Some x) xs h all = All-cons P x xs h all

each_found : {X : Type 0} (P : X → Type 0) (f : ℕ → Option X) → ((n : ℕ) → IfThere P (f n)) → (ns : List ℕ) → All P (filter_map f ns)
each_found P f h [] = All-nil P
each_found P f h (n ∷ ns) = one_more P (f n) (filter_map f ns) (h n) (each_found P f h ns)

All-ranked : {X : Type 0} (P : X → Type 0) (key : X → List ℕ) (xs : List X) → All P xs → All P (ranked key xs)
unfolding ranked
All-ranked P key xs all = each_found P (ranked_at key xs) (λ place. found P _ xs all) (range_with_len 0 (length xs))

-- the triples of one path and one stack
abbrev of_both : Gathering → ℕ × Path → Stack → List Candidate
of_both g path stack = map (candidate_of path stack) (enumerate_from 0 g.addresses)

pub leaves_placed : (g : Gathering) → All (λ leaf. leaf.path < length g.paths) (leaves_of g)
unfolding leaves_of
leaves_placed g =
    let all : All (λ c. c.path_place < length g.paths) (candidates g) =
    All-flat_map (λ c. c.path_place < length g.paths) (λ path. path.0 < length g.paths) (λ path. flat_map (of_both g path) stacks)
    (λ path lt. All-flat_map (λ c. c.path_place < length g.paths) (λ _. Unit {0}) (of_both g path)
    (λ stack _. All-map (λ c. c.path_place < length g.paths) (candidate_of path stack) (enumerate_from 0 g.addresses) (λ _ _ _. lt)) stacks (λ _ _ _. tt))
    (enumerate_from 0 g.paths) (places_below (length g.paths) 0 g.paths (omega arith)) in
    All-map (λ l. l.path < length g.paths) leaf_of (ranked (rank_key g) (survivors g))
    (All-ranked (λ c. c.path_place < length g.paths) (rank_key g) (survivors g)
    (All-filter (λ c. survives g c.path c.stack c.address) (λ c. c.path_place < length g.paths) (candidates g) all))
