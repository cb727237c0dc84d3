-- The branches are on paths that there are, and no two of them have the same key.
use Rattle.std.proofs.Common.{◌≡◌, ◌≢◌, ◌<◌, ℕ, List, [], ◌∷◌, ◌++◌, refl, sym, inl, inr, length, get_or, arith}
use Rattle.std.specs.List.{All, flat_map, enumerate_from}
use Rattle.std.proofs.lemmas.Bool.{cases_Bool}
use Rattle.std.proofs.lemmas.List.Elements.{All-nil, All-cons, All-head, All-tail, All-append}
use Rattle.taps_preconnection.specs.declared.path.Path.{Path}
use Rattle.taps_prune.specs.Survival.{path_survives, stack_survives}
use Rattle.taps_rank.proofs.Differing.{Differ, Differ-flat_map, Differ-places, places_below}
use Rattle.taps_stack.specs.declared.stack.Stack.{Stack}
use Rattle.taps_stack.specs.declared.stack.Stack.TheVariants.{Unix, Udp}
use Rattle.taps_stack.specs.StackTable.{stacks, stack_place}
use Rattle.taps_candidate.specs.declared.candidate.Level.{Level}
use Rattle.taps_candidate.specs.Branches.{of_stack, of_path, branches, branch_key, AreApart, AreBranches}
use Rattle.taps_candidate.specs.Candidates.{level_of}
use Rattle.taps_candidate.specs.Gathering.{Gathering}
use Rattle.taps_candidate.proofs.Blocks.{All-left, All-right}

-- what holds of each list holds of lists, one after another
pub All-flat_map : {A B : Type 0} (P : B → Type 0) (Q : A → Type 0) (f : A → List B) → ((x : A) → Q x → All P (f x)) → (xs : List A) → All Q xs → All P (flat_map f xs)
All-flat_map P Q f each [] all = All-nil P
All-flat_map P Q f each (x ∷ xs) all = All-append P (f x) (flat_map f xs) (each x (All-head Q x xs all)) (All-flat_map P Q f each xs (All-tail Q x xs all))

stacks_differ : Differ stack_place stacks
stacks_differ = (
  All-cons (λ s. 0 ≢ stack_place s) Unix (Udp ∷ []) (λ same. omega (arith, same)) (All-cons (λ s. 0 ≢ stack_place s) Udp [] (λ same. omega (arith, same)) (All-nil (λ s. 0 ≢ stack_place s))),
  (All-cons (λ s. 1 ≢ stack_place s) Udp [] (λ same. omega (arith, same)) (All-nil (λ s. 1 ≢ stack_place s)), (All-nil (λ s. 2 ≢ stack_place s), tt)),
)

-- what holds of the branch of a path and a stack holds of what is there of it
in_stack : (P : Level → Type 0) (g : Gathering) (path : ℕ × Path) (stack : Stack) → P (level_of g path stack) → All P (of_stack g path stack)
in_stack P g path stack h = elim (cases_Bool (stack_survives g.selection g.role stack)) [
  | inl survives ↦ rw survives (All-cons P (level_of g path stack) [] h (All-nil P))
  | inr not ↦ rw not (All-nil P)
]

in_path : (P : Level → Type 0) (g : Gathering) (path : ℕ × Path) → ((stack : Stack) → P (level_of g path stack)) → All P (of_path g path)
in_path P g path h = elim (cases_Bool (path_survives g.selection g.locals path.1)) [
  | inl survives ↦ rw survives (All-flat_map P (λ _. Unit {0}) (of_stack g path) (λ stack _. in_stack P g path stack (h stack)) stacks (λ _ _ _. tt))
  | inr not ↦ rw not (All-nil P)
]

stack_apart : (g : Gathering) (path : ℕ × Path) (stack : Stack) → Differ branch_key (of_stack g path stack)
stack_apart g path stack = elim (cases_Bool (stack_survives g.selection g.role stack)) [
  | inl survives ↦ rw survives (All-nil (λ other. branch_key (level_of g path stack) ≢ branch_key other), tt)
  | inr not ↦ rw not tt
]

path_apart : (g : Gathering) (path : ℕ × Path) → Differ branch_key (of_path g path)
path_apart g path = elim (cases_Bool (path_survives g.selection g.locals path.1)) [
  | inl survives ↦ rw survives
      (Differ-flat_map branch_key stack_place (of_stack g path) (λ key. get_or key 3 0)
      (λ stack. in_stack (λ level. get_or (branch_key level) 3 0 ≡ stack_place stack) g path stack refl) (stack_apart g path) stacks stacks_differ)
  | inr not ↦ rw not tt
]

all_differ : (g : Gathering) → Differ branch_key (branches g)
all_differ g =
    Differ-flat_map branch_key (λ path. path.0) (of_path g) (λ key. get_or key 1 0)
    (λ path. in_path (λ level. get_or (branch_key level) 1 0 ≡ path.0) g path (λ stack. refl)) (path_apart g) (enumerate_from 0 g.paths) (Differ-places 0 g.paths)

pub apart_from : (levels : List Level) → Differ branch_key levels → AreApart levels
apart_from [] h = tt
apart_from (level ∷ levels) h = (h.0, apart_from levels h.1)

pub are_branches : (g : Gathering) → AreBranches g.paths (branches g)
are_branches g = record {
  placed = All-flat_map (λ level. level.path < length g.paths) (λ path. path.0 < length g.paths) (of_path g)
      (λ path lt. in_path (λ level. level.path < length g.paths) g path (λ stack. lt)) (enumerate_from 0 g.paths) (places_below (length g.paths) 0 g.paths (omega arith));
  apart = apart_from (branches g) (all_differ g);
}

-- without one of them the branches are still apart
pub apart_without : (before : List Level) (level : Level) (after : List Level) → AreApart (before ++ level ∷ after) → AreApart (before ++ after)
apart_without [] level after h = h.1
apart_without (b ∷ before) level after h = (
  All-append (λ other. branch_key b ≢ branch_key other) before after (All-left (λ other. branch_key b ≢ branch_key other) before (level ∷ after) h.0)
      (All-tail (λ other. branch_key b ≢ branch_key other) level after (All-right (λ other. branch_key b ≢ branch_key other) before (level ∷ after) h.0)),
  apart_without before level after h.1,
)

-- and it has another key than each of them
pub apart_from_others : (before : List Level) (level : Level) (after : List Level) → AreApart (before ++ level ∷ after)
    → All (λ other. branch_key level ≢ branch_key other) (before ++ after)
apart_from_others [] level after h = h.0
apart_from_others (b ∷ before) level after h =
    All-cons (λ other. branch_key level ≢ branch_key other) b (before ++ after)
    (λ same. All-head (λ other. branch_key b ≢ branch_key other) level after (All-right (λ other. branch_key b ≢ branch_key other) before (level ∷ after) h.0) (sym same))
    (apart_from_others before level after h.1)
