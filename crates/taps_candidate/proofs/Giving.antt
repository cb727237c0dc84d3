-- The leaves that were given, those that wait, and the rest.
use Rattle.std.proofs.Common.{◌≡◌, ◌<◌, ◌≤◌, ℕ, ◌+◌, ◌-◌, List, [], ◌∷◌, ◌++◌, Option, Some, None, refl, ap, sym, ◌∙◌, subst, map, length, drop, get_or, vec_capacity, arith, append_assoc, length-append}
use Rattle.std.specs.Prelude.{slice_get}
use Rattle.std.proofs.lemmas.List.{take_at, drop_more, drop_all, append-nil, length-map, length-drop}
use Rattle.taps_endpoint.specs.declared.address.Address.{Address}
use Rattle.taps_preconnection.specs.declared.path.Path.{Path}
use Rattle.taps_rank.specs.Order.{ranked}
use Rattle.taps_candidate.specs.declared.candidate.Candidate as code
use Rattle.taps_candidate.specs.declared.candidate.Level.{Level}
use Rattle.taps_candidate.specs.declared.leaves.Leaves.TheInside.{Inside}
use Rattle.taps_candidate.specs.declared.plan.Leaf.{Leaf}
use Rattle.taps_candidate.specs.Branches.{branches_for, leaves_from, AreBranches, Refills}
use Rattle.taps_candidate.specs.Candidates.{leaf}
use Rattle.taps_candidate.specs.Expanding.{gathered, waiting_of, rest_of, given_of, progress_of, IsExpanding}
use Rattle.taps_candidate.specs.Plan.{leaves_of}
use Rattle.taps_candidate.specs.Progress.{Progress, before_rest, IsStart, IsWaiting, GivesNext}
use Rattle.taps_candidate.proofs.Apart.{are_branches}
use Rattle.taps_candidate.proofs.Placed.{leaves_by_branch}

before_is : (all before rest : List Leaf) → all ≡ before ++ rest → before_rest all rest ≡ before
before_is all before rest is =
    let size : length before ≡ length (before ++ rest) - length rest = omega (arith, length-append before rest) in
    ap (λ xs. before_rest xs rest) is ∙ take_at before rest (length (before ++ rest) - length rest) size

all_of : (all before rest : List Leaf) → all ≡ before ++ rest → all ≡ before_rest all rest ++ rest
all_of all before rest is = is ∙ ap (λ xs. xs ++ rest) (sym (before_is all before rest is))

-- the first of those that wait, and the others
first_waits : (expanded : List code.Candidate) (taken : ℕ) (x : code.Candidate) (others : List Leaf) → taken < length expanded → x ≡ get_or expanded taken x
    → map leaf (drop taken expanded) ++ others ≡ leaf x ∷ (map leaf (drop (taken + 1) expanded) ++ others)
first_waits expanded taken x others lt is = ap (λ cs. map leaf cs ++ others) (drop_more expanded taken x lt ∙ ap (λ c. c ∷ drop (taken + 1) expanded) (sym is))

-- the leaves of the branches, where nothing was given
pub starts : (r : Inside) → r.branches.items ≡ branches_for r.pre.now r.role → r.expanded.items ≡ [] → r.taken ≡ 0 → IsStart (gathered r) (progress_of r)
starts r all none zero =
    let rest : rest_of r ≡ leaves_of (gathered r) =
    ap (λ cs. map leaf (drop r.taken cs) ++ leaves_from r.pre.now.paths.items r.addresses.now r.branches.items) none
    ∙ ap (λ n. map leaf (drop n []) ++ leaves_from r.pre.now.paths.items r.addresses.now r.branches.items) zero
    ∙ ap (leaves_from r.pre.now.paths.items r.addresses.now) all
    ∙ sym (leaves_by_branch (gathered r)) in
    record { given = before_is (leaves_of (gathered r)) [] (rest_of r) (sym rest); to_come = rest; addresses = refl }

pub expanding_new : (r : Inside) → length r.pre.now.paths.items ≤ 8 → r.branches.items ≡ branches_for r.pre.now r.role → r.expanded.items ≡ [] → r.taken ≡ 0
    → length r.addresses.now ≤ vec_capacity r.expanded → IsExpanding r
expanding_new r few all none zero room = record {
  few = few;
  rest = all_of (leaves_of (gathered r)) [] (rest_of r) (sym (starts r all none zero).to_come);
  branches = subst (AreBranches r.pre.now.paths.items) (sym all) (are_branches (gathered r));
  short = (let size : length r.expanded.items ≡ 0 = ap length none in omega (arith, size));
  room = room;
}

-- one leaf is given
pub gives_one : (r : Inside) (x : code.Candidate) → IsExpanding r → r.taken < length r.expanded.items → x ≡ get_or r.expanded.items r.taken x
    → GivesNext (progress_of r) (progress_of (record r { taken = r.taken + 1 })) (Some (leaf x))
gives_one r x h lt is =
    let others : List Leaf = leaves_from r.pre.now.paths.items r.addresses.now r.branches.items in
    let next : List Leaf = map leaf (drop (r.taken + 1) r.expanded.items) ++ others in
    let first : rest_of r ≡ leaf x ∷ next = first_waits r.expanded.items r.taken x others lt is in
    record {
      first = sym (ap (λ ls. slice_get ls 0) first);
      given_after = before_is (leaves_of (gathered r)) (given_of r ++ leaf x ∷ []) next (h.rest ∙ ap (λ ls. given_of r ++ ls) first ∙ sym (append_assoc (given_of r) (leaf x ∷ []) next));
      rest = first;
      same_addresses = refl;
    }

pub expanding_on : (r : Inside) (x : code.Candidate) → IsExpanding r → r.taken < length r.expanded.items → x ≡ get_or r.expanded.items r.taken x
    → IsExpanding (record r { taken = r.taken + 1 })
expanding_on r x h lt is =
    let others : List Leaf = leaves_from r.pre.now.paths.items r.addresses.now r.branches.items in
    let next : List Leaf = map leaf (drop (r.taken + 1) r.expanded.items) ++ others in
    let first : rest_of r ≡ leaf x ∷ next = first_waits r.expanded.items r.taken x others lt is in
    record {
      few = h.few;
      rest = all_of (leaves_of (gathered r)) (given_of r ++ leaf x ∷ []) next (h.rest ∙ ap (λ ls. given_of r ++ ls) first ∙ sym (append_assoc (given_of r) (leaf x ∷ []) next));
      branches = h.branches;
      short = h.short;
      room = h.room;
    }

-- those that wait are the first ones, and few
pub waits : (r : Inside) → IsExpanding r → IsWaiting (progress_of r)
waits r h = record {
  first = sym (take_at (waiting_of r) (leaves_from r.pre.now.paths.items r.addresses.now r.branches.items) (length (waiting_of r)) refl);
  few = omega (arith, h.short, length-map (drop r.taken r.expanded.items) leaf, length-drop r.taken r.expanded.items);
}

-- none waits where all of the branch were given
pub none_waits : (expanded : List code.Candidate) (taken : ℕ) → length expanded ≤ taken → map leaf (drop taken expanded) ≡ []
none_waits expanded taken le = ap (map leaf) (drop_all taken expanded le)

-- none is given where none is to come
pub gives_none : (p : Progress) → p.to_come ≡ [] → GivesNext p p None
gives_none p none = record {
  first = sym (ap (λ ls. slice_get ls 0) none);
  given_after = sym (append-nil p.given);
  rest = refl;
  same_addresses = refl;
}

none_first : (ls : List Leaf) → None ≡ slice_get ls 0 → ls ≡ []
none_first [] h = refl
none_first (l ∷ ls) h = cc

-- where none was given, none was to come
pub all_given : (old new : Progress) (given : Option Leaf) → given ≡ None → GivesNext old new given → old.to_come ≡ []
all_given old new given none h = none_first old.to_come (sym none ∙ h.first)

-- further branches were expanded: the rest is the same
pub rest_refilled : (paths : List Path) (addresses : List Address) (old new : List Level) (expanded waiting : List code.Candidate) (taken : ℕ) → length expanded ≤ taken
    → Refills paths addresses old new waiting
    → map leaf (drop 0 waiting) ++ leaves_from paths addresses new ≡ map leaf (drop taken expanded) ++ leaves_from paths addresses old
rest_refilled paths addresses old new expanded waiting taken le h =
    sym h.expands.leaves ∙ ap (λ ls. ls ++ leaves_from paths addresses old) (sym (none_waits expanded taken le))

from_none : (paths : List Path) (addresses : List Address) → leaves_from paths addresses [] ≡ []
unfolding leaves_from ranked
from_none paths addresses = refl

-- where none waits after that, none is to come
pub none_left : (paths : List Path) (addresses : List Address) (old new : List Level) (waiting : List code.Candidate) → Refills paths addresses old new waiting
    → map leaf (drop 0 waiting) ≡ [] → map leaf (drop 0 waiting) ++ leaves_from paths addresses new ≡ []
none_left paths addresses old new waiting h none =
    let empty : waiting ≡ [] = empty_map waiting none in
    ap (λ ls. ls ++ leaves_from paths addresses new) none ∙ ap (leaves_from paths addresses) (h.ended empty) ∙ from_none paths addresses
  where
    empty_map : (cs : List code.Candidate) → map leaf cs ≡ [] → cs ≡ []
    empty_map [] h = refl
    empty_map (c ∷ cs) h = cc
