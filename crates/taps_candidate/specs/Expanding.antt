-- What `Leaves` keeps, and what it shows.
use Rattle.std.specs.Prelude.{◌≡◌, ◌≤◌, List, ◌++◌, length, map, drop, vec_capacity}
use Rattle.taps_candidate.specs.declared.leaves.Leaves.TheInside.{Inside}
use Rattle.taps_candidate.specs.declared.plan.Leaf.{Leaf}
use Rattle.taps_candidate.specs.Branches.{leaves_from, AreBranches}
use Rattle.taps_candidate.specs.Candidates.{leaf}
use Rattle.taps_candidate.specs.Gathering.{Gathering, gathering_of}
use Rattle.taps_candidate.specs.Plan.{leaves_of}
use Rattle.taps_candidate.specs.Progress.{Progress, before_rest}

-- what is asked for
abbrev pub gathered : Inside → Gathering
gathered r = gathering_of r.pre.now r.role r.addresses.now

-- the leaves of the expanded branch that were not given yet
abbrev pub waiting_of : Inside → List Leaf
waiting_of r = map leaf (drop r.taken r.expanded.items)

-- those, and the leaves of the branches that are left
abbrev pub rest_of : Inside → List Leaf
rest_of r = waiting_of r ++ leaves_from r.pre.now.paths.items r.addresses.now r.branches.items

abbrev pub given_of : Inside → List Leaf
given_of r = before_rest (leaves_of (gathered r)) (rest_of r)

-- what the fields show
abbrev pub progress_of : Inside → Progress
progress_of r =
    record { given = given_of r; to_come = rest_of r; waiting = waiting_of r; addresses = r.addresses.now }

-- the fields are those of leaves that are given one after another: of all leaves the rest is left, and the expanded
-- branch has room for as many leaves as there are addresses, and no more of them
pub record IsExpanding (r : Inside) : Type 0 where
  pub few : length r.pre.now.paths.items ≤ 8
  pub rest : leaves_of (gathered r) ≡ given_of r ++ rest_of r
  pub branches : AreBranches r.pre.now.paths.items r.branches.items
  pub short : length r.expanded.items ≤ length r.addresses.now
  pub room : length r.addresses.now ≤ vec_capacity r.expanded
