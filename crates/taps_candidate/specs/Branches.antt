-- The tree of candidates, branch by branch (RFC 9623 section 4.1): a branch is a path and a stack that survive.
use Rattle.std.specs.Prelude.{◌≡◌, ◌≢◌, ◌<◌, ◌≤◌, ℕ, List, [], ◌∷◌, ◌++◌, length, map, slice_index_or, if◌then◌else◌}
use Rattle.std.specs.List.{All, enumerate_from, flat_map}
use Rattle.taps_endpoint.specs.declared.address.Address.{Address}
use Rattle.taps_preconnection.specs.declared.path.Path.{Path}
use Rattle.taps_preconnection.specs.declared.preconnection.Preconnection.{Preconnection}
use Rattle.taps_preconnection.specs.Paths.{any_path}
use Rattle.taps_property.specs.declared.role.Role.{Role}
use Rattle.taps_prune.specs.Survival.{path_survives, stack_survives}
use Rattle.taps_rank.specs.Order.{ranked}
use Rattle.taps_stack.specs.declared.stack.Stack.{Stack}
use Rattle.taps_stack.specs.StackTable.{stacks, stack_place}
use Rattle.taps_candidate.specs.declared.candidate.Candidate as code
use Rattle.taps_candidate.specs.declared.candidate.Level.{Level}
use Rattle.taps_candidate.specs.declared.plan.Leaf.{Leaf}
use Rattle.taps_candidate.specs.Candidates.{leaf, level_of, of_level}
use Rattle.taps_candidate.specs.Gathering.{Gathering, gathering_of}

-- the branch of a path and a stack, if the stack survives
abbrev pub of_stack : Gathering → ℕ × Path → Stack → List Level
of_stack g path stack = if stack_survives g.selection g.role stack then level_of g path stack ∷ [] else []

-- those of a path, stack by stack
abbrev pub of_stacks : Gathering → ℕ × Path → List Level
of_stacks g path = flat_map (of_stack g path) stacks

-- those of a path, if it survives
abbrev pub of_path : Gathering → ℕ × Path → List Level
of_path g path = if path_survives g.selection g.locals path.1 then of_stacks g path else []

-- all branches, path by path
abbrev pub branches : Gathering → List Level
branches g = flat_map (of_path g) (enumerate_from 0 g.paths)

-- those for a Preconnection in a role: the addresses play no part
abbrev pub branches_for : Preconnection → Role → List Level
branches_for pre role = branches (gathering_of pre role [])

-- the numbers by which branches are ranked, of which the earlier decide
abbrev pub branch_key : Level → List ℕ
branch_key level = level.path_key ∷ level.path ∷ level.stack_key ∷ stack_place level.stack ∷ []

-- the candidates of a branch, among these paths and addresses
abbrev pub of_branch : List Path → List Address → Level → List code.Candidate
of_branch paths addresses level = of_level level (slice_index_or paths level.path any_path) addresses

-- those of several branches
abbrev pub of_branches : List Path → List Address → List Level → List code.Candidate
of_branches paths addresses levels = flat_map (of_branch paths addresses) levels

-- the leaves of several branches, in the order in which they are tried
unfoldable pub leaves_from : List Path → List Address → List Level → List Leaf
leaves_from paths addresses levels = map leaf (ranked (λ c. c.key) (of_branches paths addresses levels))

-- no two of the branches have the same key
abbrev pub AreApart : List Level → Type 0
AreApart [] = Unit {0}
AreApart (level ∷ levels) = All (λ other. branch_key level ≢ branch_key other) levels × AreApart levels

-- branches on paths that there are, each once
pub record AreBranches (paths : List Path) (levels : List Level) : Type 0 where
  pub placed : All (λ level. level.path < length paths) levels
  pub apart : AreApart levels

-- the leaves of the branches are those that are expanded and those of the branches that are left
pub record Expands (paths : List Path) (addresses : List Address)
    (old new : List Level) (expanded : List code.Candidate) : Type 0 where
  pub leaves : leaves_from paths addresses old ≡ map leaf expanded ++ leaves_from paths addresses new
  pub short : length expanded ≤ length addresses
  pub branches : AreBranches paths new

-- and where none is expanded, none is left
pub record Refills (paths : List Path) (addresses : List Address)
    (old new : List Level) (expanded : List code.Candidate) : Type 0 where
  pub expands : Expands paths addresses old new expanded
  pub ended : expanded ≡ [] → new ≡ []
