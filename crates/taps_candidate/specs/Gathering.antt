-- What candidates are gathered from (RFC 9623 section 4.1).
use Rattle.std.specs.Prelude.{ℕ, List, Bool, filter, map}
use Rattle.std.specs.List.{enumerate_from, flat_map}
use Rattle.taps_endpoint.specs.declared.address.Address.{Address}
use Rattle.taps_endpoint.specs.declared.local.Local.{Local}
use Rattle.taps_property.specs.declared.role.Role.{Role}
use Rattle.taps_property.specs.declared.selection.Selection.{Selection}
use Rattle.taps_preconnection.specs.declared.path.Path.{Path}
use Rattle.taps_preconnection.specs.declared.preconnection.Preconnection.{Preconnection}
use Rattle.taps_preconnection.specs.Preconnections.{selection_for}
use Rattle.taps_prune.specs.Survival as survival
use Rattle.taps_stack.specs.declared.stack.Stack.{Stack}
use Rattle.taps_stack.specs.StackTable.{stacks}

-- what an application uses a Preconnection for and what it asks; the paths that there are, the locals, and the
-- addresses, each once
pub record Gathering : Type 0 where
  pub role : Role
  pub selection : Selection
  pub paths : List Path
  pub locals : List Local
  pub addresses : List Address

-- what is gathered for a Preconnection in a role
abbrev pub gathering_of : Preconnection → Role → List Address → Gathering
gathering_of pre role addresses =
    record {
      role = role;
      selection = selection_for pre role;
      paths = pre.paths.items;
      locals = pre.locals.items;
      addresses = addresses;
    }

-- a path, a stack and an address, with the places of the path and of the address
pub record Candidate : Type 0 where
  pub path_place : ℕ
  pub path : Path
  pub stack : Stack
  pub place : ℕ
  pub address : Address

-- the triple of these
abbrev pub candidate_of : ℕ × Path → Stack → ℕ × Address → Candidate
candidate_of (path_place, path) stack (place, address) =
    record { path_place = path_place; path = path; stack = stack; place = place; address = address }

-- all triples
abbrev pub candidates : Gathering → List Candidate
candidates g = flat_map
    (λ path. flat_map (λ stack. map (candidate_of path stack) (enumerate_from 0 g.addresses)) stacks)
    (enumerate_from 0 g.paths)

-- the triple may be tried
abbrev pub survives : Gathering → Path → Stack → Address → Bool
survives g path stack address = survival.survives g.selection g.role g.locals path stack address

-- those that survive
abbrev pub survivors : Gathering → List Candidate
survivors g = filter (λ c. survives g c.path c.stack c.address) (candidates g)
