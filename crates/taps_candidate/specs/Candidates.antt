-- The triples of a path and a stack that survive, with their keys.
use Rattle.std.specs.Prelude.{ℕ, List, [], ◌∷◌, filter, map, if◌then◌else◌}
use Rattle.std.specs.List.{enumerate_from}
use Rattle.taps_endpoint.specs.declared.address.Address.{Address}
use Rattle.taps_endpoint.specs.Families.{family_of}
use Rattle.taps_preconnection.specs.declared.path.Path.{Path}
use Rattle.taps_prune.specs.Survival.{is_reachable}
use Rattle.taps_rank.specs.declared.turn.Turn.{Turn}
use Rattle.taps_rank.specs.Keys.{path_key, stack_key}
use Rattle.taps_rank.specs.declared.turn.Turns.{Turns}
use Rattle.taps_rank.specs.Turns.{placed_family, turn_of, turn_in}
use Rattle.taps_stack.specs.declared.stack.Stack.{Stack}
use Rattle.taps_stack.specs.StackTable.{stack_place}
use Rattle.taps_candidate.specs.declared.candidate.Candidate as code
use Rattle.taps_candidate.specs.declared.candidate.Level.{Level}
use Rattle.taps_candidate.specs.declared.plan.Leaf.{Leaf}
use Rattle.taps_candidate.specs.Gathering.{Gathering, Candidate}
use Rattle.taps_candidate.specs.Ranking.{rank_key}

-- a triple as the code keeps it
abbrev pub keyed : Gathering → Candidate → code.Candidate
keyed g c = record { key = rank_key g c; path = c.path_place; stack = c.stack; address = c.address }

-- one of a level, by its turn
abbrev pub keyed_by : Level → Turn → ℕ × Address → code.Candidate
keyed_by level turn (place, address) = record {
  key = level.path_key ∷ level.path ∷ level.stack_key ∷ stack_place level.stack ∷ turn.round ∷ turn.side ∷ place ∷ [];
  path = level.path;
  stack = level.stack;
  address = address;
}

-- that of an address, if it is reached, by what the turns before it left
abbrev pub of_address : Level → Path → Turns → ℕ × Address → List code.Candidate
of_address level path turns (place, address) =
    if is_reachable path level.stack address
    then keyed_by level (turn_in turns (family_of address)) (place, address) ∷ [] else []

-- the addresses that a path and a stack reach, with their places
abbrev pub reached : Path → Stack → List Address → List (ℕ × Address)
reached path stack addresses = filter (λ (place, address). is_reachable path stack address) (enumerate_from 0 addresses)

-- one of a level, by its turn among the addresses that are reached
abbrev pub keyed_among : Level → Path → List Address → ℕ × Address → code.Candidate
keyed_among level path addresses (place, address) =
    keyed_by level (turn_of (map placed_family (reached path level.stack addresses)) (place, family_of address))
    (place, address)

-- those of a path and a stack
abbrev pub of_level : Level → Path → List Address → List code.Candidate
of_level level path addresses = map (keyed_among level path addresses) (reached path level.stack addresses)

-- what the candidates of this path and this stack have in common
abbrev pub level_of : Gathering → ℕ × Path → Stack → Level
level_of g (place, path) stack =
    record {
      path_key = path_key g.selection path;
      path = place;
      stack_key = stack_key g.selection stack;
      stack = stack;
    }

-- the leaf of a triple as the code keeps it
abbrev pub leaf : code.Candidate → Leaf
leaf c = record { path = c.path; target = record { stack = c.stack; address = c.address } }
