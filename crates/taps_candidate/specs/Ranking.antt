-- The key by which triples are ranked (RFC 9623 section 4.1; the key is local).
use Rattle.std.specs.Prelude.{ℕ, List, [], ◌∷◌, filter, map}
use Rattle.std.specs.List.{enumerate_from}
use Rattle.taps_endpoint.specs.declared.address.Address.{Address}
use Rattle.taps_endpoint.specs.Families.{family_of}
use Rattle.taps_preconnection.specs.declared.path.Path.{Path}
use Rattle.taps_rank.specs.declared.turn.Turn.{Turn}
use Rattle.taps_rank.specs.Keys.{path_key, stack_key}
use Rattle.taps_rank.specs.Turns.{placed_family, turn_of}
use Rattle.taps_stack.specs.declared.stack.Stack.{Stack}
use Rattle.taps_stack.specs.StackTable.{stack_place}
use Rattle.taps_candidate.specs.Gathering.{Gathering, Candidate, survives}

-- the addresses that survive with a path and a stack, with their places
abbrev pub kept : Gathering → Path → Stack → List (ℕ × Address)
kept g path stack = filter (λ (place, address). survives g path stack address) (enumerate_from 0 g.addresses)

-- the turn of an address among those that survive with its path and stack
abbrev pub turn_among : Gathering → Candidate → Turn
turn_among g c = turn_of (map placed_family (kept g c.path c.stack)) (c.place, family_of c.address)

-- the seven numbers, of which the earlier decide
abbrev pub rank_key : Gathering → Candidate → List ℕ
rank_key g c =
    path_key g.selection c.path ∷ c.path_place
    ∷ stack_key g.selection c.stack ∷ stack_place c.stack
    ∷ (turn_among g c).round ∷ (turn_among g c).side ∷ c.place ∷ []
