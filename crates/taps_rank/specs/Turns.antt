-- How the families of addresses take turns (RFC 8305 section 4 with a First Address Family Count of 1).
use Rattle.std.specs.Prelude.{ℕ, ◌+◌, List, [], ◌∷◌, ◌&&◌, Option, Some, None, count_by, nat_lt, slice_index, slice_set, if◌then◌else◌}
use Rattle.taps_endpoint.specs.declared.address.Address.{Address}
use Rattle.taps_endpoint.specs.declared.address.Family.{Family}
use Rattle.taps_endpoint.specs.declared.address.Family.TheVariants.{Inet4, Inet6, Unix}
use Rattle.taps_endpoint.specs.Families.{family_of, is_same_family}
use Rattle.taps_rank.specs.declared.turn.Turn.{Turn}
use Rattle.taps_rank.specs.declared.turn.Turns.{Turns}

-- an address's place and family
abbrev pub placed_family : ℕ × Address → ℕ × Family
placed_family (place, address) = (place, family_of address)

-- of addresses by place and family, how many come before this place and are of the family
abbrev pub round_of : List (ℕ × Family) → ℕ → Family → ℕ
round_of addresses place family =
    count_by (λ (earlier, other). nat_lt earlier place && is_same_family other family) addresses

-- 0 for the family of the first of them, else 1
abbrev pub side_of : List (ℕ × Family) → Family → ℕ
side_of [] family = 1
side_of ((place, first) ∷ others) family = if is_same_family first family then 0 else 1

-- the turn that one of them has
abbrev pub turn_of : List (ℕ × Family) → ℕ × Family → Turn
turn_of addresses (place, family) = record { round = round_of addresses place family; side = side_of addresses family }

-- how many are of the family
abbrev pub count_of : Family → List Family → ℕ
count_of family families = count_by (λ other. is_same_family other family) families

-- the first family, if there is one
abbrev pub first_of : List Family → Option Family
first_of [] = None
first_of (first ∷ others) = Some first

-- what is left of the families so far
abbrev pub turns_after : List Family → Turns
turns_after families = record {
  rounds = count_of Inet4 families ∷ count_of Inet6 families ∷ count_of Unix families ∷ [];
  first = first_of families;
}

-- a family's place among the numbers of rounds
abbrev pub family_place : Family → ℕ
family_place Inet4 = 0
family_place Inet6 = 1
family_place Unix = 2

-- how many addresses of the family have had a turn
abbrev pub round_in : Turns → Family → ℕ
round_in turns family = slice_index turns.rounds (family_place family)

-- the first family, or this one if there was none
abbrev pub first_or : Option Family → Family → Family
first_or None family = family
first_or (Some first) family = first

-- the turn of the next one
abbrev pub turn_in : Turns → Family → Turn
turn_in turns family = record {
  round = round_in turns family;
  side = if is_same_family (first_or turns.first family) family then 0 else 1;
}

-- what is left once it has had its turn
abbrev pub turns_with : Family → Turns → Turns
turns_with family turns = record {
  rounds = slice_set turns.rounds (family_place family) (round_in turns family + 1);
  first = Some (first_or turns.first family);
}
