-- How far the leaves of a plan were given, one after another.
use Rattle.std.specs.Prelude.{◌≡◌, ◌≤◌, ◌-◌, List, [], ◌++◌, length, take, slice_get, Option}
use Rattle.std.specs.Option.{option_to_list}
use Rattle.taps_endpoint.specs.declared.address.Address.{Address}
use Rattle.taps_candidate.specs.declared.plan.Leaf.{Leaf}
use Rattle.taps_candidate.specs.Gathering.{Gathering}
use Rattle.taps_candidate.specs.Plan.{leaves_of}

-- the leaves that were given, those to come, those of them that wait since their branch is expanded, and the addresses
-- of the race
pub record Progress : Type 0 where
  pub given : List Leaf
  pub to_come : List Leaf
  pub waiting : List Leaf
  pub addresses : List Address

-- those that wait are the first of those to come, and at most as many as there are addresses
pub record IsWaiting (p : Progress) : Type 0 where
  pub first : p.waiting ≡ take (length p.waiting) p.to_come
  pub few : length p.waiting ≤ length p.addresses

-- nothing was given yet of the leaves of a plan
pub record IsStart (g : Gathering) (p : Progress) : Type 0 where
  pub given : p.given ≡ []
  pub to_come : p.to_come ≡ leaves_of g
  pub addresses : p.addresses ≡ g.addresses

-- the first of the leaves to come is given, and none comes if and only if all were given
pub record GivesNext (old new : Progress) (given : Option Leaf) : Type 0 where
  pub first : given ≡ slice_get old.to_come 0
  pub given_after : new.given ≡ old.given ++ option_to_list given
  pub rest : old.to_come ≡ option_to_list given ++ new.to_come
  pub same_addresses : new.addresses ≡ old.addresses

-- of all leaves those before the rest
abbrev pub before_rest : List Leaf → List Leaf → List Leaf
before_rest all rest = take (length all - length rest) all
