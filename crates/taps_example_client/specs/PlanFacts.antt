-- What holds of a Preconnection and the plan of its race.
use Rattle.std.specs.Prelude.{◌≡◌, ◌<◌, ◌≤◌, List, length}
use Rattle.std.specs.List.{All}
use Rattle.taps_endpoint.specs.declared.address.Address.{Address}
use Rattle.taps_endpoint.specs.DerivedAddresses.{derived_addresses}
use Rattle.taps_property.specs.declared.role.Role.TheVariants.{Initiate}
use Rattle.taps_preconnection.specs.declared.preconnection.Preconnection.{Preconnection}
use Rattle.taps_preconnection.specs.Limits.{IsWithin}
use Rattle.taps_candidate.specs.declared.plan.Plan.{Plan}
use Rattle.taps_candidate.specs.Gathering.{gathering_of}
use Rattle.taps_candidate.specs.Plan.{plan_of, listed}
use Rattle.taps_racer.specs.Kept.{IsShort}

-- the addresses of its remotes, each once
abbrev pub addresses_of : Preconnection → List Address
addresses_of pre = derived_addresses pre.hosts pre.remotes.items

-- it is the plan of Initiate over these addresses, and both keep the limits of a race
pub record IsPlanOf (pre : Preconnection) (plan : Plan) : Type 0 where
  pub ranked : listed plan ≡ plan_of (gathering_of pre Initiate (addresses_of pre)) pre.race.mode pre.race.delay_ms
  pub even : length plan.leaves.items ≡ length plan.gaps.items
  pub placed : All (λ leaf. leaf.path < length pre.paths.items) plan.leaves.items
  pub few : length plan.leaves.items ≤ 768
  pub short : All IsShort plan.gaps.items
  pub within : IsWithin pre
