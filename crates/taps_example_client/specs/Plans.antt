-- What a client plans and races.
use Rattle.std.specs.Prelude.{◌≡◌, ◌<◌, ℕ, ⊤, List, Result, Ok, Err, length, map}
use Rattle.taps_preconnection.specs.declared.preconnection.Preconnection.{Preconnection}
use Rattle.taps_preconnection.specs.File.{preconnection_of}
use Rattle.taps_stack.specs.declared.target.Target.{Target}
use Rattle.taps_socket.specs.Rules.{Rules}
use Rattle.taps_example_client.specs.PlanFacts.{IsPlanOf, addresses_of}
use Rattle.taps_example_client.specs.declared.plan.Planned.{Planned}
use Rattle.taps_example_client.specs.declared.plan.PlanError.{PlanError}
use Rattle.taps_example_client.specs.declared.plan.PlanError.TheVariants.{File, TooMany, NoMemory}

-- the plan for a Preconnection, which has at most 32 addresses; out of memory is free
abbrev pub PlansFor : Preconnection → Result Planned PlanError → Type 0
PlansFor pre (Ok planned) = (planned.pre ≡ pre) × IsPlanOf planned.pre planned.plan
PlansFor pre (Err (File why)) = ⊥
PlansFor pre (Err (TooMany count)) = (count ≡ length (addresses_of pre)) × (32 < count)
PlansFor pre (Err NoMemory) = ⊤

-- the plan for what a file says, or the file's refusal
abbrev pub Plans : List ℕ → Result Planned PlanError → Type 0
Plans file (Ok planned) = (preconnection_of file ≡ Ok planned.pre) × IsPlanOf planned.pre planned.plan
Plans file (Err (File why)) = preconnection_of file ≡ Err why
Plans file (Err (TooMany count)) = (pre : Preconnection) ×
    ((preconnection_of file ≡ Ok pre) × (count ≡ length (addresses_of pre)) × (32 < count))
Plans file (Err NoMemory) = ⊤

-- the rules of its race, and what the leaves try
abbrev pub rules_of : Planned → Rules
rules_of planned = record {
  gaps = planned.plan.gaps.items;
  timeout = planned.pre.race.timeout_ms;
  cancel = planned.pre.race.cancel_ms;
}

abbrev pub targets_of : Planned → List Target
targets_of planned = map (λ leaf. leaf.target) planned.plan.leaves.items
