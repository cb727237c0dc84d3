-- The plan of a file's session, and the rules and targets of its race.
use Rattle.std.specs.Prelude.{◌≡◌, ◌<◌, ◌≤◌, ℕ, List, [], length, map, fold}
use Rattle.std.specs.List.{All, cons_option, flat_map}
use Rattle.taps_framer.specs.Layers.{Layer}
use Rattle.taps_endpoint.specs.declared.address.Address.{Address}
use Rattle.taps_endpoint.specs.declared.local.Local.{Local}
use Rattle.taps_endpoint.specs.DerivedAddresses.{with_address}
use Rattle.taps_preconnection.specs.declared.exchange.RunRole.{RunRole}
use Rattle.taps_preconnection.specs.declared.exchange.RunRole.TheVariants as role
use Rattle.taps_preconnection.specs.declared.preconnection.Preconnection.{Preconnection}
use Rattle.taps_property.specs.declared.role.Role.{Role}
use Rattle.taps_property.specs.declared.role.Role.TheVariants.{Initiate, Listen}
use Rattle.taps_stack.specs.declared.target.Target.{Target}
use Rattle.taps_socket.specs.Rules.{Rules}
use Rattle.taps_candidate.specs.Gathering.{gathering_of}
use Rattle.taps_candidate.specs.Plan.{RankedPlan, plan_of, listed}
use Rattle.taps_candidate.specs.PlanText.{interface_of, plan_text}
use Rattle.taps_candidate.specs.declared.plan.Plan as candidate
use Rattle.taps_racer.specs.Kept.{IsShort}
use Rattle.taps_command.specs.Places.{chain_of}
use Rattle.taps_command.specs.Ready.{Ready}

-- the plan of a role over addresses
abbrev pub plan_in : Role → Preconnection → List Address → RankedPlan
plan_in role pre addresses = plan_of (gathering_of pre role addresses) pre.race.mode pre.race.delay_ms

-- the plan of Initiate over the file's derived addresses
abbrev pub initiated : Ready → RankedPlan
initiated ready = plan_in Initiate ready.pre ready.addresses

-- the address of a local, if it has one
abbrev pub address_of : Local → List Address
address_of local = cons_option local.address []

-- the addresses on which a file listens: those of its locals, in their order, each once
abbrev pub local_addresses : Preconnection → List Address
local_addresses pre = fold with_address [] (flat_map address_of pre.locals.items)

-- the plan of Listen over them
abbrev pub listened : Ready → RankedPlan
listened ready = plan_in Listen ready.pre (local_addresses ready.pre)

-- the plan over which a session of a role goes first
abbrev pub plan_for : RunRole → Preconnection → List Address → RankedPlan
plan_for role.Initiate pre addresses = plan_in Initiate pre addresses
plan_for role.Listen pre addresses = plan_in Listen pre (local_addresses pre)
plan_for role.Loop pre addresses = plan_in Initiate pre addresses

-- the text of a plan
unfoldable pub text_of : Preconnection → RankedPlan → List ℕ
text_of pre plan = plan_text (interface_of pre) plan.leaves plan.gaps

-- the rules of its race
abbrev pub rules_of : Ready → Rules
rules_of ready =
    record { gaps = (initiated ready).gaps; timeout = ready.pre.race.timeout_ms; cancel = ready.pre.race.cancel_ms }

-- what the file's race tries, in the order of its plan
abbrev pub targets_of : Ready → List Target
targets_of ready = map (λ leaf. leaf.target) (initiated ready).leaves

-- it is this plan, with a gap for each leaf, and keeps the limits of a race
pub record IsPlanFor (ready : Ready) (wanted : RankedPlan) (plan : candidate.Plan) : Type 0 where
  pub ranked : listed plan ≡ wanted
  pub even : length plan.leaves.items ≡ length plan.gaps.items
  pub placed : All (λ leaf. leaf.path < length ready.pre.paths.items) plan.leaves.items
  pub few : length plan.leaves.items ≤ 768
  pub short : All IsShort plan.gaps.items

-- what a session that races goes by: these framers are the file's, and so are the rules of its race and these targets,
-- with a gap for each one, of which there are no more than a race may try
pub record IsPrepared (shelf : List Layer) (ready : Ready) (framers : List Layer) (rules : Rules)
    (targets : List Target) : Type 0 where
  pub layers : framers ≡ chain_of shelf ready.places
  pub same_rules : rules ≡ rules_of ready
  pub same_targets : targets ≡ targets_of ready
  pub leaves : length rules.gaps ≡ length targets
  pub few : length targets ≤ 1024
