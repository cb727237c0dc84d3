-- The plan that a command writes first, by the bytes of FILE alone.
use Rattle.std.specs.Prelude.{◌≡◌, ℕ, List, [], ◌∷◌, ◌++◌, Ok, codes}
use Rattle.taps_base.specs.Files.{Contents, IsContent}
use Rattle.taps_base.specs.Sinks.{SinkState}
use Rattle.taps_base.specs.declared.sink.SinkAnswer.TheVariants as answers
use Rattle.taps_endpoint.specs.declared.address.Address.{Address}
use Rattle.taps_endpoint.specs.DerivedAddresses.{derived_addresses}
use Rattle.taps_preconnection.specs.File.{preconnection_of}
use Rattle.taps_preconnection.specs.declared.preconnection.Preconnection.{Preconnection}
use Rattle.taps_command.specs.Meanings.{HasText}
use Rattle.taps_command.specs.Runs.{Takes}
use Rattle.taps_property.specs.declared.role.Role.TheVariants.{Initiate}
use Rattle.taps_candidate.specs.Plan.{RankedPlan}
use Rattle.taps_session.specs.FileSessions.{plan_in, plan_for, text_of}
use Rattle.taps_command.specs.declared.status.Status.{Status}

-- FILE's bytes, where observable, have this meaning, and where the sink's bytes are observable too, what it took begins
-- with the text of the plan that the meaning has over its derived addresses
pub record IsPlanned (contents : Contents) (name : List ℕ) (out out' : SinkState)
    (plan : Preconnection → List Address → RankedPlan) : Type 0 where
  pub bytes : List ℕ
  pub content : IsContent contents name bytes
  pub meaning : Preconnection
  pub read : preconnection_of bytes ≡ Ok meaning
  pub addresses : List Address
  pub derived : addresses ≡ derived_addresses meaning.hosts meaning.remotes.items
  pub rest : List ℕ
  pub takes : Takes answers.Taken out out' (text_of meaning (plan meaning addresses) ++ rest)

-- the plan over which the session of a file's role goes first
abbrev pub plan_to_run : Preconnection → List Address → RankedPlan
plan_to_run pre addresses = plan_for pre.exchange.role pre addresses

-- so it is for each command that has a plan, and each status that has a text
pub record IsPlanOfFile (words : List (List ℕ)) (contents : Contents) (out out' : SinkState) (s : Status) : Type 0 where
  pub plan : (file : List ℕ) → words ≡ codes "plan" ∷ file ∷ [] → HasText s →
      IsPlanned contents file out out' (plan_in Initiate)
  pub sim : (file script : List ℕ) → words ≡ codes "sim" ∷ file ∷ script ∷ [] → HasText s →
      IsPlanned contents file out out' (plan_in Initiate)
  pub run : (file : List ℕ) → words ≡ codes "run" ∷ file ∷ [] → HasText s →
      IsPlanned contents file out out' plan_to_run
