-- When a race is under way over sockets.
use Rattle.std.specs.Prelude.{◌≡◌, ◌≤◌, ℕ, ◌+◌, ◌*◌, true, false, List, [], ◌++◌, length}
use Rattle.taps_base.specs.Counts.{Rose}
use Rattle.taps_stack.specs.declared.target.Target.{Target}
use Rattle.taps_socket.specs.declared.item.Item.{Item}
use Rattle.taps_socket.specs.declared.answers.StartAnswer.{StartAnswer}
use Rattle.taps_socket.specs.declared.answers.StartAnswer.TheVariants as start
use Rattle.taps_socket.specs.RaceTrace.{has_fault}
use Rattle.taps_socket.specs.RaceSockets.{has, started, pending_sockets}
use Rattle.taps_socket.specs.LiveSockets.{named}
use Rattle.taps_socket.specs.Rules.{Rules}
use Rattle.taps_socket.specs.LawfulRace.{Each, HasTarget}
use Rattle.taps_socket.specs.Net.{Net, IsUnused, PreservesTraffic}
use Rattle.taps_racer.specs.declared.event.Told.{Told}
use Rattle.taps_racer.specs.declared.event.Told.TheVariants as told
use Rattle.taps_racer.specs.Kept.{Kept}
use Rattle.taps_racer.specs.Stands.{IsRun}

-- what came to the sockets' trace is a race for which the racer stands, over these targets, on sockets that were not in
-- the trace before and had no traffic; nothing else changed; and there is room for the rest of its items
pub record IsUnderWay (kept : Kept) (rules : Rules) (first : ℕ)
    (targets : List Target) (before now : Net) (race : List Item) : Type 0 where
  pub items : now.trace ≡ race ++ before.trace
  pub run : IsRun kept first race
  pub targets_in_order : Each (HasTarget targets) race
  pub same_rules : kept.rules ≡ rules
  pub leaves : length rules.gaps ≡ length targets
  pub told_last : now.told ≡ kept.last
  pub new_sockets : (s : ℕ) → has (started race) s ≡ true → has (named before.trace) s ≡ false
  pub unused : (s : ℕ) → has (started race) s ≡ true → IsUnused (before.traffic s)
  pub preserved : PreservesTraffic before now
  pub idle : pending_sockets before.trace ≡ []
  pub room : 4 * length targets + 1 ≤ now.spare + length race
  pub lowered : before.spare ≤ now.spare + length race
  pub counted : before.faults ≤ now.faults
  pub fault : has_fault race ≡ true → Rose before.faults now.faults

-- some race is under way
abbrev pub UnderWay : Kept → Rules → ℕ → List Target → Net → Net → Type 0
UnderWay kept rules first targets before now = (race : List Item) × IsUnderWay kept rules first targets before now race

-- where a race was under way, it goes on
abbrev pub KeepsUnderWay : Kept → Kept → Net → Net → Type 0
KeepsUnderWay kept after now later =
    (rules : Rules) (first : ℕ) (targets : List Target) (before : Net)
    → UnderWay kept rules first targets before now → UnderWay after rules first targets before later

-- the event of a start
abbrev pub told_of : ℕ → StartAnswer → Told
told_of leaf (start.Started socket at) = told.Started leaf socket at
told_of leaf (start.Refused cause at) = told.Refused leaf cause at
