-- The words of the file, and what each stands for (local).
use Rattle.std.specs.Prelude.{ℕ, List, [], ◌∷◌, codes}
use Rattle.taps_property.specs.declared.preference.Preference.{Preference}
use Rattle.taps_property.specs.declared.preference.Preference.TheVariants as preference
use Rattle.taps_property.specs.declared.profile.Profile.{Profile}
use Rattle.taps_property.specs.declared.profile.Profile.TheVariants as profile
use Rattle.taps_property.specs.declared.multipath.Multipath.{Multipath}
use Rattle.taps_property.specs.declared.multipath.Multipath.TheVariants as multipath
use Rattle.taps_property.specs.declared.direction.Direction.{Direction}
use Rattle.taps_property.specs.declared.direction.Direction.TheVariants as direction
use Rattle.taps_property.specs.declared.scheduler.Scheduler.{Scheduler}
use Rattle.taps_property.specs.declared.scheduler.Scheduler.TheVariants as scheduler
use Rattle.taps_property.specs.declared.capacity.Capacity.{Capacity}
use Rattle.taps_property.specs.declared.capacity.Capacity.TheVariants as capacity
use Rattle.taps_property.specs.declared.policy.Policy.{Policy}
use Rattle.taps_property.specs.declared.policy.Policy.TheVariants as policy
use Rattle.taps_endpoint.specs.declared.address.Family.{Family}
use Rattle.taps_endpoint.specs.declared.address.Family.TheVariants as family
use Rattle.taps_preconnection.specs.declared.race.Mode.{Mode}
use Rattle.taps_preconnection.specs.declared.race.Mode.TheVariants as race
use Rattle.taps_preconnection.specs.declared.exchange.RunRole.{RunRole}
use Rattle.taps_preconnection.specs.declared.exchange.RunRole.TheVariants as exchange

-- the words of preferences
unfoldable pub preference_words : List (List ℕ × Preference)
preference_words =
    (codes "require", preference.Require)
    ∷ (codes "prefer", preference.Prefer)
    ∷ (codes "no-preference", preference.NoPreference)
    ∷ (codes "avoid", preference.Avoid)
    ∷ (codes "prohibit", preference.Prohibit)
    ∷ []

-- the words of profiles
unfoldable pub profile_words : List (List ℕ × Profile)
profile_words =
    (codes "reliable-inorder-stream", profile.ReliableInorderStream)
    ∷ (codes "reliable-message", profile.ReliableMessage)
    ∷ (codes "unreliable-datagram", profile.UnreliableDatagram)
    ∷ []

-- the words of multipath
unfoldable pub multipath_words : List (List ℕ × Multipath)
multipath_words =
    (codes "disabled", multipath.Disabled)
    ∷ (codes "active", multipath.Active)
    ∷ (codes "passive", multipath.Passive)
    ∷ []

-- the words of directions
unfoldable pub direction_words : List (List ℕ × Direction)
direction_words =
    (codes "bidirectional", direction.Bidirectional)
    ∷ (codes "unidirectional-send", direction.UnidirectionalSend)
    ∷ (codes "unidirectional-receive", direction.UnidirectionalReceive)
    ∷ []

-- the words of schedulers
unfoldable pub scheduler_words : List (List ℕ × Scheduler)
scheduler_words =
    (codes "weighted-fair-queueing", scheduler.WeightedFairQueueing)
    ∷ (codes "first-come-first-served", scheduler.FirstComeFirstServed)
    ∷ []

-- the words of capacity profiles
unfoldable pub capacity_words : List (List ℕ × Capacity)
capacity_words =
    (codes "default", capacity.Default)
    ∷ (codes "scavenger", capacity.Scavenger)
    ∷ (codes "low-latency-interactive", capacity.LowLatencyInteractive)
    ∷ (codes "low-latency-non-interactive", capacity.LowLatencyNonInteractive)
    ∷ (codes "constant-rate-streaming", capacity.ConstantRateStreaming)
    ∷ (codes "capacity-seeking", capacity.CapacitySeeking)
    ∷ []

-- the words of multipath policies
unfoldable pub policy_words : List (List ℕ × Policy)
policy_words =
    (codes "handover", policy.Handover)
    ∷ (codes "interactive", policy.Interactive)
    ∷ (codes "aggregate", policy.Aggregate)
    ∷ []

-- the words of address families
unfoldable pub family_words : List (List ℕ × Family)
family_words =
    (codes "inet4", family.Inet4)
    ∷ (codes "inet6", family.Inet6)
    ∷ (codes "unix", family.Unix)
    ∷ []

-- the words of modes of a race
unfoldable pub mode_words : List (List ℕ × Mode)
mode_words =
    (codes "simultaneous", race.Simultaneous)
    ∷ (codes "staggered", race.Staggered)
    ∷ (codes "failover", race.Failover)
    ∷ []

-- the words of roles of a run
unfoldable pub role_words : List (List ℕ × RunRole)
role_words =
    (codes "initiate", exchange.Initiate)
    ∷ (codes "listen", exchange.Listen)
    ∷ (codes "loop", exchange.Loop)
    ∷ []
