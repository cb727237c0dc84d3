-- What is asked of a stack and its path (RFC 9622 section 6.2; names, kinds, defaults and profiles are local).
use Rattle.std.specs.Prelude.{ℕ, List, [], ◌∷◌, false, bytes_eq, codes, map, slice_set, slice_index_or, Bool, ◌||◌}
use Rattle.taps_base.specs.Lists.{filled}
use Rattle.taps_property.specs.Properties.{Row, row}
use Rattle.taps_property.specs.StackProperties.{stack_properties, stack_place}
use Rattle.taps_property.specs.declared.direction.Direction.TheVariants.{Bidirectional}
use Rattle.taps_property.specs.declared.kind.Kind.TheVariants as kind
use Rattle.taps_property.specs.declared.multipath.Multipath.{Multipath}
use Rattle.taps_property.specs.declared.multipath.Multipath.TheVariants.{Disabled, Passive}
use Rattle.taps_property.specs.declared.preference.Preference.{Preference}
use Rattle.taps_property.specs.declared.preference.Preference.TheVariants.{Require, Prefer, NoPreference, Avoid}
use Rattle.taps_property.specs.declared.profile.Profile.{Profile}
use Rattle.taps_property.specs.declared.profile.Profile.TheVariants.{ReliableInorderStream, ReliableMessage, UnreliableDatagram}
use Rattle.taps_property.specs.declared.role.Role.{Role}
use Rattle.taps_property.specs.declared.role.Role.TheVariants.{Initiate, Listen, Rendezvous}
use Rattle.taps_property.specs.declared.selection.Selection.{Selection}
use Rattle.taps_property.specs.declared.stack_property.StackProperty.{StackProperty}
use Rattle.taps_property.specs.declared.stack_property.StackProperty.TheVariants.{Reliability, PreserveMsgBoundaries, PerMsgReliability, PreserveOrder, ZeroRttMsg, Multistreaming, FullChecksumSend, FullChecksumRecv, CongestionControl, KeepAlive, SoftErrorNotify, ActiveReadBeforeSend}

-- the preference for this property of stacks
abbrev pub preference_for : StackProperty → Selection → Preference
preference_for property s = slice_index_or s.stack (stack_place property) NoPreference

-- the selection with this preference for a property of stacks
abbrev pub with_preference : StackProperty → Preference → Selection → Selection
with_preference property preference s = record s { stack = slice_set s.stack (stack_place property) preference }

-- the row of a property of stacks
abbrev pub stack_row : List ℕ → StackProperty → Row Selection
stack_row name property = row name kind.Preference (preference_for property) (with_preference property)

-- all of them, in order
abbrev pub selection_table : List (Row Selection)
selection_table =
    stack_row (codes "reliability") Reliability
    ∷ stack_row (codes "preserveMsgBoundaries") PreserveMsgBoundaries
    ∷ stack_row (codes "perMsgReliability") PerMsgReliability
    ∷ stack_row (codes "preserveOrder") PreserveOrder
    ∷ stack_row (codes "zeroRttMsg") ZeroRttMsg
    ∷ stack_row (codes "multistreaming") Multistreaming
    ∷ stack_row (codes "fullChecksumSend") FullChecksumSend
    ∷ stack_row (codes "fullChecksumRecv") FullChecksumRecv
    ∷ stack_row (codes "congestionControl") CongestionControl
    ∷ stack_row (codes "keepAlive") KeepAlive
    ∷ row (codes "interface") kind.Entries (λ s. filled s.interface.items) (λ v s. record s { interface = v })
    ∷ row (codes "pvd") kind.Entries (λ s. filled s.pvd.items) (λ v s. record s { pvd = v })
    ∷ row (codes "useTemporaryLocalAddress") kind.Preference (λ s. s.temporary) (λ v s. record s { temporary = v })
    ∷ row (codes "multipath") kind.Multipath (λ s. s.multipath) (λ v s. record s { multipath = v })
    ∷ row (codes "advertisesAltaddr") kind.Flag (λ s. s.advertises_altaddr) (λ v s. record s { advertises_altaddr = v })
    ∷ row (codes "direction") kind.Direction (λ s. s.direction) (λ v s. record s { direction = v })
    ∷ stack_row (codes "softErrorNotify") SoftErrorNotify
    ∷ stack_row (codes "activeReadBeforeSend") ActiveReadBeforeSend
    ∷ []

-- those whose value is a list, which takes memory to tell
abbrev pub is_collection : List ℕ → Bool
is_collection name = bytes_eq name (codes "interface") || bytes_eq name (codes "pvd")

-- the same for every role
abbrev pub default_preference : StackProperty → Preference
default_preference Reliability = Require
default_preference PreserveMsgBoundaries = NoPreference
default_preference PerMsgReliability = NoPreference
default_preference PreserveOrder = Require
default_preference ZeroRttMsg = NoPreference
default_preference Multistreaming = Prefer
default_preference FullChecksumSend = Require
default_preference FullChecksumRecv = Require
default_preference CongestionControl = Require
default_preference KeepAlive = NoPreference
default_preference SoftErrorNotify = NoPreference
default_preference ActiveReadBeforeSend = NoPreference

-- the same for every role, in the order of stack properties
abbrev pub default_preferences : List Preference
default_preferences = map default_preference stack_properties

-- the default for a temporary local address
abbrev pub default_temporary : Role → Preference
default_temporary Initiate = Prefer
default_temporary Listen = Avoid
default_temporary Rendezvous = Avoid

-- the default for multipath
abbrev pub default_multipath : Role → Multipath
default_multipath Initiate = Disabled
default_multipath Listen = Passive
default_multipath Rendezvous = Disabled

-- what is asked in a role where an application says nothing
abbrev pub default_selection : Role → Selection
default_selection role = record {
  stack = default_preferences;
  interface = filled [];
  pvd = filled [];
  temporary = default_temporary role;
  multipath = default_multipath role;
  advertises_altaddr = false;
  direction = Bidirectional;
}

-- what a profile asks of the stack
abbrev pub profile_preferences : Profile → List (StackProperty × Preference)
profile_preferences ReliableInorderStream =
    (Reliability, Require) ∷ (PreserveOrder, Require) ∷
    (CongestionControl, Require) ∷ (PreserveMsgBoundaries, NoPreference) ∷ []
profile_preferences ReliableMessage =
    (Reliability, Require) ∷ (PreserveOrder, Require) ∷
    (CongestionControl, Require) ∷ (PreserveMsgBoundaries, Require) ∷ []
profile_preferences UnreliableDatagram =
    (Reliability, Avoid) ∷ (PreserveOrder, Avoid) ∷
    (CongestionControl, NoPreference) ∷ (PreserveMsgBoundaries, Require) ∷ []

-- the selection with each of these preferences
abbrev pub with_preferences : List (StackProperty × Preference) → Selection → Selection
with_preferences [] s = s
with_preferences (asked ∷ more) s = with_preferences more (with_preference asked.0 asked.1 s)

-- the selection once the profile is applied
abbrev pub with_profile : Profile → Selection → Selection
with_profile profile = with_preferences (profile_preferences profile)
