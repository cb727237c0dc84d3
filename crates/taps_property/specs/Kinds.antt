-- The kinds of a property's value, and which values each takes (local).
use Rattle.std.specs.Prelude.{ℕ, List, Bool, ◌&&◌, Option, Some, None, Result, Ok, Err, length, nat_le, codes, if◌then◌else◌}
use Rattle.taps_base.specs.Lists.{ListState}
use Rattle.taps_property.specs.Entries.{are_different}
use Rattle.taps_property.specs.declared.capacity.Capacity.{Capacity}
use Rattle.taps_property.specs.declared.conn_state.ConnState.{ConnState}
use Rattle.taps_property.specs.declared.direction.Direction.{Direction}
use Rattle.taps_property.specs.declared.entry.Entry.{Entry}
use Rattle.taps_property.specs.declared.kind.Kind.{Kind}
use Rattle.taps_property.specs.declared.kind.Kind.TheVariants as kind
use Rattle.taps_property.specs.declared.kind.NoLimit.{NoLimit}
use Rattle.taps_property.specs.declared.kind.NoLimit.TheVariants.{FullCoverage, Disabled, Unlimited, Infinite}
use Rattle.taps_property.specs.declared.multipath.Multipath.{Multipath}
use Rattle.taps_property.specs.declared.policy.Policy.{Policy}
use Rattle.taps_property.specs.declared.preference.Preference.{Preference}
use Rattle.taps_property.specs.declared.prop_error.PropError.{PropError}
use Rattle.taps_property.specs.declared.prop_error.PropError.TheVariants.{WrongKind, OutOfRange, ReadOnly}
use Rattle.taps_property.specs.declared.prop_value.PropValue.{PropValue}
use Rattle.taps_property.specs.declared.prop_value.PropValue.TheVariants as value
use Rattle.taps_property.specs.declared.scheduler.Scheduler.{Scheduler}

-- the values of a kind
abbrev pub Value : Kind → Type 0
Value kind.Preference = Preference
Value kind.Flag = Bool
Value kind.Number = ℕ
Value (kind.Limit no_limit) = Option ℕ
Value kind.Multipath = Multipath
Value kind.Direction = Direction
Value kind.Scheduler = Scheduler
Value kind.Capacity = Capacity
Value kind.Policy = Policy
Value kind.State = ConnState
Value kind.Entries = ListState Entry

-- the word itself
abbrev pub word : NoLimit → List ℕ
word FullCoverage = codes "full-coverage"
word Disabled = codes "disabled"
word Unlimited = codes "unlimited"
word Infinite = codes "infinite"

-- the least number of a limit beside this word
abbrev pub least : NoLimit → ℕ
least FullCoverage = 0
least Disabled = 1
least Unlimited = 1
least Infinite = 1

-- what a number gives, if it is from low to the greatest of all
abbrev pub in_range : {A : Type 0} → ℕ → ℕ → A → Result A PropError
in_range low number it = if nat_le low number && nat_le number 4294967295 then Ok it else Err OutOfRange

-- the value of this kind, or why it is not taken
abbrev pub taken : (k : Kind) → PropValue → Result (Value k) PropError
taken kind.Preference (value.Pref preference) = Ok preference
taken kind.Flag (value.Flag flag) = Ok flag
taken kind.Number (value.Number number) = in_range 0 number number
taken (kind.Limit no_limit) (value.Limit None) = Ok None
taken (kind.Limit no_limit) (value.Limit (Some number)) = in_range (least no_limit) number (Some number)
taken kind.Multipath (value.Multipath multipath) = Ok multipath
taken kind.Direction (value.Direction direction) = Ok direction
taken kind.Scheduler (value.Scheduler scheduler) = Ok scheduler
taken kind.Capacity (value.Capacity capacity) = Ok capacity
taken kind.Policy (value.Policy policy) = Ok policy
taken kind.Entries (value.Entries entries) =
    if nat_le (length entries.items) 8 && are_different entries.items then Ok entries else Err OutOfRange
taken kind.State v = Err ReadOnly
taken k v = Err WrongKind

-- the value of this kind as it is told
abbrev pub told : (k : Kind) → Value k → PropValue
told kind.Preference preference = value.Pref preference
told kind.Flag flag = value.Flag flag
told kind.Number number = value.Number number
told (kind.Limit no_limit) limit = value.Limit limit
told kind.Multipath multipath = value.Multipath multipath
told kind.Direction direction = value.Direction direction
told kind.Scheduler scheduler = value.Scheduler scheduler
told kind.Capacity capacity = value.Capacity capacity
told kind.Policy policy = value.Policy policy
told kind.State state = value.State state
told kind.Entries entries = value.Entries entries
