-- The properties of a group's members: all of them are shared but for the priority (RFC 9622 section 7.4; the bound on
-- the members is local).
use Rattle.std.specs.Prelude.{◌≡◌, ℕ, min, true, false, List, Result, Ok, bytes_eq, codes}
use Rattle.std.specs.Option.{option_map_or}
use Rattle.taps_property.specs.Connections.{connection_table}
use Rattle.taps_property.specs.Properties.{settings, set_in}
use Rattle.taps_property.specs.declared.connection_props.ConnectionProps.{ConnectionProps}
use Rattle.taps_property.specs.declared.prop_error.PropError.{PropError}
use Rattle.taps_property.specs.declared.prop_value.PropValue.{PropValue}

-- the properties of a member with this priority, by those that are shared
abbrev pub with_priority : ℕ → ConnectionProps → ConnectionProps
with_priority priority props = record props { conn_priority = priority }

-- the priority of a member that an application says nothing of
abbrev pub first_priority : ℕ
first_priority = 100

-- how many members a group may have: groupConnLimit, and 16 where that is greater or unlimited
abbrev pub most_members : ConnectionProps → ℕ
most_members props = min 16 (option_map_or (λ n. n) props.group_conn_limit 16)

-- the name of the one property that is not shared
abbrev pub priority_name : List ℕ
priority_name = codes "connPriority"

-- what becomes of a set of properties once one is set, or the refusal
abbrev pub set_by : List ℕ → PropValue → ConnectionProps → Result ConnectionProps PropError
set_by name value props = set_in (settings connection_table) props name value

-- One member's property was set: the shared properties and its priority were these, and are those. Every other member
-- with a priority has it set too, unless it is the priority; then the other's properties stay.
pub record IsSetFor (name : List ℕ) (value : PropValue) (props props' : ConnectionProps) (priority priority' : ℕ) :
    Type 0 where
  pub own : set_by name value (with_priority priority props) ≡ Ok (with_priority priority' props')
  pub shared : (other : ℕ) → bytes_eq name priority_name ≡ false →
      set_by name value (with_priority other props) ≡ Ok (with_priority other props')
  pub alone : (other : ℕ) → bytes_eq name priority_name ≡ true →
      with_priority other props' ≡ with_priority other props
