-- The tables whose keys are properties: `selection` and `connection`, and what a profile brings.
use Rattle.std.specs.Prelude.{ℕ, List, Bool, true, false, Option, Some, None, Result, Ok}
use Rattle.toml.specs.Data.{Members}
use Rattle.taps_property.specs.Connections.{connection_settings, connection_table, default_connection}
use Rattle.taps_property.specs.Messages.{message_table}
use Rattle.taps_property.specs.Properties.{Key, key_names, keys, set_in, settings}
use Rattle.taps_property.specs.Selections.{selection_table, default_selection, with_profile}
use Rattle.taps_property.specs.declared.connection_props.ConnectionProps.{ConnectionProps}
use Rattle.taps_property.specs.declared.profile.Profile.{Profile}
use Rattle.taps_property.specs.declared.profile.Profile.TheVariants.{ReliableInorderStream, ReliableMessage, UnreliableDatagram}
use Rattle.taps_property.specs.declared.role.Role.{Role}
use Rattle.taps_property.specs.declared.role.Role.TheVariants.{Initiate, Listen, Rendezvous}
use Rattle.taps_property.specs.declared.selection.Selection.{Selection}
use Rattle.taps_table.specs.Keys.{Keys, keys_of}
use Rattle.taps_preconnection.specs.MessageSets.{set_table}
use Rattle.taps_preconnection.specs.PropertyTables.{Setter, properties, properties_at}
use Rattle.taps_base.specs.Results.{◌>>=◌}
use Rattle.taps_preconnection.specs.declared.message_set.MessageSet.{MessageSet}
use Rattle.taps_table.specs.declared.pre_error.PreError.{PreError}
use Rattle.taps_preconnection.specs.declared.selections.Selections.{Selections}

-- the keys of a table `connection`
unfoldable pub connection_properties : List Key
connection_properties = keys (settings connection_settings)

-- how a property of a connection is set
unfoldable pub set_connection : Setter ConnectionProps
set_connection = set_in (settings connection_table)

-- the keys of a table `selection`
unfoldable pub selection_properties : List Key
selection_properties = keys (settings selection_table)

-- how a property of a selection is set
unfoldable pub set_selection : Setter Selection
set_selection = set_in (settings selection_table)

-- the keys of a message that are properties
unfoldable pub message_properties : List Key
message_properties = keys (settings message_table)

-- how a property of a message is set
unfoldable pub set_message : Setter MessageSet
set_message = set_in set_table

-- the connection's over the defaults
abbrev pub connection_at : List ℕ → Members → Result ConnectionProps PreError
connection_at = keys_of (properties set_connection connection_properties default_connection)

-- what is asked in a role before the file's own selection: the defaults, and the profile over them
abbrev pub profiled : Option Profile → Role → Selection
profiled None role = default_selection role
profiled (Some profile) role = with_profile profile (default_selection role)

-- the file's own selection over that
abbrev pub selected : Option Profile → Role → List ℕ → Members → Result Selection PreError
selected profile role path ms =
    properties_at set_selection selection_properties path ms (profiled profile role)

-- what is asked in each role
abbrev pub selection_keys : Option Profile → Keys Selections
selection_keys profile = record {
  names = key_names selection_properties;
  reads = λ path ms.
      selected profile Initiate path ms >>= λ initiating.
      selected profile Listen path ms >>= λ listening.
      selected profile Rendezvous path ms >>= λ meeting.
      Ok (record { initiating = initiating; listening = listening; meeting = meeting });
}

-- the table `selection`, beside this profile
abbrev pub selections_at : Option Profile → List ℕ → Members → Result Selections PreError
selections_at profile = keys_of (selection_keys profile)

-- what is asked where the file has no table `selection`
abbrev pub unselected : Option Profile → Selections
unselected profile = record {
  initiating = profiled profile Initiate;
  listening = profiled profile Listen;
  meeting = profiled profile Rendezvous;
}

-- whether messages may be sent again under this profile
abbrev pub is_replayable : Option Profile → Bool
is_replayable None = false
is_replayable (Some ReliableInorderStream) = false
is_replayable (Some ReliableMessage) = false
is_replayable (Some UnreliableDatagram) = true
