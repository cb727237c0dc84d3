use Rattle.std.proofs.Common.{◌≡◌, drop}
use Rattle.toml.specs.View.{table_view}
use Rattle.taps_property.specs.Properties.{listed_keys}
use Rattle.taps_table.specs.Places.{place_text}
use Rattle.taps_preconnection.specs.PropertyTables.{properties_at}
use Rattle.taps_preconnection.proofs.property_table.read_properties.Given as goal

abbrev pub invariant-loop-property : goal.invariant-loop-property
invariant-loop-property g l =
    properties_at g.S.PropertySet.sets (listed_keys (drop l.property-index l.property-items)) (place_text l.place) (table_view l.table) l.props
    ≡ properties_at g.S.PropertySet.sets g.S.PropertySet.keys (place_text l.place) (table_view l.table) l.initial.props
