use Rattle.std.proofs.Common.{◌<◌, length, rules, arith}
use Rattle.std.proofs.lemmas.Result.{err_from_is_err_and}
use Rattle.toml.specs.View.{table_view}
use Rattle.taps_table.specs.Places.{place_text}
use Rattle.taps_preconnection.proofs.PropertySteps.{set_on, set_no_more, all_set}
use Rattle.taps_preconnection.proofs.property_table.read_properties.Goals as goal

pub returns-in_err-read_property : goal.returns-in_err-read_property
returns-in_err-read_property g c =
    let p = err_from_is_err_and c.from_residual.result c.from_residual.ensures.1 in
    let lt : c.loop-property.property-index < length c.properties-property-items.result.now = search (rules, arith) in
    rw (p.1, p.2) (set_no_more g.S.PropertySet.sets c.properties-property-items.result.now c.loop-property.property-index _ (place_text c.args.place.now) (table_view c.args.table.now) c.loop-property.props _ c.in_err-read_property.field-0.0 lt c.loop-property.invariant c.in_err-read_property.ensures)

pub loop-property-preserved : goal.loop-property-preserved
loop-property-preserved g c =
    let lt : c.loop-property.property-index < length c.properties-property-items.result.now = search (rules, arith) in
    set_on g.S.PropertySet.sets c.properties-property-items.result.now c.loop-property.property-index _ (place_text c.args.place.now) (table_view c.args.table.now) c.loop-property.props _ c.read_property.new.props lt c.loop-property.invariant c.in_ok-read_property.ensures

pub returns : goal.returns
returns g c = all_set g.S.PropertySet.sets c.properties-property-items.result.now c.loop-property.property-index (place_text c.args.place.now) (table_view c.args.table.now) c.loop-property.props _ (search (rules, arith)) c.loop-property.invariant
