use Rattle.std.proofs.Common.{◌<◌, [], length, rules, arith}
use Rattle.toml.specs.View.{array_view}
use Rattle.taps_table.specs.Values.{items_after}
use Rattle.std.proofs.lemmas.Grind.{common_steps}
use Rattle.std.proofs.lemmas.Result.{err_from_is_err_and}
use Rattle.taps_table.specs.Places.{place_text}
use Rattle.taps_table.proofs.Items.{goes_on, ends, is_done}
use Rattle.taps_table.proofs.array.read_items.Goals as goal

pub returns-in_err-next : goal.returns-in_err-next
returns-in_err-next g c =
    let p = err_from_is_err_and c.from_residual.result c.from_residual.ensures.1 in
    let lt : c.loop-index.index < length c.args.values.now.items = search (rules, arith) in
    rw (p.1, p.2) (ends (g.K.Item.reads_item c.args.kind.now) (place_text c.args.place.now) c.loop-index.index c.args.values.now.items c.value-item.result c.loop-index.read.items (items_after (g.K.Item.reads_item c.args.kind.now) (place_text c.args.place.now) [] (array_view c.args.values.now)) c.in_err-next.field-0.0 lt (rw c.deref-value-items.ensures.value at c.value-item.is) c.loop-index.invariant.1 c.loop-index.invariant.0 (rw c.deref.ensures.value at c.in_err-next.ensures))

pub loop-index-preserved : goal.loop-index-preserved
loop-index-preserved g c =
    let lt : c.loop-index.index < length c.args.values.now.items = search (rules, arith) in
    (rw c.in_ok-push.ensures.items (goes_on (g.K.Item.reads_item c.args.kind.now) (place_text c.args.place.now) c.loop-index.index c.args.values.now.items c.value-item.result c.loop-index.read.items (items_after (g.K.Item.reads_item c.args.kind.now) (place_text c.args.place.now) [] (array_view c.args.values.now)) c.in_ok-next.next lt (rw c.deref-value-items.ensures.value at c.value-item.is) c.loop-index.invariant.1 c.loop-index.invariant.0 (rw c.deref.ensures.value at c.in_ok-next.ensures)), grind (arith, common_steps))

pub returns : goal.returns
returns g c = is_done (g.K.Item.reads_item c.args.kind.now) (place_text c.args.place.now) c.loop-index.index c.args.values.now.items c.loop-index.read.items (items_after (g.K.Item.reads_item c.args.kind.now) (place_text c.args.place.now) [] (array_view c.args.values.now)) (search (rules, arith)) c.loop-index.invariant.0
