use Rattle.std.proofs.Common.{◌≡◌, [], drop, length}
use Rattle.toml.specs.View.{items_view, array_view}
use Rattle.taps_table.specs.Places.{place_text}
use Rattle.taps_table.specs.Values.{items_after}
use Rattle.taps_table.proofs.array.read_items.Given as goal

abbrev pub invariant-loop-index : goal.invariant-loop-index
invariant-loop-index g l =
    (items_after (g.K.Item.reads_item l.kind) (place_text l.place) l.read.items (items_view (drop l.index l.values.items)) ≡ items_after (g.K.Item.reads_item l.kind) (place_text l.place) [] (array_view l.values))
    × (l.index ≡ length l.read.items)
