use Rattle.std.proofs.Common.{◌≡◌, ◌++◌, take}
use Rattle.taps_text.specs.ItemLines.{item_lines}
use Rattle.taps_text.proofs.item.put_items.Given as goal

abbrev pub invariant-loop-item : goal.invariant-loop-item
invariant-loop-item l = l.text.items ≡ l.fn.text.items ++ item_lines (take l.item-index l.items)
