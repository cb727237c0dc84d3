use Rattle.taps_text.specs.ItemLines.{item_line}
use Rattle.taps_log_laws.specs.EntriesOf.{entry_of_item}
use Rattle.taps_log_laws.proofs.LineTexts.{item_is, written}
use Rattle.taps_log_laws.proofs.lines.read_item.Goals as goal

pub returns : goal.returns
returns c = c.read_whole.ensures (entry_of_item c.args.item.now) c.bound_item.ensures
    (written (item_line c.args.item.now) _ _ _ (entry_of_item c.args.item.now)
    c.clear.ensures.items c.in_ok-put_item.ensures c.deref.ensures.value (item_is c.args.item.now))
