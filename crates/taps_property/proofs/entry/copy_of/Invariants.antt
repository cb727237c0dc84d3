use Rattle.std.proofs.Common.{◌≡◌, take}
use Rattle.taps_base.specs.Lists.{filled}
use Rattle.taps_property.proofs.entry.copy_of.Given as goal

abbrev pub invariant-loop-entry : goal.invariant-loop-entry
invariant-loop-entry l = l.copies ≡ filled (take l.entry-index l.entry-items)
