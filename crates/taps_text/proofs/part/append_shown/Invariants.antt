use Rattle.std.proofs.Common.{◌≡◌, ◌++◌, map, take}
use Rattle.taps_text.specs.Printed.{printed}
use Rattle.taps_text.proofs.part.append_shown.Given as goal

abbrev pub invariant-loop-byte : goal.invariant-loop-byte
invariant-loop-byte l = l.text.items ≡ l.fn.text.items ++ map printed (take l.byte-index l.bytes)
