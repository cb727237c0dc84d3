use Rattle.std.proofs.Common.{◌≡◌, ◌*◌, take}
use Rattle.std.specs.List.{flat_map}
use Rattle.taps_text.specs.BodyLines.{byte_digits}
use Rattle.taps_text.proofs.hex.write_digits.Given as goal

abbrev pub invariant-loop-i : goal.invariant-loop-i
invariant-loop-i l = take (2 * l.i) l.place ≡ flat_map byte_digits (take l.i l.bytes)
