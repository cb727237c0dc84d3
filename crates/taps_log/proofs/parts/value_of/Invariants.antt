use Rattle.std.proofs.Common.{◌≡◌, true, drop}
use Rattle.std.specs.List.{list_all}
use Rattle.std.specs.Char.{is_ascii_digit}
use Rattle.taps_log.specs.Reading.{value_behind}
use Rattle.taps_log.proofs.parts.value_of.Given as goal

abbrev pub invariant-loop-byte : goal.invariant-loop-byte
invariant-loop-byte l =
    record {
      same : value_behind l.value (drop l.byte-index l.digits) ≡ value_behind 0 l.digits;
      digits : list_all is_ascii_digit (drop l.byte-index l.digits) ≡ true;
    }
