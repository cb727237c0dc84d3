-- One answer from another.
use Rattle.taps_framer.specs.declared.sight.Sight.{Sight}
use Rattle.taps_framer.specs.declared.sight.Sight.TheVariants as sight
use Rattle.taps_framer.specs.declared.scan.Seen.{Seen}
use Rattle.taps_framer.specs.declared.scan.Seen.TheVariants as seen
use Rattle.taps_framer.specs.declared.scan.Run.{Run}
use Rattle.taps_framer.specs.declared.scan.Run.TheVariants as run

-- what is seen with the one byte that a run looked at
abbrev pub seen_by : Run → Seen
seen_by (run.More scan) = seen.More scan
seen_by (run.Whole used) = seen.Whole
seen_by (run.Bad place) = seen.Bad

-- what is seen in the bytes that a run looked at from the first
abbrev pub sight_by : Run → Sight
sight_by (run.More scan) = sight.Need
sight_by (run.Whole used) = sight.Whole used
sight_by (run.Bad place) = sight.Bad place
