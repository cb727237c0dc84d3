use Rattle.std.proofs.Common.{ap, sym, ◌∙◌}
use Rattle.taps_log.specs.Reading.{entry_in}
use Rattle.taps_log.proofs.Readings.{back}
use Rattle.taps_log.proofs.reader.read_line.Goals as goal

pub returns-clause-back : goal.returns-clause-back
returns-clause-back c entry written is = c.entry_in.ensures.reads ∙ (ap entry_in (sym is) ∙ back entry written)
