use Rattle.std.proofs.Common.{[]}
use Rattle.taps_frames.proofs.Lines.{line_represents, no_line_yet}
use Rattle.taps_frames.proofs.line.LineFramer.start.Goals as goal

pub returns : goal.returns
returns c = line_represents c.args._index (record { phase = 0; length = 0; rest = 0 }) [] no_line_yet
