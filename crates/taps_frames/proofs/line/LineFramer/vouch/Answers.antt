use Rattle.taps_frames.proofs.Lines.{lawful}
use Rattle.taps_frames.proofs.line.LineFramer.vouch.Goals as goal

pub returns : goal.returns
returns c = record { at = λ i _. lawful i }
