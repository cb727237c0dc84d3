use Rattle.taps_frames.proofs.StuffedLaws.{lawful}
use Rattle.taps_frames.proofs.stuffed.StuffedFramer.vouch.Goals as goal

pub returns : goal.returns
returns c = record { at = λ i _. lawful i }
