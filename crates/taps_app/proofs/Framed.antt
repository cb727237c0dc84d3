-- Frames and messages are a text, also where they end early.
use Rattle.std.proofs.Common.{Bool, true, false}
use Rattle.taps_command.specs.Meanings.{HasText}
use Rattle.taps_app.specs.Frame.{status_if}

pub text_if : (whole : Bool) → HasText (status_if whole)
text_if true = tt
text_if false = tt
