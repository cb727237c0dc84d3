-- What the error output receives.
use Rattle.std.specs.Prelude.{◌≡◌, ◌⊎◌, ℕ, List}
use Rattle.taps_base.specs.Sinks.{SinkState, Receives}
use Rattle.taps_base.specs.declared.sink.SinkAnswer.{SinkAnswer}

-- one write of this line, taken or not
abbrev pub Tells : SinkState → SinkState → List ℕ → Type 0
Tells old new line = (answer : SinkAnswer) × Receives answer old new line

-- the same, or nothing where no memory is found for the line
abbrev pub MayTell : SinkState → SinkState → List ℕ → Type 0
MayTell old new line = (new ≡ old) ⊎ Tells old new line
