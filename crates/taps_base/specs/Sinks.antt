-- What contracts see of a sink, and what a write does to it.
use Rattle.std.specs.Prelude.{◌≡◌, ℕ, ◌<◌, ◌≤◌, List, length, take, Option}
use Rattle.std.specs.Io.KnownBytes.{Appends}
use Rattle.taps_base.specs.Counts.{Rose, one_more}
use Rattle.taps_base.specs.declared.sink.SinkAnswer.{SinkAnswer}
use Rattle.taps_base.specs.declared.sink.SinkAnswer.TheVariants.{Taken, Failed}

-- the bytes taken, where observable; how often a write failed, and how many writes were made
pub record SinkState : Type 0 where
  pub taken : Option (List ℕ)
  pub faults : ℕ
  pub writes : ℕ

-- observable bytes grow by a prefix of these
abbrev pub AppendsPrefix : Option (List ℕ) → Option (List ℕ) → List ℕ → Type 0
AppendsPrefix old new bytes = (n : ℕ) × Appends old new (take n bytes)

-- observable bytes grow by all of these, or by a prefix
abbrev pub Writes : SinkAnswer → Option (List ℕ) → Option (List ℕ) → List ℕ → Type 0
Writes Taken old new bytes = Appends old new bytes
Writes Failed old new bytes = AppendsPrefix old new bytes

-- a sink received one write, of these bytes, and answered so
pub record Receives (answer : SinkAnswer) (old new : SinkState) (bytes : List ℕ) : Type 0 where
  pub some : 0 < length bytes
  pub once : new.writes ≡ one_more old.writes
  pub taken : Writes answer old.taken new.taken bytes
  pub never_falls : old.faults ≤ new.faults
  pub fault : answer ≡ Failed → Rose old.faults new.faults
  pub quiet : answer ≡ Taken → new.faults ≡ old.faults
