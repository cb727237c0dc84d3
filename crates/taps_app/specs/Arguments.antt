-- What the arguments ask for.
use Rattle.std.specs.Prelude.{ℕ, List, [], ◌∷◌, Option, Some, None}
use Rattle.std.proofs.Common.{String, Global}
use Rattle.taps_base.specs.Files.{FilesState}
use Rattle.taps_base.specs.Sinks.{SinkState}
use Rattle.taps_framer.specs.Layers.{Layer}
use Rattle.taps_command.specs.Asked.{Asked, NoCommand, Makes, asked, HasBeenRun}
use Rattle.taps_command.specs.Nets.{SocketsState}
use Rattle.taps_command.specs.Runs.{names_of}
use Rattle.taps_command.specs.declared.status.Status.{Status}
use Rattle.taps_app.specs.Gen.{gen, number_asked}
use Rattle.taps_app.specs.Kinds.{meaning_of, kind_of}
use Rattle.taps_app.specs.declared.kind.Kind.{Kind}

-- what is asked for by a number, if there is one
abbrev pub asked_with : List Layer → Option ℕ → Asked
asked_with shelf None = NoCommand
asked_with shelf (Some number) = Makes (gen shelf number)

-- what is asked for under a kind, if there is one, or by a number
abbrev pub asked_by : List Layer → Option Kind → List ℕ → List (List ℕ) → Asked
asked_by shelf None word names = asked_with shelf (number_asked word names)
asked_by shelf (Some kind) word names = asked (meaning_of shelf kind) names

-- the first argument is the command's word, and the others are names, or a number
abbrev pub asked_in : List Layer → List (List ℕ) → Asked
asked_in shelf [] = NoCommand
asked_in shelf (word ∷ names) = asked_by shelf (kind_of word) word names

-- what the arguments ask for, with the framers of this shelf
abbrev pub asked_of : List Layer → List (String Global) → Asked
asked_of shelf words = asked_in shelf (names_of words)

-- what is kept of the command of a kind that was called, where the sockets were so before and after
pub record RunsKind (shelf : List Layer) (kind : Kind) (names : List (List ℕ)) (files files' : FilesState)
    (out out' err err' : SinkState) (s : Status) (old new : SocketsState) : Type 0 where
  pub run : HasBeenRun (asked (meaning_of shelf kind) names) files files' out out' err err' s old new
